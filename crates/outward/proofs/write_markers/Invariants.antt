-- What each turn of a loop in `outward::write_markers` keeps, and what falls.
use Prim.Native.Nat.{◌-◌}
use mathlib.Core.Path.{◌≡◌}
use lib.ListN.{length, drop}
use lib.Seq.{sets}
use Rattle.outward.specs.Words.{words_of}
use Rattle.outward.proofs.write_markers.Given as goal

abbrev pub invariant-loop-i : goal.invariant-loop-i
invariant-loop-i l = (l.count ≡ l.colour.count) × (length l.out ≡ length l.initial.out) × (sets l.out l.i (drop l.i (words_of l.colour)) ≡ sets l.initial.out 0 (words_of l.colour))

abbrev pub decreases-loop-i : goal.decreases-loop-i
decreases-loop-i l = l.count - l.i
