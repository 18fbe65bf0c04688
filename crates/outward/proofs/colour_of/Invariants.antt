-- What each turn of a loop in `outward::colour_of` keeps, and what falls.
use Prim.Native.Nat.{◌-◌}
use mathlib.Core.Path.{◌≡◌}
use lib.ListN.{length, drop}
use lib.Seq.{sets}
use Rattle.outward.specs.Words.{picks_for}
use Rattle.outward.proofs.colour_of.Given as goal

abbrev pub invariant-loop-i : goal.invariant-loop-i
invariant-loop-i l = (length l.picks ≡ 16) × (sets l.picks l.i (drop l.i (picks_for l.words)) ≡ picks_for l.words)

abbrev pub decreases-loop-i : goal.decreases-loop-i
decreases-loop-i l = 16 - l.i
