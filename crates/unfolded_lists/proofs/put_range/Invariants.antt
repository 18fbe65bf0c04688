-- What each turn of a loop in `unfolded_lists::put_range` keeps.
use mathlib.Core.Path.{◌≡◌}
use Prim.Native.Nat.{◌+◌, ◌-◌}
use lib.ListN.{length}
use lib.Seq.{sets}
use Rattle.lists.specs.Lists.{count}
use Rattle.unfolded_lists.proofs.put_range.Given as goal

abbrev pub invariant-loop-i : goal.invariant-loop-i
invariant-loop-i l =
    (length l.out ≡ length l.initial.out)
    × (sets l.out (l.at + l.i) (count (l.first + l.i) (l.size - l.i)) ≡ sets l.initial.out l.at (count l.first l.size))
