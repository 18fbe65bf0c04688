-- What each turn of a loop in `unfolded_lists::put_ranges` keeps.
use mathlib.Core.Path.{◌≡◌}
use Prim.Native.Nat.{ℕ, ◌+◌, ◌-◌, ◌≤◌, ◌<◌}
use lib.Dec.{T}
use lib.ListN.{length}
use lib.Seq.{sets}
use Rattle.lists.specs.Lists.{mem}
use Rattle.segments.specs.Ranges.{ranged_from, ranged}
use Rattle.unfolded_lists.proofs.put_ranges.Given as goal

abbrev pub invariant-loop-i : goal.invariant-loop-i
invariant-loop-i l =
    (length l.out ≡ length l.initial.out)
    × (l.at + length (ranged_from l.starts l.sizes l.i (l.ranges - l.i)) ≤ length l.initial.out)
    × ((b : ℕ) → T (mem b (ranged_from l.starts l.sizes l.i (l.ranges - l.i))) → b < 65535)
    × (sets l.out l.at (ranged_from l.starts l.sizes l.i (l.ranges - l.i)) ≡ sets l.initial.out 0 (ranged l.starts l.sizes l.ranges))
