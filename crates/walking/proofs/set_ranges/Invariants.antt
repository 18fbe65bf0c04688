-- What each turn of a loop in `walking::set_ranges` keeps.
use mathlib.Core.Path.{◌≡◌}
use mathlib.Core.List.{[]}
use Prim.Native.Nat.{ℕ, ◌-◌, ◌<◌}
use lib.Dec.{T}
use lib.ListN.{length}
use Rattle.lists.specs.Lists.{mem}
use Rattle.segments.specs.Ranges.{ranged_from, ranged}
use Rattle.step.specs.Steps.{set_all}
use Rattle.walking.proofs.set_ranges.Given as goal

abbrev pub invariant-loop-i : goal.invariant-loop-i
invariant-loop-i l =
    (length l.state ≡ length l.initial.state)
    × ((b : ℕ) → T (mem b (ranged_from l.starts l.sizes l.i (l.ranges - l.i))) → b < length l.initial.state)
    × (set_all [] l.value (ranged_from l.starts l.sizes l.i (l.ranges - l.i)) l.state
    ≡ set_all [] l.value (ranged l.starts l.sizes l.ranges) l.initial.state)
