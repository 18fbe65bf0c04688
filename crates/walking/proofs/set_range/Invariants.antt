-- What each turn of a loop in `walking::set_range` keeps.
use mathlib.Core.Path.{◌≡◌}
use mathlib.Core.List.{[]}
use Prim.Native.Nat.{◌+◌, ◌-◌}
use lib.ListN.{length}
use Rattle.lists.specs.Lists.{count}
use Rattle.step.specs.Steps.{set_all}
use Rattle.walking.proofs.set_range.Given as goal

abbrev pub invariant-loop-k : goal.invariant-loop-k
invariant-loop-k l =
    (length l.state ≡ length l.initial.state)
    × (set_all [] l.value (count l.k (l.first + l.size - l.k)) l.state ≡ set_all [] l.value (count l.first l.size) l.initial.state)
