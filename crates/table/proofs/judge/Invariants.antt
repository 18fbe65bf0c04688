-- What each turn of a loop in `table::judge` keeps, and what falls.
use mathlib.Core.Path.{◌≡◌}
use Prim.Native.Nat.{◌≤◌}
use Rattle.table.specs.Walk.{judge_of, events_from}
use Rattle.table.proofs.judge.Given as goal

abbrev pub invariant-loop-front : goal.invariant-loop-front
invariant-loop-front l = (l.left ≤ 256) × (judge_of l.table ≡ events_from l.left l.table l.at)

abbrev pub decreases-loop-front : goal.decreases-loop-front
decreases-loop-front l = l.left
