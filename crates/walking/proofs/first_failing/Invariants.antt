-- What each turn of a loop in `walking::first_failing` keeps.
use mathlib.Core.Path.{◌≡◌}
use Prim.Native.Nat.{ℕ, ◌-◌, ◌<◌}
use lib.Dec.{T}
use Rattle.lists.specs.Lists.{mem, failing}
use Rattle.model.specs.Unfolding.{basic}
use Rattle.model.specs.Lent.{marking}
use Rattle.table.specs.Decoded.{net_of}
use Rattle.segments.specs.Ranges.{ranged_from, ranged}
use Rattle.walking.specs.Steps.{passes_of}
use Rattle.walking.proofs.first_failing.Given as goal

abbrev pub invariant-loop-i : goal.invariant-loop-i
invariant-loop-i l =
    ((b : ℕ) → T (mem b (ranged_from l.firsts l.widths l.i (l.all - l.i))) → b < (basic (net_of l.table)).conditions)
    × (failing (passes_of l.contact (marking l.state) (ranged l.starts l.sizes l.ranges) (basic (net_of l.table)).old) (ranged_from l.firsts l.widths l.i (l.all - l.i))
    ≡ failing (passes_of l.contact (marking l.state) (ranged l.starts l.sizes l.ranges) (basic (net_of l.table)).old) (ranged l.firsts l.widths l.all))
