-- What each turn of a loop in `arcs::lay_arcs` keeps.
use mathlib.Core.Path.{◌≡◌}
use Prim.Native.Nat.{ℕ, ◌*◌, ◌≤◌}
use lib.ListN.{length, get_or}
use Rattle.segments.specs.Ranges.{ranged}
use Rattle.arcs.proofs.Laid.{laid_places}
use Rattle.arcs.proofs.lay_arcs.Given as goal

abbrev pub invariant-loop-i : goal.invariant-loop-i
invariant-loop-i l =
    (length l.starts ≡ 2048)
    × (length l.sizes ≡ 2048)
    × ((k : ℕ) → k ≤ l.i → ranged l.starts l.sizes (k * (2 * l.n)) ≡ laid_places l.table (get_or l.bases l.n 0) l.own.event l.own.rest k)
