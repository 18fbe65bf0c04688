-- What each turn of a loop in `layout::sums` keeps.
use mathlib.Core.Path.{◌≡◌}
use Prim.Native.Nat.{ℕ, ◌*◌, ◌≤◌, ◌<◌}
use lib.ListN.{length, get_or}
use Rattle.lists.specs.Lists.{sum}
use Rattle.layout.specs.Counts.{width_at}
use Rattle.layout.proofs.sums.Given as goal

abbrev pub invariant-loop-b : goal.invariant-loop-b
invariant-loop-b l =
    let f = width_at l.table l.markers l.users in
    (length l.bases ≡ 257) × (l.total ≤ 1000000 * l.b) × (l.total ≡ sum f l.b) × ((k : ℕ) → k < l.b → get_or l.bases k 0 ≡ sum f k)
