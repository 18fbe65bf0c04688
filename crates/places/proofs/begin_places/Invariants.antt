-- What each turn of a loop in `places::begin_places` keeps.
use Prim.Native.Nat.{ℕ, ◌<◌}
use mathlib.Core.Path.{◌≡◌}
use lib.ListN.{get_or}
use Rattle.firsts.specs.Firsts.{first_at}
use Rattle.places.specs.Places.{place_begun}
use Rattle.places.proofs.begin_places.Given as goal

abbrev pub invariant-loop-b : goal.invariant-loop-b
invariant-loop-b l = (k : ℕ) → k < l.b → get_or l.places k 0 ≡ place_begun (first_at l.firsts.slots k)
