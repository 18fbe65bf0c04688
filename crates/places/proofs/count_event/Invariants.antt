-- What each turn of a loop in `places::count_event` keeps.
use Prim.Native.Nat.{ℕ, ◌+◌, ◌≤◌, ◌<◌}
use mathlib.Core.Path.{◌≡◌}
use lib.Dec.{T}
use lib.ListN.{length, get_or}
use Rattle.lists.specs.Lists.{mem}
use Rattle.words.specs.Words.{words}
use Rattle.words.specs.Numbers.{numbers_left}
use Rattle.places.specs.Places.{placed_all}
use Rattle.places.proofs.count_event.Given as goal

abbrev pub invariant-loop-b : goal.invariant-loop-b
invariant-loop-b l =
    ((b : ℕ) → get_or l.places b 0 + length (numbers_left l.b-iterator) ≤ 1000 + length (words l.list))
    × ((b : ℕ) → T (mem b (numbers_left l.b-iterator)) → b < length l.places)
    × (placed_all l.firsts.slots l.e l.places (numbers_left l.b-iterator) ≡ placed_all l.firsts.slots l.e l.initial.places (words l.list))
