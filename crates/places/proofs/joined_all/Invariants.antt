-- What each turn of a loop in `places::joined_all` keeps.
use Prim.Native.Nat.{ℕ, ◌<◌}
use mathlib.Core.Path.{◌≡◌}
use lib.Dec.{T}
use Rattle.lists.specs.Lists.{mem}
use Rattle.words.specs.Words.{words}
use Rattle.words.specs.Numbers.{numbers_left}
use Rattle.places.specs.Numbers.{joined_all}
use Rattle.places.proofs.joined_all.Given as goal

abbrev pub invariant-loop-b : goal.invariant-loop-b
invariant-loop-b l =
    ((b : ℕ) → T (mem b (numbers_left l.b-iterator)) → b < 256)
    × (joined_all l.table l.markers l.places l.number (numbers_left l.b-iterator) ≡ joined_all l.table l.markers l.places 0 (words l.list))
