-- What each turn of a loop in `tally::raise` keeps.
use mathlib.Core.Path.{◌≡◌}
use Prim.Native.Nat.{ℕ, ◌+◌, ◌≤◌, ◌<◌}
use lib.ListN.{length, get_or}
use lib.Dec.{T}
use Rattle.lists.specs.Lists.{mem}
use Rattle.words.specs.Words.{words}
use Rattle.words.specs.Numbers.{numbers_left}
use Rattle.tally.specs.Having.{raised}
use Rattle.tally.proofs.raise.Given as goal

abbrev pub invariant-loop-b : goal.invariant-loop-b
invariant-loop-b l =
    ((b : ℕ) → get_or l.counts b 0 + length (numbers_left l.b-iterator) ≤ 1000 + length (words l.list))
    × ((b : ℕ) → T (mem b (numbers_left l.b-iterator)) → b < length l.counts)
    × (raised l.counts (numbers_left l.b-iterator) ≡ raised l.initial.counts (words l.list))
