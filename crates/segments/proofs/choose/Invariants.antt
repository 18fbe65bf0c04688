-- What each turn of a loop in `segments::choose` keeps.
use mathlib.Core.Path.{◌≡◌}
use lib.ListN.{length}
use Rattle.words.specs.Words.{words}
use Rattle.words.specs.Numbers.{numbers_left}
use Rattle.segments.specs.Ranges.{chosen_from, Choosing}
use Rattle.segments.proofs.choose.Given as goal

abbrev pub invariant-loop-b : goal.invariant-loop-b
invariant-loop-b l =
    (length l.chosen ≡ length l.initial.chosen)
    × Choosing l.table l.markers (numbers_left l.b-iterator) l.above l.left
    × (chosen_from l.table (numbers_left l.b-iterator) l.left l.chosen ≡ chosen_from l.table (words l.pre) l.rest l.initial.chosen)
