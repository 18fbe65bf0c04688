-- What each turn of a loop in `firsts::marked` keeps.
use mathlib.Core.Path.{◌≡◌}
use Rattle.words.specs.Words.{words}
use Rattle.words.specs.Numbers.{numbers_left}
use Rattle.firsts.specs.Firsts.{Inside, mark_all}
use Rattle.firsts.proofs.marked.Given as goal

abbrev pub invariant-loop-b : goal.invariant-loop-b
invariant-loop-b l =
    Inside (numbers_left l.b-iterator)
    × (mark_all l.table l.next.slots l.m (numbers_left l.b-iterator) ≡ mark_all l.table l.initial.next.slots l.m (words l.list))
