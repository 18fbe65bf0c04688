-- What each turn of a loop in `later::own_all` keeps.
use mathlib.Core.Path.{◌≡◌}
use Rattle.words.specs.Words.{words}
use Rattle.words.specs.Numbers.{numbers_left}
use Rattle.firsts.specs.Firsts.{Inside}
use Rattle.later.specs.Own.{own_all}
use Rattle.later.proofs.own_all.Given as goal

abbrev pub invariant-loop-b : goal.invariant-loop-b
invariant-loop-b l =
    Inside (numbers_left l.b-iterator)
    × (own_all l.table l.users (words l.pre) l.e l.next.slots (numbers_left l.b-iterator)
    ≡ own_all l.table l.users (words l.pre) l.e l.initial.next.slots (words l.post))
