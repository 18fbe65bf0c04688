-- What each turn of a loop in `copies::write_list` keeps.
use Rattle.model.specs.Lent.{bit}
use Rattle.words.specs.Numbers.{numbers_left}
use Rattle.copies.proofs.Ranges.{Listing}
use Rattle.copies.proofs.write_list.Given as goal

abbrev pub invariant-loop-b : goal.invariant-loop-b
invariant-loop-b l = Listing l.table l.users l.bases l.places l.list (bit l.holds) l.initial.out l.out (numbers_left l.b-iterator)
