-- `decided::has_marked` meets its contract.
use borrow.Author.Tests.{ne_eqb}
use Rattle.model.specs.Lent.{marking}
use Rattle.decided.proofs.has_marked.Goals as goal

pub returns-then-number-eq0 : goal.returns-then-number-eq0
unfolding marking
returns-then-number-eq0 c =
    simp (← c.number.ensures, c.if-number-eq0.true, ← c.byte.ensures)

pub returns : goal.returns
unfolding marking
returns c =
    simp (← c.number.ensures, ne_eqb _ _ c.if-number-eq0.false, ← c.number-2.ensures, ← c.byte-2.ensures)
