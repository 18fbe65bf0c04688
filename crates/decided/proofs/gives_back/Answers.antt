-- `decided::gives_back` meets its contract.
use borrow.Author.Tests.{ne_eqb}
use Rattle.decided.proofs.gives_back.Goals as goal

pub returns-then-count-eq0 : goal.returns-then-count-eq0
returns-then-count-eq0 c =
    simp (← c.number-count.ensures, c.if-count-eq0.true)

pub returns-then-number-eq0 : goal.returns-then-number-eq0
returns-then-number-eq0 c =
    simp (← c.number-count.ensures, c.if-count-eq1.true, ← c.has.ensures, c.if-has.true, ← c.number.ensures, c.if-number-eq0.true)

pub returns-then-has : goal.returns-then-has
returns-then-has c =
    simp (← c.number-count.ensures, c.if-count-eq1.true, ← c.has.ensures, c.if-has.true, ← c.number.ensures, ne_eqb _ _ c.if-number-eq0.false, ← c.number-then-has.ensures)

pub returns-else-has : goal.returns-else-has
returns-else-has c =
    simp (← c.number-count.ensures, c.if-count-eq1.true, ← c.has.ensures, c.if-has.false)

pub returns-else-count-eq1 : goal.returns-else-count-eq1
returns-else-count-eq1 c =
    simp (← c.number-count.ensures, ne_eqb _ _ c.if-count-eq0.false, ne_eqb _ _ c.if-count-eq1.false)
