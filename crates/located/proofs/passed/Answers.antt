-- `located::passed` meets its contract.
use borrow.Author.Tests.{eq-eqb, ne_eqb}
use Rattle.located.proofs.passed.Goals as goal

pub returns-then-number-eq0 : goal.returns-then-number-eq0
returns-then-number-eq0 c =
    simp (← c.number.ensures, eq-eqb _ _ c.if-number-eq0.true)

pub returns-then-place-eq0 : goal.returns-then-place-eq0
returns-then-place-eq0 c =
    simp (← c.number.ensures, ne_eqb _ _ c.if-number-eq0.false, ← c.number-2.ensures, eq-eqb _ _ c.if-e-number.true, ← c.place.ensures, eq-eqb _ _ c.if-place-eq0.true)

pub returns-else-place-eq0 : goal.returns-else-place-eq0
returns-else-place-eq0 c =
    simp (← c.number.ensures, ne_eqb _ _ c.if-number-eq0.false, ← c.number-2.ensures, eq-eqb _ _ c.if-e-number.true, ← c.place.ensures, ne_eqb _ _ c.if-place-eq0.false)

pub returns-else-e-number : goal.returns-else-e-number
returns-else-e-number c =
    simp (← c.number.ensures, ne_eqb _ _ c.if-number-eq0.false, ← c.number-2.ensures, ne_eqb _ _ c.if-e-number.false)
