-- `segments::size_if` meets its contract.
use mathlib.Core.Path.{◌∙◌, sym}
use borrow.Author.Tests.{eq-eqb, ne_eqb}
use Rattle.segments.proofs.size_if.Goals as goal

pub returns-then-number-eq1 : goal.returns-then-number-eq1
returns-then-number-eq1 c =
    rw (c.if-counts.true, eq-eqb _ 1 (sym c.number.ensures ∙ c.if-number-eq1.true))

pub returns-else-number-eq1 : goal.returns-else-number-eq1
returns-else-number-eq1 c =
    rw (c.if-counts.true, ne_eqb _ 1 (λ e. c.if-number-eq1.false (c.number.ensures ∙ e)))
