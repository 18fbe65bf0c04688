-- `held::byte_of` meets its contract.
use mathlib.Core.Path.{sym, ap, ◌∙◌}
use Rattle.model.specs.Lent.{bit}
use Rattle.held.proofs.byte_of.Goals as goal

pub returns-then-holds : goal.returns-then-holds
returns-then-holds c =
    ap bit (sym c.if-holds.true ∙ c.holds.ensures)

pub returns-else-holds : goal.returns-else-holds
returns-else-holds c =
    ap bit (sym c.if-holds.false ∙ c.holds.ensures)
