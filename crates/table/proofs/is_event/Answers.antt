-- `table::is_event` meets its contract.
use mathlib.Core.Path.{◌∙◌, sym}
use Rattle.table.proofs.is_event.Goals as goal

pub returns-in-None : goal.returns-in-None
returns-in-None c =
    simp (sym c.header_at.ensures ∙ c.in-None.is)

pub returns-in-Some : goal.returns-in-Some
returns-in-Some c =
    simp (sym c.header_at.ensures ∙ c.in-Some.is)
