-- `segments::choices` meets its contract.
use mathlib.Core.Path.{◌∙◌, sym}
use Rattle.segments.proofs.choices.Goals as goal

pub returns-then-is_persistent : goal.returns-then-is_persistent
returns-then-is_persistent c = rw (sym c.is_persistent.ensures ∙ c.if-is_persistent.true) c.number.ensures

pub returns-else-is_persistent : goal.returns-else-is_persistent
returns-else-is_persistent c = rw (sym c.is_persistent.ensures ∙ c.if-is_persistent.false)
