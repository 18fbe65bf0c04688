-- `reader::next_at` meets its contract.
use mathlib.Core.Path.{◌∙◌, sym}
use Rattle.reader.specs.Read.{next_of}
use Rattle.reader.proofs.next_at.Goals as goal

pub returns-in_default : goal.returns-in_default
unfolding next_of
returns-in_default c =
    simp (sym c.record_at-r.ensures ∙ c.in_default.is)

pub returns : goal.returns
unfolding next_of
returns c =
    simp (sym c.record_at-r.ensures ∙ c.in-Ok.is)
