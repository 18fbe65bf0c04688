-- `copies::write_own` meets its contract.
use mathlib.Core.Path.{sym, ◌∙◌}
use Rattle.copies.proofs.write_own.Goals as goal

pub fill-requires : goal.fill-requires
fill-requires c =
    rw (c.number-base.ensures, c.number.ensures) (rw (sym c.is_persistent.ensures ∙ c.if-is_persistent.true) at c.requires)

pub returns-then-is_persistent : goal.returns-then-is_persistent
returns-then-is_persistent c =
    rw (sym c.is_persistent.ensures ∙ c.if-is_persistent.true) (rw (c.number-base.ensures, c.number.ensures, c.holds.ensures) at c.fill.ensures)

pub fill-requires-2 : goal.fill-requires-2
fill-requires-2 c =
    rw c.number-base.ensures (rw (sym c.is_persistent.ensures ∙ c.if-is_persistent.false) at c.requires)

pub returns : goal.returns
returns c =
    rw (sym c.is_persistent.ensures ∙ c.if-is_persistent.false) (rw (c.number-base.ensures, c.holds-2.ensures) at c.fill-2.ensures)
