-- `copies::write_marked` meets its contract.
use mathlib.Core.Path.{sym, ◌∙◌}
use native.Mathlib.Omega.{arith}
use Rattle.copies.proofs.Ranges.{ranged_none}
use Rattle.copies.proofs.write_marked.Goals as goal

pub overflow_mul-from : goal.overflow_mul-from
overflow_mul-from c =
    let f = rw (← c.number-count.ensures, ← c.number.ensures, ← c.number-then-is_persistent.ensures) at (c.requires (sym c.is_persistent.ensures ∙ c.if-is_persistent.true)) in
    omega (arith, f.small)

pub overflow_add-from : goal.overflow_add-from
overflow_add-from c =
    let f = rw (← c.number-count.ensures, ← c.number.ensures, ← c.number-then-is_persistent.ensures) at (c.requires (sym c.is_persistent.ensures ∙ c.if-is_persistent.true)) in
    omega (arith, f.small)

pub fill-requires : goal.fill-requires
fill-requires c =
    rw (c.number-count.ensures, c.number.ensures, c.number-then-is_persistent.ensures) (c.requires (sym c.is_persistent.ensures ∙ c.if-is_persistent.true))

pub returns-then-is_persistent : goal.returns-then-is_persistent
returns-then-is_persistent c =
    rw (sym c.is_persistent.ensures ∙ c.if-is_persistent.true) (rw (c.number-count.ensures, c.number.ensures, c.number-then-is_persistent.ensures) at c.fill.ensures)

pub returns-else-is_persistent : goal.returns-else-is_persistent
returns-else-is_persistent c =
    rw (sym c.is_persistent.ensures ∙ c.if-is_persistent.false) (ranged_none _ _ _)
