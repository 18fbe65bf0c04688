-- `layout::width` meets its contract.
use native.Mathlib.Omega.{arith}
use native.Mathlib.Nat.{mul-le-mul}
use mathlib.Core.Path.{◌∙◌, sym}
use Rattle.layout.proofs.width.Goals as goal

pub overflow_mul-result : goal.overflow_mul-result
overflow_mul-result c =
    rw (c.number.ensures, c.number-then-is_persistent.ensures) (omega (arith, mul-le-mul {n₂ = 1000} {m₂ = 1000} (c.requires.0 c.args.b) (c.requires.1 c.args.b)))

pub returns-then-is_persistent : goal.returns-then-is_persistent
returns-then-is_persistent c =
    rw (c.number.ensures, c.number-then-is_persistent.ensures, sym c.is_persistent.ensures ∙ c.if-is_persistent.true)

pub returns-else-is_persistent : goal.returns-else-is_persistent
returns-else-is_persistent c =
    rw (sym c.is_persistent.ensures ∙ c.if-is_persistent.false)
