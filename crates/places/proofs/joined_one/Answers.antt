-- `places::joined_one` meets its contract.
use mathlib.Core.Path.{◌∙◌, sym}
use Rattle.places.proofs.Joined.{product_fits}
use native.Mathlib.Omega.{arith}
use Rattle.places.proofs.joined_one.Goals as goal

pub overflow_mul-result : goal.overflow_mul-result
overflow_mul-result c =
    omega (arith, product_fits c.args.number c.number.result c.requires.2 (omega (arith, c.number.ensures, c.requires.0 c.args.b)))

pub overflow_add-result : goal.overflow_add-result
overflow_add-result c =
    omega (arith, product_fits c.args.number c.number.result c.requires.2 (omega (arith, c.number.ensures, c.requires.0 c.args.b)), c.number-then-is_persistent.ensures, c.requires.1 c.args.b)

pub returns-then-is_persistent : goal.returns-then-is_persistent
returns-then-is_persistent c =
    rw (sym c.is_persistent.ensures ∙ c.if-is_persistent.true, c.number.ensures, c.number-then-is_persistent.ensures)

pub returns : goal.returns
returns c =
    rw (sym c.is_persistent.ensures ∙ c.if-is_persistent.false)
