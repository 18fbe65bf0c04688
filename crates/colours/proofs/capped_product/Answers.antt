-- `colours::capped_product` meets its contract.
use native.Mathlib.Omega.{arith}
use native.Mathlib.Nat.{mul-le-mul}
use Rattle.colours.proofs.capped_product.Goals as goal

pub overflow_mul-p : goal.overflow_mul-p
overflow_mul-p c =
    omega (arith, mul-le-mul {n₁ = c.args.a} {m₁ = c.args.b} {n₂ = 4294967295} {m₂ = 4294967295} (omega arith) (omega arith))
