-- `words::word` meets its contract.
use native.Mathlib.Omega.{arith}
use Prim.Native.Nat.{◌+◌}
use lib.ListN.{get_or-eq_default}
use Rattle.words.proofs.word.Goals as goal

pub returns-else-i-s : goal.returns-else-i-s
returns-else-i-s c =
    let h = c.if-i-s.false in
    let a = get_or-eq_default c.args.s.now 0 h in
    let b = get_or-eq_default c.args.s.now 0 {n = c.args.i + 1} (omega arith) in
    omega (arith, a, b)
