-- `held::spread` meets its contract.
use native.Mathlib.Omega.{arith}
use mathlib.Core.List.{List, ◌++◌}
use mathlib.Core.Path.{ap}
use Prim.Native.Nat.{ℕ}
use lib.ListN.{drop, length-take}
use Rattle.held.proofs.Copying.{spread_on, spread_end}
use Rattle.held.proofs.spread.Goals as goal

pub loop-b-preserved : goal.loop-b-preserved
loop-b-preserved c =
    let long = length-take c.args.count c.args.out.now in
    spread_on _ _ _ _ _ c.loop-b.invariant _ c.byte_of.ensures (omega (arith, long)) (omega (arith, long))

pub returns : goal.returns
returns c =
    let long = length-take c.args.count c.args.out.now in
    let whole = spread_end _ _ _ _ _ c.loop-b.invariant (omega (arith, long)) (omega (arith, long)) in
    ap (λ (l : List ℕ). l ++ drop c.args.count c.args.out.now) whole
