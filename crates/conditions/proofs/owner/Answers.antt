-- `conditions::owner` meets its contract.
use native.Mathlib.Omega.{arith}
use mathlib.Core.Path.{◌≡◌}
use Rattle.model.specs.Numbering.{width}
use Rattle.table.specs.Decoded.{net_of}
use Rattle.conditions.proofs.Origins.{next_base, next_sum}
use Rattle.conditions.proofs.owner.Goals as goal

pub loop-b-init : goal.loop-b-init
loop-b-init c =
    omega arith

pub returns-then-i-number : goal.returns-then-i-number
returns-then-i-number c =
    record { most = omega arith; from = c.loop-b.invariant; below = λ h. omega (arith, next_base (width (net_of c.args.table.now)) c.args.count c.args.bases.now c.requires.sums c.loop-b.b (omega arith), c.number.ensures, c.if-i-number.true) }

pub loop-b-preserved : goal.loop-b-preserved
loop-b-preserved c =
    next_sum (width (net_of c.args.table.now)) c.loop-b.b c.args.i (omega (arith, next_base (width (net_of c.args.table.now)) c.args.count c.args.bases.now c.requires.sums c.loop-b.b (omega arith), c.number.ensures, c.if-i-number.false))

pub returns : goal.returns
returns c =
    let all : c.loop-b.b ≡ c.args.count = omega arith in
    record { most = omega arith; from = rw (← all) c.loop-b.invariant; below = λ h. absurd (omega arith) }
