-- `game::together` meets its contract.
use native.Mathlib.Omega.{arith}
use Rattle.game.proofs.Above.{together_on}
use Rattle.game.proofs.together.Goals as goal

pub loop-byte-init : goal.loop-byte-init
loop-byte-init c j h = absurd (omega arith)

pub loop-byte-preserved : goal.loop-byte-preserved
loop-byte-preserved c = together_on c.args.state.now c.loop-byte.byte-index c.loop-byte.bits c.loop-byte.invariant

pub returns : goal.returns
returns c i h = c.loop-byte.invariant i (omega (arith, c.loop-byte-test.false))
