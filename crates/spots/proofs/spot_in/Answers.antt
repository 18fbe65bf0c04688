-- `spots::spot_in` meets its contract.
use native.Mathlib.Omega.{arith}
use Rattle.spots.proofs.Ranges.{range_there}
use Rattle.spots.proofs.spot_in.Goals as goal

pub unreachable-requires : goal.unreachable-requires
unreachable-requires c =
    let there = range_there c.args.sizes.now c.args.reached.before c.args.wanted c.requires c.loop-range.range c.loop-range.left c.loop-range.invariant in
    omega (arith, there, c.requires.in_sizes, c.loop-range-test.false)
