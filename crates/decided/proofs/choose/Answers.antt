-- `decided::choose` meets its contract.
use native.Mathlib.Omega.{arith}
use Rattle.colours.proofs.Products.{ending_all}
use Rattle.decided.proofs.choose.Goals as goal

pub choose_down-requires : goal.choose_down-requires
choose_down-requires c = record {
  left_in_bounds = omega arith;
  choosing = rw (ending_all c.args.pre.now) c.requires;
}

pub returns : goal.returns
returns c = rw (ending_all c.args.pre.now) at c.choose_down.ensures
