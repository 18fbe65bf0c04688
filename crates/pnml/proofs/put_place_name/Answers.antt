-- A first or a second place is named by its letter and its number.
use Prim.Native.Nat.{◌-◌}
use native.Mathlib.Omega.{arith}
use Rattle.spelling.proofs.Texts.{both, same_text}
use Rattle.spelling.proofs.Decimal.{twenty}
use Rattle.pnml.proofs.Names.{first_named, second_named}
use Rattle.pnml.proofs.put_place_name.Goals as goal

pub returns-then-x-conditions : goal.returns-then-x-conditions
returns-then-x-conditions c =
    record {
      named = same_text (first_named c.args.conditions c.args.x c.if-x-conditions.true) (both c.put-next.ensures c.put_number.ensures);
      near = omega (arith, c.put-next.ensures.told, c.put_number.ensures.told, twenty c.args.x (omega arith));
    }

pub returns : goal.returns
returns c =
    record {
      named = same_text (second_named c.args.conditions c.args.x c.if-x-conditions.false) (both c.put-next-2.ensures c.put_number-2.ensures);
      near = omega (arith, c.put-next-2.ensures.told, c.put_number-2.ensures.told, twenty (c.args.x - c.args.conditions) (omega arith));
    }
