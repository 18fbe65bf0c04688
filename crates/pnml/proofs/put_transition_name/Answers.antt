-- The letter, then the number.
use native.Mathlib.Omega.{arith}
use Rattle.spelling.proofs.Texts.{both}
use Rattle.spelling.proofs.Decimal.{twenty}
use Rattle.pnml.proofs.put_transition_name.Goals as goal

pub returns : goal.returns
returns c =
    record {
      named = both c.put-next.ensures c.put_number.ensures;
      near = omega (arith, c.put-next.ensures.told, c.put_number.ensures.told, twenty c.args.t (omega arith));
    }
