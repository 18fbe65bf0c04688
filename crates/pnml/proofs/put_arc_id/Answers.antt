-- What begins an arc, then its number.
use native.Mathlib.Omega.{arith}
use Rattle.spelling.proofs.Texts.{both}
use Rattle.spelling.proofs.Decimal.{twenty}
use Rattle.pnml.proofs.put_arc_id.Goals as goal

pub returns : goal.returns
returns c =
    record {
      named = both c.put_text-number.ensures c.put_number.ensures;
      near = omega (arith, c.put_text-number.ensures.told, c.put_number.ensures.told, twenty c.args.a (omega arith));
    }
