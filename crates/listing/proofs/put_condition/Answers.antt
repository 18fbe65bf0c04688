-- The word, then the number.
use native.Mathlib.Omega.{arith}
use Rattle.listing.specs.Text.{by_words}
use Rattle.spelling.proofs.Texts.{both}
use Rattle.spelling.proofs.Decimal.{twenty}
use Rattle.listing.proofs.put_condition.Goals as goal

pub returns : goal.returns
unfolding by_words
returns c =
    record {
      named = both c.put_text-from.ensures c.put_number.ensures;
      near = omega (arith, c.put_text-from.ensures.told, c.put_number.ensures.told, twenty c.args.b (omega arith));
    }
