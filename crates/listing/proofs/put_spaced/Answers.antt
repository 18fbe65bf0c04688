-- The number, then the space.
use native.Mathlib.Omega.{arith}
use Rattle.spelling.proofs.Texts.{both}
use Rattle.spelling.proofs.Decimal.{twenty}
use Rattle.listing.proofs.put_spaced.Goals as goal

pub put-requires : goal.put-requires
put-requires c =
    omega (arith, c.put_number-next.ensures.told, twenty c.args.n (omega arith))

pub returns : goal.returns
returns c =
    both c.put_number-next.ensures c.put.ensures
