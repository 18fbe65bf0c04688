-- The two numbers after their words, then the words for a condition.
use native.Mathlib.Omega.{arith}
use Rattle.listing.specs.Text.{refused_line}
use Rattle.spelling.proofs.Texts.{both}
use Rattle.spelling.proofs.Decimal.{twenty}
use Rattle.listing.proofs.put_refused.Goals as goal

pub put_text-third-requires : goal.put_text-third-requires
put_text-third-requires c =
    omega (arith, c.put_text-first.ensures.told, c.put_number-second.ensures.told, twenty c.args.number (omega arith))

pub put_number-fourth-requires : goal.put_number-fourth-requires
put_number-fourth-requires c =
    omega (arith, c.put_text-first.ensures.told, c.put_number-second.ensures.told, c.put_text-third.ensures.told, twenty c.args.number (omega arith))

pub put_by-end-requires : goal.put_by-end-requires
put_by-end-requires c =
    omega (arith, c.put_text-first.ensures.told, c.put_number-second.ensures.told, c.put_text-third.ensures.told, c.put_number-fourth.ensures.told, twenty c.args.number (omega arith), twenty c.args.place (omega arith))

pub returns : goal.returns
unfolding refused_line
returns c =
    both (both (both (both (both c.put_text-first.ensures c.put_number-second.ensures) c.put_text-third.ensures) c.put_number-fourth.ensures) c.put_by-end.ensures.named) c.put.ensures

pub put-requires : goal.put-requires
put-requires c =
    omega (arith, c.put_text-first.ensures.told, c.put_number-second.ensures.told, c.put_text-third.ensures.told, c.put_number-fourth.ensures.told, c.put_by-end.ensures.near, twenty c.args.number (omega arith), twenty c.args.place (omega arith))
