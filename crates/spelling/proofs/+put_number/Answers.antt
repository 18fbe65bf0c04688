-- The last two digits are put after those of the hundredth.
use native.Mathlib.Omega.{arith}
use mathlib.Core.Path.{sym}
use Prim.Native.Nat.{◌/◌}
use Rattle.spelling.proofs.Texts.{both, same_text}
use Rattle.spelling.proofs.Decimal.{twenty, one_digit, two_digits, last_two, last_two_long}
use Rattle.spelling.proofs.+put_number.Goals as goal

pub returns-then-n-lt10 : goal.returns-then-n-lt10
returns-then-n-lt10 t c = same_text (sym (one_digit c.args.n c.if-n-lt10.true)) c.put.ensures

pub returns-then-n-lt100 : goal.returns-then-n-lt100
returns-then-n-lt100 t c = same_text (sym (two_digits c.args.n (omega (arith, c.if-n-lt10.false)) c.if-n-lt100.true)) c.put_two.ensures

pub returns-then-n-lt1000 : goal.returns-then-n-lt1000
returns-then-n-lt1000 t c =
    let hundreds = same_text (sym (one_digit (c.args.n / 100) (omega (arith, c.if-n-lt1000.true)))) c.put-end.ensures in
    same_text (sym (last_two c.args.n (omega (arith, c.if-n-lt100.false)))) (both hundreds c.put_two-then-n-lt1000.ensures)

pub put_two-requires-2 : goal.put_two-requires-2
put_two-requires-2 t c =
    let more = last_two_long c.args.n (omega (arith, c.if-n-lt100.false)) in
    (omega (arith, twenty c.args.n (omega (arith, c.ranges.n.fits)), more, c.put_number-end.ensures.told), omega arith)

pub returns : goal.returns
returns t c = same_text (sym (last_two c.args.n (omega (arith, c.if-n-lt100.false)))) (both c.put_number-end.ensures c.put_two-2.ensures)
