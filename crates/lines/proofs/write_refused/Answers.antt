-- The line of a refusal has room.
use Prim.Native.Nat.{◌<◌}
use native.Mathlib.Omega.{arith}
use Rattle.std.proofs.Common.{rules}
use Rattle.std.specs.Prelude.{IfSome}
use Rattle.refusal.specs.Answer.{condition_of, condition_number}
use Rattle.listing.proofs.Conditions.{by_short}
use Rattle.lines.proofs.Long.{refused_fits}
use Rattle.lines.proofs.Writing.{same_text}
use Rattle.lines.proofs.write_refused.Goals as goal

pub returns : goal.returns
returns c =
    same_text (rw (c.number_of-number.ensures, c.place_of.ensures, c.by_of-by.ensures)) c.put.ensures

pub put-requires : goal.put-requires
put-requires c =
    let number : c.number_of-number.result < 256 = c.number_of-number.type_inv in
    let place : c.place_of.result < 18446744073709551616 = c.place_of.type_inv in
    let small : IfSome c.by_of-by.result (λ condition. condition_number condition < 65536) = search (rules, c.by_of-by.type_inv) in
    let fits = refused_fits c.number_of-number.result c.place_of.result (condition_of c.by_of-by.result) (omega arith) (omega arith) (by_short _ small) in
    (omega arith, omega (arith, fits, c.requires))
