-- `parts::persistent` meets its contract.
use Rattle.std.proofs.Common.{rules}
use Rattle.std.specs.Prelude.{Err}
use mathlib.Core.Path.{◌≡◌, ◌∙◌, sym, refl}
use mathlib.Core.Bool.{true, false}
use borrow.Author.Tests.{eq-eqb, ne_eqb}
use Rattle.table.specs.Decoded.{net_of}
use Rattle.parts.specs.Asked.{persistence_of}
use Rattle.parts.proofs.Asking.{flag_read}
use Rattle.parts.proofs.persistent.Goals as goal

pub returns-in_err-at : goal.returns-in_err-at
unfolding persistence_of
returns-in_err-at c =
    let told : c.from_residual.result ≡ Err c.in_err-at.field-0.0 = search rules in
    told ∙ rw (sym c.in_err-at.ensures) refl

pub returns-then-byte-eq1 : goal.returns-then-byte-eq1
unfolding persistence_of
returns-then-byte-eq1 c =
    let s = c.args.table.now in
    let b = c.args.b.0 in
    let found = sym c.in_ok-at.ensures in
    let flag : (net_of s).persistent b ≡ true = sym (flag_read s b c.in_ok-at.at found) ∙ eq-eqb _ _ (sym c.byte.ensures ∙ c.if-byte-eq1.true) in
    rw (found, flag)

pub returns-else-byte-eq1 : goal.returns-else-byte-eq1
unfolding persistence_of
returns-else-byte-eq1 c =
    let s = c.args.table.now in
    let b = c.args.b.0 in
    let found = sym c.in_ok-at.ensures in
    let flag : (net_of s).persistent b ≡ false = sym (flag_read s b c.in_ok-at.at found) ∙ ne_eqb _ _ (λ e. c.if-byte-eq1.false (c.byte.ensures ∙ e)) in
    rw (found, flag)
