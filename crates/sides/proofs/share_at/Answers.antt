-- `sides::share_at` meets its contract.
use Prim.Native.Nat.{◌+◌, ◌*◌, ◌≤◌}
use native.Mathlib.Omega.{arith}
use mathlib.Core.Path.{◌∙◌, sym}
use Rattle.tally.specs.Having.{one_at}
use Rattle.sides.proofs.Ones.{one_in, none_in, back_tells}
use Rattle.sides.proofs.share_at.Goals as goal

pub overflow_mul-first : goal.overflow_mul-first
overflow_mul-first c =
    let z : c.number-base.result + c.number.result * c.number-width.result ≤ 65535 = rw (c.number-base.ensures, c.number.ensures, c.number-width.ensures) (c.requires.marked (sym c.is_persistent.ensures ∙ c.if-is_persistent.true)) in
    omega arith

pub overflow_add-first : goal.overflow_add-first
overflow_add-first c =
    let z : c.number-base.result + c.number.result * c.number-width.result ≤ 65535 = rw (c.number-base.ensures, c.number.ensures, c.number-width.ensures) (c.requires.marked (sym c.is_persistent.ensures ∙ c.if-is_persistent.true)) in
    omega arith

pub overflow_mul-taken : goal.overflow_mul-taken
overflow_mul-taken c =
    let z : c.number-base.result + c.number-then-takes-eq1.result * c.number-width.result ≤ 65535 = rw (c.number-base.ensures, c.number-then-takes-eq1.ensures, c.number-width.ensures) (omega (arith, c.requires.taken (sym c.is_persistent.ensures ∙ c.if-is_persistent.true) (one_in (one_at c.args.before.now c.args.b) (sym c.size_if-takes.ensures ∙ c.if-takes-eq1.true)))) in
    omega arith

pub overflow_add-taken : goal.overflow_add-taken
overflow_add-taken c =
    let z : c.number-base.result + c.number-then-takes-eq1.result * c.number-width.result ≤ 65535 = rw (c.number-base.ensures, c.number-then-takes-eq1.ensures, c.number-width.ensures) (omega (arith, c.requires.taken (sym c.is_persistent.ensures ∙ c.if-is_persistent.true) (one_in (one_at c.args.before.now c.args.b) (sym c.size_if-takes.ensures ∙ c.if-takes-eq1.true)))) in
    omega arith

pub overflow_add-taken-then-takes-eq1 : goal.overflow_add-taken-then-takes-eq1
overflow_add-taken-then-takes-eq1 c =
    let z : c.number-base.result + c.number-then-takes-eq1.result * c.number-width.result + c.number-then-takes-eq1-2.result ≤ 65535 = rw (c.number-base.ensures, c.number-then-takes-eq1.ensures, c.number-width.ensures, c.number-then-takes-eq1-2.ensures) (c.requires.taken (sym c.is_persistent.ensures ∙ c.if-is_persistent.true) (one_in (one_at c.args.before.now c.args.b) (sym c.size_if-takes.ensures ∙ c.if-takes-eq1.true))) in
    omega arith

pub returns-then-takes-eq1 : goal.returns-then-takes-eq1
returns-then-takes-eq1 c =
    c.shared.ensures ∙ rw (c.size_if-size.ensures, c.if-takes-eq1.true, c.number-base.ensures, c.number-width.ensures, c.number.ensures, c.number-then-takes-eq1.ensures, c.number-then-takes-eq1-2.ensures, sym c.is_persistent.ensures ∙ c.if-is_persistent.true, one_in (one_at c.args.before.now c.args.b) (sym c.size_if-takes.ensures ∙ c.if-takes-eq1.true))

pub returns-then-is_persistent : goal.returns-then-is_persistent
returns-then-is_persistent c =
    c.shared-then-is_persistent.ensures ∙ rw (c.size_if-size.ensures, c.number-base.ensures, c.number-width.ensures, c.number.ensures, c.size_if-takes.ensures, sym c.is_persistent.ensures ∙ c.if-is_persistent.true, none_in (one_at c.args.before.now c.args.b) (λ e. c.if-takes-eq1.false (c.size_if-takes.ensures ∙ e)))

pub returns : goal.returns
returns c =
    c.shared-2.ensures ∙ rw (c.size_if-back.ensures, c.size_if-size-2.ensures, c.number-base.ensures, c.size_if-takes.ensures, sym c.is_persistent.ensures ∙ c.if-is_persistent.false, back_tells (one_at c.args.before.now c.args.b) (one_at c.args.after.now c.args.b) c.args.paper)
