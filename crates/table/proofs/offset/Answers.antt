-- `table::offset` meets its contract.
use mathlib.Core.Path.{◌≡◌, ◌∙◌, sym, ap}
use Prim.Native.Nat.{◌-◌, ◌+◌, ℕ}
use native.Mathlib.Omega.{arith}
use Rattle.records.specs.Records.{front}
use Rattle.records.proofs.First.{front_low}
use Rattle.table.specs.Walk.{offset_from}
use Rattle.table.proofs.Walk.{offset_next, offset_none}
use Rattle.table.proofs.offset.Goals as goal

pub overflow_add-at : goal.overflow_add-at
overflow_add-at c =
    omega (arith, c.front.ensures, front_low c.args.table.now)

pub overflow_add-at-2 : goal.overflow_add-at-2
overflow_add-at-2 c =
    omega (arith, c.front.ensures, front_low c.args.table.now)

pub loop-left-init : goal.loop-left-init
loop-left-init c =
    let s = c.args.table.now in
    let e = c.args.e in
    (omega arith, omega (arith, c.front.ensures, front_low s), ap (λ (f : ℕ). offset_from e s (f + 4 + c.conditions.result)) c.front.ensures ∙ ap (λ (w : ℕ). offset_from e s (front s + 4 + w)) c.conditions.ensures)

pub loop-left-preserved : goal.loop-left-preserved
loop-left-preserved c =
    let s = c.args.table.now in
    let next = offset_next _ s c.loop-left.at c.loop-left-test.true in
    let w = ap (λ (w : ℕ). offset_from (c.loop-left.left - 1) s (c.loop-left.at + 4 + w)) c.word.ensures in
    (omega arith, omega arith, w ∙ sym next ∙ c.loop-left.invariant.2)

pub returns : goal.returns
returns c =
    let z : c.loop-left.left ≡ 0 = omega arith in
    sym (offset_none c.args.table.now c.loop-left.at) ∙ ap (λ (n : ℕ). offset_from n c.args.table.now c.loop-left.at) (sym z) ∙ c.loop-left.invariant.2
