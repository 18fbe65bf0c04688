-- `rules::conditions_record` meets its contract.
use mathlib.Core.Path.{◌∙◌, sym}
use native.Mathlib.Omega.{arith}
use borrow.Author.Tests.{eq-eqb, ne_eqb, le-leb, lt-leb}
use Rattle.refusal.specs.Answer.{need}
use Rattle.rules.specs.Rules.{conditions_of}
use Rattle.records.proofs.Headers.{known}
use Rattle.rules.proofs.conditions_record.Goals as goal

pub returns-in_default : goal.returns-in_default
unfolding conditions_of need
returns-in_default c =
    c.refused.ensures ∙ simp (sym c.header_at.ensures ∙ c.in_default.is)

pub returns-then-kind-ne1 : goal.returns-then-kind-ne1
unfolding conditions_of need
returns-then-kind-ne1 c =
    c.refused-then-kind-ne1.ensures ∙ simp (sym c.header_at.ensures ∙ c.in-Some.is, ne_eqb _ _ c.if-kind-ne1.true)

pub returns-then-len-lt1 : goal.returns-then-len-lt1
unfolding conditions_of need
returns-then-len-lt1 c =
    c.refused-then-len-lt1.ensures ∙ simp (sym c.header_at.ensures ∙ c.in-Some.is, eq-eqb _ _ c.if-kind-ne1.false, lt-leb _ _ c.if-len-lt1.true)

pub returns-then-len-gt256 : goal.returns-then-len-gt256
unfolding conditions_of need
returns-then-len-gt256 c =
    c.refused-then-len-gt256.ensures ∙ simp (sym c.header_at.ensures ∙ c.in-Some.is, eq-eqb _ _ c.if-kind-ne1.false, le-leb _ _ c.if-len-lt1.false, lt-leb _ _ c.if-len-gt256.true)

pub overflow_add-at : goal.overflow_add-at
overflow_add-at c =
    let k = known _ _ _ _ (sym c.header_at.ensures ∙ c.in-Some.is) in
    omega arith

pub overflow_add-result : goal.overflow_add-result
overflow_add-result c =
    let k = known _ _ _ _ (sym c.header_at.ensures ∙ c.in-Some.is) in
    omega arith

pub overflow_add-result-then-all_bits : goal.overflow_add-result-then-all_bits
overflow_add-result-then-all_bits c =
    let k = known _ _ _ _ (sym c.header_at.ensures ∙ c.in-Some.is) in
    omega arith

pub returns-then-all_bits : goal.returns-then-all_bits
unfolding conditions_of need
returns-then-all_bits c =
    simp (sym c.header_at.ensures ∙ c.in-Some.is, eq-eqb _ _ c.if-kind-ne1.false, le-leb _ _ c.if-len-lt1.false, le-leb _ _ c.if-len-gt256.false, ← c.part_of.ensures, sym c.all_bits.ensures ∙ c.if-all_bits.true)

pub returns-else-all_bits : goal.returns-else-all_bits
unfolding conditions_of need
returns-else-all_bits c =
    c.refused-else-all_bits.ensures ∙ simp (sym c.header_at.ensures ∙ c.in-Some.is, eq-eqb _ _ c.if-kind-ne1.false, le-leb _ _ c.if-len-lt1.false, le-leb _ _ c.if-len-gt256.false, ← c.part_of.ensures, sym c.all_bits.ensures ∙ c.if-all_bits.false)
