-- `rules::marking_record` meets its contract.
use mathlib.Core.Path.{◌∙◌, sym}
use native.Mathlib.Omega.{arith}
use borrow.Author.Tests.{eq-eqb, ne_eqb, le-leb, lt-leb}
use Rattle.refusal.specs.Answer.{need}
use Rattle.rules.specs.Rules.{marking_of}
use Rattle.records.proofs.Headers.{known}
use Rattle.rules.proofs.marking_record.Goals as goal

pub returns-in_default : goal.returns-in_default
unfolding marking_of need
returns-in_default c =
    c.refused.ensures ∙ simp (sym c.header_at.ensures ∙ c.in_default.is)

pub returns-then-kind-ne3 : goal.returns-then-kind-ne3
unfolding marking_of need
returns-then-kind-ne3 c =
    c.refused-then-kind-ne3.ensures ∙ simp (sym c.header_at.ensures ∙ c.in-Some.is, ne_eqb _ _ c.if-kind-ne3.true)

pub returns-then-len-ne0 : goal.returns-then-len-ne0
unfolding marking_of need
returns-then-len-ne0 c =
    c.refused-then-len-ne0.ensures ∙ simp (sym c.header_at.ensures ∙ c.in-Some.is, eq-eqb _ _ c.if-kind-ne3.false, ne_eqb _ _ c.if-len-ne0.true)

pub overflow_add-at : goal.overflow_add-at
overflow_add-at c =
    let k = known _ _ _ _ (sym c.header_at.ensures ∙ c.in-Some.is) in
    omega arith

pub overflow_add-next : goal.overflow_add-next
overflow_add-next c =
    let k = known _ _ _ _ (sym c.header_at.ensures ∙ c.in-Some.is) in
    omega arith

pub overflow_add-next-2 : goal.overflow_add-next-2
overflow_add-next-2 c =
    let k = known _ _ _ _ (sym c.header_at.ensures ∙ c.in-Some.is) in
    omega arith

pub returns-then-not-ascends : goal.returns-then-not-ascends
unfolding marking_of need
returns-then-not-ascends c =
    c.refused-then-not-ascends.ensures ∙ simp (sym c.header_at.ensures ∙ c.in-Some.is, eq-eqb _ _ c.if-kind-ne3.false, eq-eqb _ _ c.if-len-ne0.false, ← c.conditions-n.ensures, ← c.part_of.ensures, ← c.ascends.ensures, c.if-not-ascends.true)

pub returns-then-next-s : goal.returns-then-next-s
unfolding marking_of need
returns-then-next-s c =
    c.refused-then-next-s.ensures ∙ simp (sym c.header_at.ensures ∙ c.in-Some.is, eq-eqb _ _ c.if-kind-ne3.false, eq-eqb _ _ c.if-len-ne0.false, ← c.conditions-n.ensures, ← c.part_of.ensures, ← c.ascends.ensures, c.if-not-ascends.false, lt-leb _ _ c.if-next-s.true)

pub returns : goal.returns
unfolding marking_of need
returns c =
    simp (sym c.header_at.ensures ∙ c.in-Some.is, eq-eqb _ _ c.if-kind-ne3.false, eq-eqb _ _ c.if-len-ne0.false, ← c.conditions-n.ensures, ← c.part_of.ensures, ← c.ascends.ensures, c.if-not-ascends.false, le-leb _ _ c.if-next-s.false)
