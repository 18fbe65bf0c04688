-- `event_rules::event_record` meets its contract.
use mathlib.Core.Path.{◌∙◌, sym}
use native.Mathlib.Omega.{arith}
use borrow.Author.Tests.{eq-eqb, ne_eqb, le-leb, lt-leb}
use Rattle.refusal.specs.Answer.{need}
use Rattle.event_rules.specs.EventRules.{event_of}
use Rattle.records.proofs.Headers.{known}
use Rattle.event_rules.proofs.event_record.Goals as goal

pub returns-in_default : goal.returns-in_default
unfolding event_of need
returns-in_default c =
    c.refused.ensures ∙ simp (sym c.header_at.ensures ∙ c.in_default.is)

pub returns-then-kind-ne2 : goal.returns-then-kind-ne2
unfolding event_of need
returns-then-kind-ne2 c =
    c.refused-then-kind-ne2.ensures ∙ simp (sym c.header_at.ensures ∙ c.in-Some.is, ne_eqb _ _ c.if-kind-ne2.true)

pub returns-then-len-lt4 : goal.returns-then-len-lt4
unfolding event_of need
returns-then-len-lt4 c =
    c.refused-then-len-lt4.ensures ∙ simp (sym c.header_at.ensures ∙ c.in-Some.is, eq-eqb _ _ c.if-kind-ne2.false, lt-leb _ _ c.if-len-lt4.true)

pub overflow_add-at : goal.overflow_add-at
overflow_add-at c =
    let k = known _ _ _ _ (sym c.header_at.ensures ∙ c.in-Some.is) in
    omega arith

pub overflow_add-at-2 : goal.overflow_add-at-2
overflow_add-at-2 c =
    let k = known _ _ _ _ (sym c.header_at.ensures ∙ c.in-Some.is) in
    omega arith

pub returns-then-len-a : goal.returns-then-len-a
unfolding event_of need
returns-then-len-a c =
    c.refused-then-len-a.ensures ∙ simp (sym c.header_at.ensures ∙ c.in-Some.is, eq-eqb _ _ c.if-kind-ne2.false, le-leb _ _ c.if-len-lt4.false, ← c.word-a.ensures, ← c.word-z.ensures, ne_eqb _ _ c.if-len-a.true)

pub overflow_add-at-3 : goal.overflow_add-at-3
overflow_add-at-3 c =
    let k = known _ _ _ _ (sym c.header_at.ensures ∙ c.in-Some.is) in
    omega arith

pub overflow_add-at-4 : goal.overflow_add-at-4
overflow_add-at-4 c =
    let k = known _ _ _ _ (sym c.header_at.ensures ∙ c.in-Some.is) in
    omega arith

pub event_lists-requires : goal.event_lists-requires
event_lists-requires c =
    let k = known _ _ _ _ (sym c.header_at.ensures ∙ c.in-Some.is) in
    omega arith

pub returns : goal.returns
unfolding event_of need
returns c =
    c.event_lists.ensures ∙ simp (sym c.header_at.ensures ∙ c.in-Some.is, eq-eqb _ _ c.if-kind-ne2.false, le-leb _ _ c.if-len-lt4.false, ← c.word-a.ensures, ← c.word-z.ensures, eq-eqb _ _ c.if-len-a.false)
