-- `table::judge` meets its contract.
use borrow.Author.Rules.{rules}
use native.Mathlib.Omega.{arith}
use mathlib.Core.Path.{◌∙◌, sym, ap}
use Rattle.refusal.proofs.Chain.{passed_up, goes_on}
use Rattle.table.specs.Walk.{events_from}
use Rattle.table.proofs.Walk.{judge_starts, events_full, events_event, events_last}
use Rattle.table.proofs.judge.Goals as goal

pub returns-in_default : goal.returns-in_default
returns-in_default c =
    passed_up _ c.rule_record-rule.ensures c.in_default.is ∙ sym (judge_starts _)

pub returns-in_default-first : goal.returns-in_default-first
returns-in_default-first c =
    passed_up _ c.conditions_record-first.ensures c.in_default-first.is ∙ sym (judge_starts _ ∙ goes_on _ c.rule_record-rule.ensures c.in-Ok.is)

pub loop-front-init : goal.loop-front-init
loop-front-init c =
    (search rules, judge_starts _ ∙ goes_on _ c.rule_record-rule.ensures c.in-Ok.is ∙ goes_on _ c.conditions_record-first.ensures c.in-Ok-first.is)

pub returns-then-left-eq0 : goal.returns-then-left-eq0
returns-then-left-eq0 c =
    c.refused.ensures ∙ sym (c.loop-front.invariant.1 ∙ ap (λ n. events_from n c.args.table.now c.loop-front.at) c.if-left-eq0.true ∙ events_full _ _ (sym c.is_event.ensures ∙ c.loop-front-test.true))

pub returns-in_default-r : goal.returns-in_default-r
returns-in_default-r c =
    passed_up _ c.event_record-r.ensures c.in_default-r.is
    ∙ sym (c.loop-front.invariant.1 ∙ events_event _ _ (sym c.is_event.ensures ∙ c.loop-front-test.true) _ c.if-left-eq0.false)

pub loop-front-preserved : goal.loop-front-preserved
loop-front-preserved c =
    let on = goes_on _ c.event_record-r.ensures c.in-Ok-r.is in
    (omega arith, c.loop-front.invariant.1 ∙ events_event _ _ (sym c.is_event.ensures ∙ c.loop-front-test.true) _ c.if-left-eq0.false ∙ on)

pub returns-in_default-last : goal.returns-in_default-last
returns-in_default-last c =
    passed_up _ c.marking_record-last.ensures c.in_default-last.is
    ∙ sym (c.loop-front.invariant.1 ∙ events_last _ _ _ (sym c.is_event.ensures ∙ c.loop-front-test.false))

pub returns : goal.returns
returns c =
    sym (c.loop-front.invariant.1 ∙ events_last _ _ _ (sym c.is_event.ensures ∙ c.loop-front-test.false) ∙ goes_on _ c.marking_record-last.ensures c.in-Ok-last.is)
