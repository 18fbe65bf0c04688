-- `reader::record_at` meets its contract.
use mathlib.Core.Path.{◌∙◌, sym}
use borrow.Author.Tests.{eq-eqb, ne_eqb, lt-ltb, le-ltb}
use Rattle.refusal.specs.Answer.{need}
use Rattle.records.specs.Records.{front}
use Rattle.reader.specs.Read.{record_of}
use Rattle.reader.proofs.record_at.Goals as goal

pub returns-then-at-front : goal.returns-then-at-front
unfolding record_of
returns-then-at-front c =
    c.conditions_record.ensures ∙ simp (eq-eqb _ (front c.args.table.now) (c.if-at-front.true ∙ c.front.ensures))

pub returns-then-at-eq0 : goal.returns-then-at-eq0
unfolding record_of
returns-then-at-eq0 c =
    let s = c.args.table.now in
    c.rule_record.ensures ∙ simp (ne_eqb c.args.at (front s) (λ q. c.if-at-front.false (q ∙ sym c.front.ensures)), eq-eqb _ 0 c.if-at-eq0.true)

pub returns-then-at-offset : goal.returns-then-at-offset
unfolding record_of need
returns-then-at-offset c =
    let s = c.args.table.now in
    c.event_record.ensures ∙ simp (ne_eqb c.args.at (front s) (λ q. c.if-at-front.false (q ∙ sym c.front.ensures)), ne_eqb _ 0 c.if-at-eq0.false, sym c.is_event.ensures ∙ c.if-is_event.true, ← c.offset.ensures, lt-ltb _ _ c.if-at-offset.true)

pub returns-else-at-offset : goal.returns-else-at-offset
unfolding record_of need
returns-else-at-offset c =
    let s = c.args.table.now in
    c.refused.ensures ∙ simp (ne_eqb c.args.at (front s) (λ q. c.if-at-front.false (q ∙ sym c.front.ensures)), ne_eqb _ 0 c.if-at-eq0.false, sym c.is_event.ensures ∙ c.if-is_event.true, ← c.offset.ensures, le-ltb _ _ c.if-at-offset.false)

pub returns-else-is_event : goal.returns-else-is_event
unfolding record_of
returns-else-is_event c =
    let s = c.args.table.now in
    c.marking_record.ensures ∙ simp (ne_eqb c.args.at (front s) (λ q. c.if-at-front.false (q ∙ sym c.front.ensures)), ne_eqb _ 0 c.if-at-eq0.false, sym c.is_event.ensures ∙ c.if-is_event.false)
