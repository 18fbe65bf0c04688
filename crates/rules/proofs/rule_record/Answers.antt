-- `rules::rule_record` meets its contract.
use mathlib.Core.Path.{◌∙◌, sym}
use borrow.Author.Tests.{eq-eqb, ne_eqb, le-leb, lt-leb}
use Rattle.refusal.specs.Answer.{need}
use Rattle.rules.specs.Rules.{rule_of}
use Rattle.rules.proofs.Made.{rule_none}
use Rattle.rules.proofs.rule_record.Goals as goal

pub returns-then-word-ne6 : goal.returns-then-word-ne6
returns-then-word-ne6 c =
    sym (rule_none c.args.s.now (λ q. c.if-word-ne6.true (c.word.ensures ∙ q)))

pub returns-in_default : goal.returns-in_default
unfolding rule_of need
returns-in_default c =
    c.refused.ensures ∙ simp (← c.word.ensures, eq-eqb _ _ c.if-word-ne6.false, sym c.header_at.ensures ∙ c.in_default.is)

pub returns-then-len-ne1 : goal.returns-then-len-ne1
unfolding rule_of need
returns-then-len-ne1 c =
    c.refused-then-len-ne1.ensures ∙ simp (← c.word.ensures, eq-eqb _ _ c.if-word-ne6.false, sym c.header_at.ensures ∙ c.in-Some.is, ne_eqb _ _ c.if-len-ne1.true)

pub returns-then-byte-gt1 : goal.returns-then-byte-gt1
unfolding rule_of need
returns-then-byte-gt1 c =
    c.refused-then-byte-gt1.ensures ∙ simp (← c.word.ensures, eq-eqb _ _ c.if-word-ne6.false, sym c.header_at.ensures ∙ c.in-Some.is, eq-eqb _ _ c.if-len-ne1.false, ← c.byte.ensures, lt-leb _ _ c.if-byte-gt1.true)

pub returns : goal.returns
unfolding rule_of need
returns c =
    simp (← c.word.ensures, eq-eqb _ _ c.if-word-ne6.false, sym c.header_at.ensures ∙ c.in-Some.is, eq-eqb _ _ c.if-len-ne1.false, ← c.byte.ensures, le-leb _ _ c.if-byte-gt1.false)
