-- Each refusal, and the number of steps, is given at the first test of the record that decides.
use mathlib.Core.Path.{sym, ◌∙◌}
use borrow.Author.Tests.{eq-eqb, ne_eqb, le-leb, lt-leb}
use Rattle.refusal.specs.Answer.{need}
use Rattle.runs.specs.Runs.{steps_in}
use Rattle.runs.proofs.steps_in.Goals as goal

pub returns-in_default : goal.returns-in_default
unfolding steps_in need
returns-in_default c =
    let header = sym c.header_at.ensures ∙ c.in_default.is in
    c.refused.ensures ∙ simp header

pub returns-then-found-kind : goal.returns-then-found-kind
unfolding steps_in need
returns-then-found-kind c =
    let header = sym c.header_at.ensures ∙ c.in-Some.is in
    c.refused-then-found-kind.ensures ∙ simp (header, ne_eqb _ _ c.if-found-kind.true)

pub returns-then-len-ne0 : goal.returns-then-len-ne0
unfolding steps_in need
returns-then-len-ne0 c =
    let header = sym c.header_at.ensures ∙ c.in-Some.is in
    c.refused-then-len-ne0.ensures ∙ simp (header, eq-eqb _ _ c.if-found-kind.false, ne_eqb _ _ c.if-len-ne0.true)

pub returns-then-len-gt-MOST_STEPS : goal.returns-then-len-gt-MOST_STEPS
unfolding steps_in need
returns-then-len-gt-MOST_STEPS c =
    let header = sym c.header_at.ensures ∙ c.in-Some.is in
    let kind = eq-eqb _ _ c.if-found-kind.false in
    c.refused-then-len-gt-MOST_STEPS.ensures ∙ simp (header, kind, eq-eqb _ _ c.if-len-ne0.false, lt-leb _ _ c.if-len-gt-MOST_STEPS.true)

pub returns-then-len-bytes : goal.returns-then-len-bytes
unfolding steps_in need
returns-then-len-bytes c =
    let header = sym c.header_at.ensures ∙ c.in-Some.is in
    let kind = eq-eqb _ _ c.if-found-kind.false in
    let even = eq-eqb _ _ c.if-len-ne0.false in
    c.refused-then-len-bytes.ensures ∙ simp (header, kind, even, le-leb _ _ c.if-len-gt-MOST_STEPS.false, lt-leb _ _ c.if-len-bytes.true)

pub returns : goal.returns
unfolding steps_in need
returns c =
    let header = sym c.header_at.ensures ∙ c.in-Some.is in
    let kind = eq-eqb _ _ c.if-found-kind.false in
    let even = eq-eqb _ _ c.if-len-ne0.false in
    simp (header, kind, even, le-leb _ _ c.if-len-gt-MOST_STEPS.false, le-leb _ _ c.if-len-bytes.false)
