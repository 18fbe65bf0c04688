-- What stops a step of the unfolded net, and the answer that tells it.
use Rattle.std.specs.Prelude.{ℕ, Err}
use Rattle.std.proofs.Math.Option.{Option}
use Rattle.model.specs.Net.{Stop}
use Rattle.refusal.specs.declared.UnfoldedCondition.{UnfoldedCondition}
use Rattle.refusal.specs.declared.Condition.TheVariants.{Unfolded}
use Rattle.refusal.specs.Answer.{By, Judged}
use Rattle.stopping.specs.declared.Cause as declared
use Rattle.stopping.specs.Causes as either

-- What stops a step (01, Refusal numbers).
abbrev pub Cause : Type 0
Cause = declared.Cause UnfoldedCondition

-- What one step answers: it goes, or what stops it (01, Refusal numbers).
abbrev pub Step : Type 0
Step = either.Step UnfoldedCondition

-- What stops a step, as an answer (01, Refusal numbers).
abbrev pub cause_of : Stop → Cause
cause_of v = either.cause_of (λ b. record { 0 = b }) v

-- What a step answers (01, Refusal numbers).
abbrev pub step_of : Option Stop → Step
step_of o = either.step_of (λ b. record { 0 = b }) o

-- The condition that stops a step, if one does (02, No. 2).
abbrev pub cause_by : Cause → By
cause_by cause = either.cause_by Unfolded cause

-- The place of a firing that is no step of a run (02, No. 2).
abbrev pub cause_place : Cause → ℕ
cause_place cause = either.cause_place Unfolded cause

-- What stops a step as the refusal at a place (01, Refusal numbers; 02, No. 2).
abbrev pub stopped_at : Cause → ℕ → Judged
stopped_at cause place = Err (either.refusal_at Unfolded cause place)

-- A firing's answer as that of a call (01, Refusal numbers; 02, No. 2).
abbrev pub answered_of : Step → ℕ → Judged
answered_of step value = either.answered_of Unfolded step value
