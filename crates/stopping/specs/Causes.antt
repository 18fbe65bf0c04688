-- What stops a step of either net, and the answer that tells it; how a condition is made and how it shows its numbering are handed in.
use Rattle.std.specs.Prelude.{ℕ, None, Some, Result, Ok, Err}
use Rattle.std.proofs.Math.Option.{Option, none, some}
use Rattle.model.specs.Net.{Stop, unknown, lacks, meets}
use Rattle.refusal.specs.declared.Condition.{Condition}
use Rattle.refusal.specs.declared.Refusal.{Refusal}
use Rattle.refusal.specs.Answer.{By, Judged, condition_number}
use Rattle.stopping.specs.declared.Cause.{Cause}
use Rattle.stopping.specs.declared.Cause.TheVariants.{Unknown, Lacks, Meets}

-- What one step answers: it goes, or what stops it (01, Refusal numbers).
abbrev pub Step : Type 0 → Type 0
Step C = Result (Unit {0}) (Cause C)

-- The step goes (01, Refusal numbers).
abbrev pub goes : {C : Type 0} → Step C
goes = Ok tt

-- What stops a step, as an answer (01, Refusal numbers).
abbrev pub cause_of : {C : Type 0} → (ℕ → C) → Stop → Cause C
cause_of made unknown = Unknown
cause_of made (lacks b) = Lacks (made b)
cause_of made (meets b) = Meets (made b)

-- What a step answers: it goes, or what stops it (01, Refusal numbers).
abbrev pub step_of : {C : Type 0} → (ℕ → C) → Option Stop → Step C
step_of made none = goes
step_of made (some v) = Err (cause_of made v)

-- The number of what stops a step (01, Refusal numbers).
abbrev pub cause_number : {C : Type 0} → Cause C → ℕ
cause_number Unknown = 10
cause_number (Lacks b) = 11
cause_number (Meets b) = 12

-- The condition that stops a step, if one does (02, No. 2).
abbrev pub cause_by : {C : Type 0} → (C → Condition) → Cause C → By
cause_by numbered Unknown = None
cause_by numbered (Lacks b) = Some (numbered b)
cause_by numbered (Meets b) = Some (numbered b)

-- The place of a firing that is no step of a run: that condition, and 0 where there is none (02, No. 2).
abbrev pub cause_place : {C : Type 0} → (C → Condition) → Cause C → ℕ
cause_place numbered Unknown = 0
cause_place numbered (Lacks b) = condition_number (numbered b)
cause_place numbered (Meets b) = condition_number (numbered b)

-- What stops a step as the refusal at a place (01, Refusal numbers; 02, No. 2).
abbrev pub refusal_at : {C : Type 0} → (C → Condition) → Cause C → ℕ → Refusal
refusal_at numbered cause place = record { number = cause_number cause; place = place; by = cause_by numbered cause }

-- What stops a firing that is no step of a run as the refusal at the condition (01, Refusal numbers; 02, No. 2).
abbrev pub refusal_of : {C : Type 0} → (C → Condition) → Cause C → Refusal
refusal_of numbered cause = refusal_at numbered cause (cause_place numbered cause)

-- A firing's answer as that of a call: a value where it goes, else the refusal at the condition (01, Refusal numbers; 02, No. 2).
abbrev pub answered_of : {C : Type 0} → (C → Condition) → Step C → ℕ → Judged
answered_of numbered (Ok done) value = Ok value
answered_of numbered (Err cause) value = Err (refusal_of numbered cause)
