-- An answer as it is told outside, and what becomes of a single value.
use Rattle.std.specs.Prelude.{ℕ, None, Some, Result, Ok, Err}
use Rattle.refusal.specs.declared.Refusal.{Refusal}
use Rattle.refusal.specs.Answer.{By, Judged, condition_number}
use Rattle.outward.specs.declared.Answer.{Answer}

-- The number of the condition that stopped a step, 0 where none did (02, No. 2).
abbrev pub by_number : By → ℕ
by_number None = 0
by_number (Some condition) = condition_number condition

-- An answer as its number, its place and the condition, all 0 where nothing is refused (01, Refusal numbers; 02, No. 2).
unfoldable pub answer_of : {A : Type 0} → Result A Refusal → Answer
answer_of (Ok value) = record { number = 0; place = 0; by = 0 }
answer_of (Err refusal) = record { number = refusal.number; place = refusal.place; by = by_number refusal.by }

-- A single value after a call: the answer's where it is fine, else what was there (01, Refusal numbers).
unfoldable pub value_or : Judged → ℕ → ℕ
value_or (Ok value) old = value
value_or (Err refusal) old = old

-- A single value after a call that gives one: it where the answer is fine, else what was there (01, Refusal numbers).
unfoldable pub given : Judged → ℕ → ℕ → ℕ
given (Ok value) new old = new
given (Err refusal) new old = old
