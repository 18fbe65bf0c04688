-- What an answer says: the number, the place and the condition for each case, how one test of a chain follows another, and what a call
-- leaves in a lent output.
use Rattle.std.specs.Prelude.{ℕ, Bool, true, false, List, ◌++◌, leb, length, drop, Option, None, Some, Result, Ok, Err}
use Rattle.std.proofs.Math.Option as maths
use Rattle.refusal.specs.declared.Condition.{Condition}
use Rattle.refusal.specs.declared.Condition.TheVariants.{Table, Unfolded}
use Rattle.refusal.specs.declared.Refusal.{Refusal}

-- The condition that stopped a step, if one did (02, No. 2).
abbrev pub By : Type 0
By = Option Condition

-- What a call answers: an offset or a count, or the refusal (01, Refusal numbers).
abbrev pub Judged : Type 0
Judged = Result ℕ Refusal

-- A refusal as an answer, with what stopped a step (01, Refusal numbers; 02, No. 2).
abbrev pub refused_by : {A : Type 0} → ℕ → ℕ → By → Result A Refusal
refused_by number place by = Err (record { number = number; place = place; by = by })

-- A refusal that no condition caused (01, Refusal numbers).
abbrev pub refused_at : {A : Type 0} → ℕ → ℕ → Result A Refusal
refused_at number place = refused_by number place None

-- The number of an answer, 0 where nothing is refused (01, Refusal numbers, first column).
abbrev pub number_of : Judged → ℕ
number_of (Ok value) = 0
number_of (Err refusal) = refusal.number

-- The place of an answer, 0 where nothing is refused (01, Refusal numbers, last column).
abbrev pub place_of : Judged → ℕ
place_of (Ok value) = 0
place_of (Err refusal) = refusal.place

-- What stopped a step, nothing where nothing is refused (02, No. 2).
abbrev pub by_of : Judged → By
by_of (Ok value) = None
by_of (Err refusal) = refusal.by

-- The number of a condition, in the numbering that it belongs to (02, No. 2).
abbrev pub condition_number : Condition → ℕ
condition_number (Table b) = b.0
condition_number (Unfolded b) = b.0

-- The number of the condition that stopped a step, if one did: in the numbering of the table or of the unfolding (02, No. 2).
abbrev pub condition_of : By → maths.Option ℕ
condition_of None = maths.none
condition_of (Some condition) = maths.some (condition_number condition)

-- The offset or count that a fine answer carries, 0 where it is refused.
abbrev pub value_of : Judged → ℕ
value_of (Ok value) = value
value_of (Err refusal) = 0

-- One link of a chain of tests: what follows where the test holds, else its refusal.
unfoldable pub need : Bool → ℕ → ℕ → Judged → Judged
need true number place rest = rest
need false number place rest = refused_at number place

-- One answer after another: what follows is asked with the first one's value, unless the first is refused.
abbrev pub and_then : Judged → (ℕ → Judged) → Judged
and_then (Ok value) rest = rest value
and_then (Err refusal) rest = Err refusal

-- An answer of so many elements is refused with 16 where the lent output has room for fewer (01, Refusal numbers).
unfoldable pub fitting : ℕ → ℕ → Judged
fitting needed room = need (leb needed room) 16 needed (Ok needed)

-- A lent output after a call: the answer from the first element on and then what was there, or all as it was where the call is
-- refused (01, Refusal numbers).
abbrev pub written : Judged → List ℕ → List ℕ → List ℕ
written (Ok value) answer out = answer ++ drop (length answer) out
written (Err refusal) answer out = out
