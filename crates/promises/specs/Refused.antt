-- Which refusals each call may give, and what a refusal leaves: demand 1.
use Rattle.std.specs.Prelude.{◌≡◌, Bool, true, false, ◌&&◌, List, [], ◌∷◌, ◌++◌, ℕ, T, None, Some, Result, Ok, Err}
use Rattle.lists.specs.Lists.{mem, same}
use Rattle.refusal.specs.declared.Refusal.{Refusal}
use Rattle.refusal.specs.Answer.{By, Judged}
use Rattle.outward.specs.declared.Answer.{Answer}

-- ---- numbers by what is asked

-- A table is refused with these (01, Refusal numbers).
abbrev pub of_table : List ℕ
of_table = 1 ∷ 2 ∷ 3 ∷ 4 ∷ 5 ∷ 6 ∷ 7 ∷ 8 ∷ 9 ∷ []

-- An event, condition or list that is asked for by number: 10 beside them (01, Refusal numbers).
abbrev pub of_asking : List ℕ
of_asking = of_table ++ 10 ∷ []

-- A list of an event into a lent output: 16 beside them (01, Refusal numbers).
abbrev pub of_list : List ℕ
of_list = of_asking ++ 16 ∷ []

-- The table's start into a lent output: 16 beside the table's (01, Refusal numbers).
abbrev pub of_table_start : List ℕ
of_table_start = of_table ++ 16 ∷ []

-- The lossy events into a lent output: likewise (01, Refusal numbers).
abbrev pub of_lossy : List ℕ
of_lossy = of_table ++ 16 ∷ []

-- A lent marking of the table: 18 beside the table's (01, Refusal numbers).
abbrev pub of_lent : List ℕ
of_lent = of_table ++ 18 ∷ []

-- One step (01, Refusal numbers).
abbrev pub of_step : List ℕ
of_step = 10 ∷ 11 ∷ 12 ∷ []

-- A run without its table: 3 beside its steps' (01, Refusal numbers).
abbrev pub of_steps : List ℕ
of_steps = 3 ∷ of_step

-- Concession and firing: a lent marking with 18, an event with 10, 11 and 12 (01, Refusal numbers).
abbrev pub of_firing : List ℕ
of_firing = of_table ++ 18 ∷ 10 ∷ 11 ∷ 12 ∷ []

-- A replay, whose run is refused with 3 and by its steps, its end with 16 (01, Refusal numbers).
abbrev pub of_replay : List ℕ
of_replay = of_table ++ 10 ∷ 11 ∷ 12 ∷ 16 ∷ []

-- A replay from a lent marking: 18 beside them (01, Refusal numbers).
abbrev pub of_replay_from : List ℕ
of_replay_from = of_replay ++ 18 ∷ []

-- An exchange: its run's refusals and 17 (01, Refusal numbers).
abbrev pub of_exchange : List ℕ
of_exchange = of_table ++ 10 ∷ 11 ∷ 12 ∷ 17 ∷ []

-- The counts of the unfolding: 13 and 14 beside the table's (01, Refusal numbers).
abbrev pub of_unfolding : List ℕ
of_unfolding = of_table ++ 13 ∷ 14 ∷ []

-- Origins and numbers of unfolded things: 10 beside them (01, Refusal numbers).
abbrev pub of_numbering : List ℕ
of_numbering = of_unfolding ++ 10 ∷ []

-- The lists of an unfolded event: 16 beside them (01, Refusal numbers).
abbrev pub of_listing : List ℕ
of_listing = of_numbering ++ 16 ∷ []

-- The unfolded start: 16 beside the unfolding's (01, Refusal numbers).
abbrev pub of_start : List ℕ
of_start = of_unfolding ++ 16 ∷ []

-- A firing in the unfolded net: 18, 10, 11 and 12 beside the unfolding's (01, Refusal numbers).
abbrev pub of_unfolded_firing : List ℕ
of_unfolded_firing = of_unfolding ++ 18 ∷ 10 ∷ 11 ∷ 12 ∷ []

-- A lift and its end: the run's refusals, 15 and 16 beside the unfolding's (01, Refusal numbers).
abbrev pub of_lift : List ℕ
of_lift = of_unfolding ++ 10 ∷ 11 ∷ 12 ∷ 15 ∷ 16 ∷ []

-- A projection and the end of an unfolded replay: the same without 15 (01, Refusal numbers).
abbrev pub of_project : List ℕ
of_project = of_unfolding ++ 10 ∷ 11 ∷ 12 ∷ 16 ∷ []

-- A Run or Lifted record read (01, Runs across).
abbrev pub of_reading : List ℕ
of_reading = 1 ∷ 2 ∷ 3 ∷ 9 ∷ 16 ∷ []

-- A Run or Lifted record written (01, Runs across).
abbrev pub of_writing : List ℕ
of_writing = 3 ∷ 16 ∷ []

-- The two files of a listing, judged and read (01, Listing).
abbrev pub of_files : List ℕ
of_files = of_table ++ 16 ∷ 19 ∷ []

-- A piece of a listing written: a marking that is too long, and 16 (01, Refusal numbers).
abbrev pub of_piece : List ℕ
of_piece = 18 ∷ 16 ∷ []

-- ---- what is promised

-- With these numbers a condition stopped a step (02, No. 2).
abbrev pub by_condition : List ℕ
by_condition = 11 ∷ 12 ∷ []

-- A condition is named (02, No. 2).
abbrev pub naming : By → Bool
naming None = false
naming (Some condition) = true

-- A refusal names the condition exactly with 11 and 12 (02, No. 2).
abbrev pub named : Refusal → Bool
named refusal = same (mem refusal.number by_condition) (naming refusal.by)

-- An answer is fine, or refused with one of these numbers and, exactly with 11 and 12, with the condition (01, Refusal numbers; 02, No. 2).
abbrev pub listed : {A : Type 0} → List ℕ → Result A Refusal → Bool
listed numbers (Ok value) = true
listed numbers (Err refusal) = mem refusal.number numbers && named refusal

-- A call is worked, or refused with one of these numbers, as above, while its lent memory stays as it was (01, Refusal numbers: demand 1).
pub record Refusing (numbers : List ℕ) (answer : Judged) (old new : List ℕ) : Type 0 where
  pub number : T (listed numbers answer)
  pub kept : (refusal : Refusal) → answer ≡ Err refusal → new ≡ old

-- A call for C tells 0 or one of these numbers, a condition other than 0 only with 11 and 12, and where the number is not 0 what C lent
-- stays as it was (01, Refusal numbers: demand 1; 02, No. 2).
pub record Telling (numbers : List ℕ) (answer : Answer) (Kept : Type 0) : Type 0 where
  pub number : T (mem answer.number (0 ∷ numbers))
  pub by : (T (mem answer.number by_condition) → ⊥) → answer.by ≡ 0
  pub kept : (answer.number ≡ 0 → ⊥) → Kept
