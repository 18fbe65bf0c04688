-- A step on words: what stops it, what it needs to know of a table, and what it leaves.
use Rattle.std.specs.Prelude.{◌≡◌, not, List, ℕ, T, Result, Ok, Err, None, Some}
use Rattle.std.proofs.Math.Option.{Option, none, some}
use Rattle.lists.specs.Lists.{fits, failing, count}
use Rattle.model.specs.Net.{Marking, Stop}
use Rattle.model.specs.Lent.{marking}
use Rattle.words.specs.Words.{words}
use Rattle.records.specs.Records.{flags, pre_part, post_part}
use Rattle.held.specs.Held.{held_in, tabled}
use Rattle.stopping.specs.declared.Cause.TheVariants.{Lacks, Meets}
use Rattle.stopping.specs.Table.{Step, Cause, cause_of}
use Rattle.stopping.specs.Causes.{goes}
use Rattle.step.specs.Steps.{Failing}

-- The lowest of the first n conditions that holds, if one does.
unfoldable pub lowest : ℕ → Marking → Option ℕ
lowest n m = failing (λ b. not (m b)) (count 0 n)

-- What stops a step, by the first precondition that is lacking and the first postcondition in contact (01, Refusal numbers).
abbrev pub told_of : Failing → Failing → Step
told_of (Some b) y = Err (Lacks b)
told_of None (Some b) = Err (Meets b)
told_of None None = goes

-- Two lists ascend, and name conditions that a table can have, as refusal 5 sees to (01, Refusal numbers).
pub record Listed (pre post : List ℕ) : Type 0 where
  pub pre_fits : T (fits 256 (words pre))
  pub post_fits : T (fits 256 (words post))

-- So do those of the record at an offset.
abbrev pub Recorded : List ℕ → ℕ → Type 0
Recorded s at = Listed (pre_part s at) (post_part s at)

-- Words tell which conditions of a table are persistent.
abbrev pub Keeps : List ℕ → List ℕ → Type 0
Keeps s kept = held_in kept ≡ tabled (marking (flags s))

-- The marking after a step: the new one where it goes, else the old (01, Refusal numbers).
abbrev pub moved : Option Stop → Marking → Marking → Marking
moved none new old = new
moved (some v) new old = old

-- A step answers with words that tell the new marking, or with what stops it (01, Refusal numbers).
abbrev pub Moves : Option Stop → Marking → Result (List ℕ) Cause → Type 0
Moves none new (Ok held) = held_in held ≡ new
Moves none new (Err cause) = ⊥
Moves (some v) new (Ok held) = ⊥
Moves (some v) new (Err cause) = cause ≡ cause_of v
