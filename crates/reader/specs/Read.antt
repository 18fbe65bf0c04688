-- What a reader finds at its place in a table, and where it stands when moved.
use Rattle.std.specs.Prelude.{cond, ℕ, zero, suc, ◌+◌, List, ◌≡◌, length, ltb, eqb, Ok, Err}
use Rattle.refusal.specs.Answer.{Judged, need}
use Rattle.records.specs.Records.{header_of, ruled, front}
use Rattle.rules.specs.Rules.{rule_of, conditions_of, marking_of}
use Rattle.event_rules.specs.EventRules.{event_of}
use Rattle.table.specs.Walk.{kind_is, offset_of}

-- The record at a place, judged as the kind that is allowed there: Conditions at its place, a Rule before it where one stands first, else
-- an Event, 6 where 256 events stand before it, else the Marking, which past the last record is not there (1); fine: the place after it
-- (01, Table records; 02, No. 4).
unfoldable pub record_of : List ℕ → ℕ → Judged
record_of s at =
    cond (eqb at (front s)) (conditions_of s at)
    (cond (eqb at 0) (rule_of s)
    (cond (kind_is 2 (header_of s at)) (need (ltb at (offset_of s 256)) 6 at (event_of s at))
    (marking_of s at)))

-- The place that an answer leads to: one that is refused keeps the reader where it stands.
abbrev pub next_if : Judged → ℕ → ℕ
next_if (Ok next) at = next
next_if (Err refusal) at = at

-- The place after the record at a place; a refused record is not moved past (01, Table records).
unfoldable pub next_of : List ℕ → ℕ → ℕ
next_of s at = next_if (record_of s at) at

-- The place of a reader that was made over a table and moved so many times.
unfoldable pub place_after : ℕ → List ℕ → ℕ
place_after zero s = 0
place_after (suc k) s = next_of s (place_after k s)

-- A reader made over a table and moved from record to record comes to the judge's answer: past an accepted table of n events it
-- stands at the end after n + 2 moves, one more where a Rule record stands first, and in a refused one it comes to a record with that
-- very refusal (01, Table records; 02, No. 4).
abbrev pub ComesTo : List ℕ → Judged → Type 0
ComesTo s (Ok n) = place_after (cond (ruled s) 1 0 + suc (suc n)) s ≡ length s
ComesTo s (Err refusal) = (k : ℕ) × (record_of s (place_after k s) ≡ Err refusal)
