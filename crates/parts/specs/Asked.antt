-- What is answered when an event, a condition or a list of a table is asked for.
use Rattle.std.specs.Prelude.{Result, ℕ, ◌+◌, ◌*◌, List, [], Bool, true, false, ltb, Ok, Err}
use Rattle.refusal.specs.Answer.{Judged, need, and_then}
use Rattle.records.specs.Records.{front, conditions, pre_count, pre_part, post_part, marking_part}
use Rattle.parts.specs.declared.Persistence.{Persistence}
use Rattle.parts.specs.declared.Persistence.TheVariants.{Ordinary, Persistent}
use Rattle.refusal.specs.declared.Refusal.{Refusal}
use Rattle.table.specs.Walk.{judge_of, offset_of}
use Rattle.table.specs.Decoded.{net_of}

-- Event e: the offset of its record; 1 to 9, then 10 at 0 (01, Refusal numbers).
unfoldable pub asked_of : List ℕ → ℕ → Judged
asked_of s e = and_then (judge_of s) (λ n. need (ltb e n) 10 0 (Ok (offset_of s e)))

-- Condition b: the offset of its byte; 1 to 9, then 10 at 0 (01, Refusal numbers).
unfoldable pub asked_condition_of : List ℕ → ℕ → Judged
asked_condition_of s b = and_then (judge_of s) (λ n. need (ltb b (conditions s)) 10 0 (Ok (front s + 4 + b)))

-- The Marking record: its offset; 1 to 9 (01, Refusal numbers).
unfoldable pub asked_marking_of : List ℕ → Judged
asked_marking_of s = and_then (judge_of s) (λ n. Ok (offset_of s n))

-- The bytes shown for an asking, none where it is refused (01, Table records).
abbrev pub shown_for : Judged → (ℕ → List ℕ) → List ℕ
shown_for (Ok at) bytes = bytes at
shown_for (Err refusal) bytes = []

-- Where they lie in the table, at its start where the asking is refused.
abbrev pub place_for : Judged → (ℕ → ℕ) → ℕ
place_for (Ok at) place = place at
place_for (Err refusal) place = 0

-- The preconditions of event e as bytes (01, Table records, kind 2).
unfoldable pub pre_part_of : List ℕ → ℕ → List ℕ
pre_part_of s e = shown_for (asked_of s e) (pre_part s)

-- Where the preconditions of event e lie (01, Table records, kind 2).
unfoldable pub pre_place_of : List ℕ → ℕ → ℕ
pre_place_of s e = place_for (asked_of s e) (λ at. at + 8)

-- The postconditions of event e as bytes (01, Table records, kind 2).
unfoldable pub post_part_of : List ℕ → ℕ → List ℕ
post_part_of s e = shown_for (asked_of s e) (post_part s)

-- Where the postconditions of event e lie (01, Table records, kind 2).
unfoldable pub post_place_of : List ℕ → ℕ → ℕ
post_place_of s e = place_for (asked_of s e) (λ at. at + 8 + 2 * pre_count s at)

-- The start's conditions as bytes (01, Table records, kind 3).
unfoldable pub marking_part_of : List ℕ → List ℕ
marking_part_of s = shown_for (asked_marking_of s) (marking_part s)

-- Where the start's conditions lie (01, Table records, kind 3).
unfoldable pub marking_place_of : List ℕ → ℕ
marking_place_of s = place_for (asked_marking_of s) (λ at. at + 4)

-- An asking's answer with a flag: persistent or ordinary by the flag, or the refusal.
abbrev pub persistence_if : Judged → Bool → Result Persistence Refusal
persistence_if (Ok at) true = Ok Persistent
persistence_if (Ok at) false = Ok Ordinary
persistence_if (Err refusal) flag = Err refusal

-- Whether condition b is persistent in the decoded net (01, Table records, kind 1).
unfoldable pub persistence_of : List ℕ → ℕ → Result Persistence Refusal
persistence_of s b = persistence_if (asked_condition_of s b) ((net_of s).persistent b)

-- The number of such an answer, 0 where nothing is refused (01, Refusal numbers, first column).
abbrev pub persistence_number : Result Persistence Refusal → ℕ
persistence_number (Ok kind) = 0
persistence_number (Err refusal) = refusal.number

-- The place of such an answer, 0 where nothing is refused (01, Refusal numbers, last column).
abbrev pub persistence_place : Result Persistence Refusal → ℕ
persistence_place (Ok kind) = 0
persistence_place (Err refusal) = refusal.place

-- Whether such an answer says persistent (01, Table records, kind 1).
abbrev pub persistence_value : Result Persistence Refusal → Bool
persistence_value (Ok Ordinary) = false
persistence_value (Ok Persistent) = true
persistence_value (Err refusal) = false
