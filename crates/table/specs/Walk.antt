-- The walk that judges a table, record by record, and where its records stand.
use Rattle.std.specs.Prelude.{Option, None, Some, ℕ, zero, suc, ◌+◌, ◌-◌, List, Bool, false, cond, eqb, Ok}
use Rattle.words.specs.Words.{word_at}
use Rattle.refusal.specs.Answer.{Judged, refused_at, and_then}
use Rattle.records.specs.declared.Header.{Header}
use Rattle.records.specs.Records.{header_of, front, conditions}
use Rattle.rules.specs.Rules.{rule_of, conditions_of, marking_of}
use Rattle.event_rules.specs.EventRules.{event_of}

-- A header is whole and of a kind.
abbrev pub kind_is : ℕ → Option Header → Bool
kind_is k None = false
kind_is k (Some header) = eqb header.kind k

-- The last record, where so many of 256 events are still allowed; fine: the number of events (01, Table records).
abbrev pub last_of : ℕ → List ℕ → ℕ → Judged
last_of left s at = and_then (marking_of s at) (λ _. Ok (256 - left))

-- The records from an offset on, where so many of 256 events are still allowed: one event more is 6, and a record
-- that is refused is the answer (01, Refusal numbers).
unfoldable pub events_from : ℕ → List ℕ → ℕ → Judged
events_from zero s at = cond (kind_is 2 (header_of s at)) (refused_at 6 at) (last_of 0 s at)
events_from (suc left) s at = cond (kind_is 2 (header_of s at)) (and_then (event_of s at) (events_from left s)) (last_of (suc left) s at)

-- The table: a Rule record or none, one Conditions record, the events, one Marking record; fine: the number of events (01, Table
-- records; 02, No. 4).
unfoldable pub judge_of : List ℕ → Judged
judge_of s = and_then (rule_of s) (λ at. and_then (conditions_of s at) (events_from 256 s))

-- The offset so many records further on.
unfoldable pub offset_from : ℕ → List ℕ → ℕ → ℕ
offset_from zero s at = at
offset_from (suc e) s at = offset_from e s (at + 4 + word_at s at)

-- The offset of event e, the first event being 0 (01, Table records).
abbrev pub offset_of : List ℕ → ℕ → ℕ
offset_of s e = offset_from e s (front s + 4 + conditions s)
