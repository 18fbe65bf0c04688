-- What reading a Run or a Lifted record answers, and what it leaves in the lent run.
use Rattle.std.specs.Prelude.{ℕ, ◌+◌, ◌/◌, ◌%◌, List, leb, eqb, length, Ok}
use Rattle.model.specs.Across.{most_steps}
use Rattle.refusal.specs.Answer.{Judged, need, and_then, fitting, written}
use Rattle.words.specs.Words.{word_at, words}
use Rattle.records.specs.Records.{part, header_of, when_whole}

-- The kind of a Run record (01, Table records).
abbrev pub run_kind : ℕ
run_kind = 4

-- The kind of a Lifted record (01, Table records).
abbrev pub lifted_kind : ℕ
lifted_kind = 5

-- How many steps an input has that must be one record of the kind and nothing more, or its first refusal (01, Runs across).
unfoldable pub steps_in : ℕ → List ℕ → Judged
steps_in kind bytes = when_whole (header_of bytes 0) 0 (λ found len.
    need (eqb found kind) 2 0
    (need (eqb (len % 2) 0) 3 0
    (need (leb (len / 2) most_steps) 3 0
    (need (leb (length bytes) (4 + len)) 9 (4 + len)
    (Ok (len / 2))))))

-- What reading answers: the number of steps, once the record is judged and they fit (01, Runs across).
unfoldable pub read_answer : ℕ → List ℕ → ℕ → Judged
read_answer kind bytes room = and_then (steps_in kind bytes) (λ steps. fitting steps room)

-- The run that a record holds: its payload as numbers of two bytes (01, Table records).
abbrev pub run_of : List ℕ → List ℕ
run_of bytes = words (part bytes 4 (word_at bytes 0))

-- The lent run after reading (01, Runs across).
unfoldable pub run_into : ℕ → List ℕ → List ℕ → List ℕ
run_into kind bytes run = written (read_answer kind bytes (length run)) (run_of bytes) run
