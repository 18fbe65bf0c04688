-- What writing a Run or a Lifted record answers, and what it leaves in the lent bytes.
use Rattle.std.specs.Prelude.{ℕ, ◌+◌, ◌*◌, List, ◌∷◌, leb, length}
use Rattle.model.specs.Across.{most_steps}
use Rattle.refusal.specs.Answer.{Judged, need, fitting, written}
use Rattle.words.specs.Words.{bytes_of}

-- What writing answers: the number of bytes, once the run is short enough and they fit (01, Runs across).
unfoldable pub write_answer : List ℕ → ℕ → Judged
write_answer run room = need (leb (length run) most_steps) 3 0 (fitting (4 + 2 * length run) room)

-- The record of the kind that holds a run: length, kind, steps (01, Table records).
unfoldable pub record_of : ℕ → List ℕ → List ℕ
record_of kind run = bytes_of (2 * length run ∷ kind ∷ run)

-- The lent bytes after writing (01, Runs across).
unfoldable pub record_into : ℕ → List ℕ → List ℕ → List ℕ
record_into kind run bytes = written (write_answer run (length bytes)) (record_of kind run) bytes
