-- What the lift of a run answers and leaves in lent memory.
use Rattle.std.specs.Prelude.{ℕ, List, length}
use Rattle.model.specs.Across.{lift}
use Rattle.refusal.specs.Answer.{Judged, and_then, written}
use Rattle.table.specs.Walk.{judge_of}
use Rattle.table.specs.Decoded.{net_of}
use Rattle.across.specs.Calls.{fitted, numbers_of}

-- The lift of a run with room for so many numbers: 1 to 9 of the table, then what the model refuses, then 16; fine: the number of
-- steps (01, Runs across and Refusal numbers).
unfoldable pub lift_of : List ℕ → List ℕ → ℕ → Judged
lift_of s r room = and_then (judge_of s) (λ _. fitted (lift (net_of s) r) room)

-- The lent output after it (01, Runs across).
unfoldable pub lifted_of : List ℕ → List ℕ → List ℕ → List ℕ
lifted_of s r out = written (lift_of s r (length out)) (numbers_of (lift (net_of s) r)) out
