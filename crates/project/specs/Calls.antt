-- What the projection of an unfolded run answers and what it leaves in its lent output.
use Rattle.std.specs.Prelude.{ℕ, List, length}
use Rattle.model.specs.Across.{project}
use Rattle.refusal.specs.Answer.{Judged, and_then, written}
use Rattle.table.specs.Walk.{judge_of}
use Rattle.table.specs.Decoded.{net_of}
use Rattle.across.specs.Calls.{fitted, numbers_of}

-- The projection of an unfolded run into a lent output with room for so many numbers: 1 to 9 of the table, then 3, 13, 14, the steps
-- and 16; fine: the number of steps (01, Runs across and Refusal numbers).
unfoldable pub project_of : List ℕ → List ℕ → ℕ → Judged
project_of s w room = and_then (judge_of s) (λ _. fitted (project (net_of s) w) room)

-- The lent output after it: the events of the table, one for each step (01, Runs across).
unfoldable pub projected_of : List ℕ → List ℕ → List ℕ → List ℕ
projected_of s w out = written (project_of s w (length out)) (numbers_of (project (net_of s) w)) out
