-- What a call on a run across answers: the model's answer, written into a lent output.
use Rattle.std.specs.Prelude.{ℕ, List, [], length}
use Rattle.model.specs.Across.{Answer, run, refusal, too_long, unfolding_refused}
use Rattle.refusal.specs.Answer.{Judged, and_then, fitting}
use Rattle.table.specs.Walk.{judge_of}
use Rattle.table.specs.Decoded.{net_of}
use Rattle.table.specs.Links.{refusing, refused_or}

-- A model's answer as that of a call that writes it into a lent output with room for so many numbers: its refusal, else 16 (01,
-- Refusal numbers).
unfoldable pub fitted : Answer → ℕ → Judged
fitted (run w) room = fitting (length w) room
fitted (refusal x) room = refusing x

-- The numbers of a model's answer; none where it is refused (01, Runs across).
abbrev pub numbers_of : Answer → List ℕ
numbers_of (run w) = w
numbers_of (refusal x) = []

-- The same for a call that writes a marking of c conditions (01, Refusal numbers).
unfoldable pub ended : Answer → ℕ → ℕ → Judged
ended (run w) c room = fitting c room
ended (refusal x) c room = refusing x

-- A call on a run across: 1 to 9 of the table, 3, 13 and 14, then the call's own (01, Refusal numbers).
unfoldable pub across_of : List ℕ → List ℕ → Judged → Judged
across_of s r own = and_then (judge_of s) (λ _. refused_or (too_long r) (refused_or (unfolding_refused (net_of s)) own))
