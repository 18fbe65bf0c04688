-- What the calls for the end of a run in the unfolded net answer and what they leave in their lent output.
use Rattle.std.specs.Prelude.{List, ℕ, length}
use Rattle.model.specs.Lent.{bytes}
use Rattle.model.specs.Net.{begin}
use Rattle.model.specs.Runs.{end}
use Rattle.model.specs.Unfolding.{basic}
use Rattle.model.specs.Across.{lift, project}
use Rattle.refusal.specs.Answer.{Judged, and_then, written}
use Rattle.table.specs.Walk.{judge_of}
use Rattle.table.specs.Decoded.{net_of}
use Rattle.across.specs.Calls.{numbers_of, ended}

-- An unfolded run replayed, into an output with so much room: the refusals of the projection, but 16 counts unfolded conditions; fine:
-- their number (01, Runs across and Refusal numbers).
unfoldable pub unfolded_replay_of : List ℕ → List ℕ → ℕ → Judged
unfolded_replay_of s w room = and_then (judge_of s) (λ _. ended (project (net_of s) w) (basic (net_of s)).conditions room)

-- The lent output after it: the unfolded marking that the run ends in (01, Unfolding and Refusal numbers).
unfoldable pub unfolded_replayed_of : List ℕ → List ℕ → List ℕ → List ℕ
unfolded_replayed_of s w out =
    written (unfolded_replay_of s w (length out)) (bytes (basic (net_of s)).conditions (end (basic (net_of s)) (begin (basic (net_of s))) w)) out

-- A run lifted and replayed in the unfolded net: the refusals of the lift, but 16 counts unfolded conditions; fine: their number (01,
-- Runs across and Refusal numbers).
unfoldable pub lift_end_of : List ℕ → List ℕ → ℕ → Judged
lift_end_of s r room = and_then (judge_of s) (λ _. ended (lift (net_of s) r) (basic (net_of s)).conditions room)

-- The lent output after it: the unfolded marking that the lift ends in (01, Runs across and Refusal numbers).
unfoldable pub lift_ended_of : List ℕ → List ℕ → List ℕ → List ℕ
lift_ended_of s r out =
    written (lift_end_of s r (length out))
    (bytes (basic (net_of s)).conditions (end (basic (net_of s)) (begin (basic (net_of s))) (numbers_of (lift (net_of s) r)))) out
