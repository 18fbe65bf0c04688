-- What each call that replays a run answers and what it leaves in its lent output, as functions of what it was given.
use Rattle.std.specs.Prelude.{List, ℕ, length}
use Rattle.model.specs.Net.{Net, begin}
use Rattle.model.specs.Runs.{end, State, opening, replay}
use Rattle.model.specs.Across.{of_table, stuck, too_long}
use Rattle.refusal.specs.Answer.{Judged, and_then, fitting, written}
use Rattle.table.specs.Walk.{judge_of}
use Rattle.table.specs.Decoded.{net_of}
use Rattle.model.specs.Lent.{bytes, marking}
use Rattle.table.specs.Links.{refused_or}
use Rattle.game.specs.Calls.{on_marking}
use Rattle.played.specs.Begun.{begun_at}

-- A run from a state, with room for so many bytes: 3, then its steps, then 16; fine: the number of conditions (01, Refusal numbers).
unfoldable pub played_of : Net → State → List ℕ → ℕ → Judged
played_of n s r room =
    refused_or (too_long r)
    (refused_or (stuck of_table (replay n 0 s r))
    (fitting n.conditions room))

-- A replay from the table's own marking (01, Playing the table).
unfoldable pub replay_of : List ℕ → List ℕ → ℕ → Judged
replay_of s r room = and_then (judge_of s) (λ n. played_of (net_of s) (opening (net_of s)) r room)

-- The lent output after it (01, Table records).
unfoldable pub end_of : List ℕ → List ℕ → List ℕ → List ℕ
end_of s r out = written (replay_of s r (length out)) (bytes (net_of s).conditions (end (net_of s) (begin (net_of s)) r)) out

-- A replay from a lent marking (01, Playing the table).
unfoldable pub replay_from_of : List ℕ → List ℕ → List ℕ → ℕ → Judged
replay_from_of s m r room = on_marking s m (λ n. played_of (net_of s) (begun_at (net_of s) (marking m)) r room)

-- The lent output after it (01, Table records).
unfoldable pub end_from_of : List ℕ → List ℕ → List ℕ → List ℕ → List ℕ
end_from_of s m r out = written (replay_from_of s m r (length out)) (bytes (net_of s).conditions (end (net_of s) (marking m) r)) out
