-- What a table answers that is asked for its lossy events, and what is left in the lent output.
use Rattle.std.specs.Prelude.{ℕ, List, length}
use Rattle.model.specs.Lent.{bytes}
use Rattle.refusal.specs.Answer.{Judged, and_then, fitting, written}
use Rattle.table.specs.Walk.{judge_of}
use Rattle.table.specs.Decoded.{net_of}
use Rattle.losses.specs.Losses.{lossy}

-- The lossy events, with room for so many bytes: 1 to 9, then 16; fine: the number of events (01, Table records and Refusal numbers).
unfoldable pub lossy_of : List ℕ → ℕ → Judged
lossy_of s room = and_then (judge_of s) (λ n. fitting (net_of s).events room)

-- The lent output after it: a byte for each event, 1 where it is lossy (01, Refusal numbers).
unfoldable pub lossy_into : List ℕ → List ℕ → List ℕ
lossy_into s out = written (lossy_of s (length out)) (bytes (net_of s).events (lossy (net_of s))) out
