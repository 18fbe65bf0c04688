-- What a table answers that is asked for an event's lists or for its start, and what is left in the lent output.
use Rattle.std.specs.Prelude.{ℕ, List, length}
use Rattle.model.specs.Net.{begin}
use Rattle.model.specs.Lent.{bytes}
use Rattle.refusal.specs.Answer.{Judged, and_then, fitting, written}
use Rattle.table.specs.Walk.{judge_of}
use Rattle.parts.specs.Asked.{asked_of}
use Rattle.table.specs.Decoded.{net_of}

-- The preconditions of event e, with room for so many: 1 to 9, 10, then 16; fine: how many (01, Table records and Refusal numbers).
unfoldable pub preconditions_of : List ℕ → ℕ → ℕ → Judged
preconditions_of s e room = and_then (asked_of s e) (λ at. fitting (length ((net_of s).preconditions e)) room)

-- The lent output after it (01, Refusal numbers).
unfoldable pub preconditions_into : List ℕ → ℕ → List ℕ → List ℕ
preconditions_into s e out = written (preconditions_of s e (length out)) ((net_of s).preconditions e) out

-- The postconditions of event e, likewise (01, Table records and Refusal numbers).
unfoldable pub postconditions_of : List ℕ → ℕ → ℕ → Judged
postconditions_of s e room = and_then (asked_of s e) (λ at. fitting (length ((net_of s).postconditions e)) room)

-- The lent output after it (01, Refusal numbers).
unfoldable pub postconditions_into : List ℕ → ℕ → List ℕ → List ℕ
postconditions_into s e out = written (postconditions_of s e (length out)) ((net_of s).postconditions e) out

-- The marking at the start, with room for so many bytes: 1 to 9, then 16; fine: the number of conditions (01, Table records and
-- Refusal numbers).
unfoldable pub start_of : List ℕ → ℕ → Judged
start_of s room = and_then (judge_of s) (λ n. fitting (net_of s).conditions room)

-- The lent output after it (01, Refusal numbers).
unfoldable pub start_into : List ℕ → List ℕ → List ℕ
start_into s out = written (start_of s (length out)) (bytes (net_of s).conditions (begin (net_of s))) out
