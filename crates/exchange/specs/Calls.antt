-- What the exchange answers and what it leaves in the lent run, as functions of what it was given.
use Rattle.std.specs.Prelude.{List, ℕ, Ok}
use Rattle.model.specs.Exchange.{exchanged}
use Rattle.model.specs.Across.{Answer, run, refusal, exchange}
use Rattle.refusal.specs.Answer.{Judged, and_then}
use Rattle.table.specs.Walk.{judge_of}
use Rattle.table.specs.Decoded.{net_of}
use Rattle.table.specs.Links.{refusing}
use Rattle.game.specs.Calls.{leaves}

-- The model's answer, fine with the two numbers that are written (01, Runs across).
abbrev pub swapping : Answer → Judged
swapping (run w) = Ok 2
swapping (refusal x) = refusing x

-- The exchange of steps k and k + 1 (01, Runs across and Refusal numbers).
unfoldable pub exchange_of : List ℕ → List ℕ → ℕ → Judged
exchange_of s r k = and_then (judge_of s) (λ n. swapping (exchange (net_of s) r k))

-- The lent run after it (01, Runs across).
unfoldable pub exchanged_of : List ℕ → List ℕ → ℕ → List ℕ
exchanged_of s r k = leaves (exchange_of s r k) (exchanged k r) r
