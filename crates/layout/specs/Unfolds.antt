-- The prefix that all calls on the unfolding share: the table's refusals, then 13, then 14.
use Rattle.std.specs.Prelude.{ℕ, List}
use Rattle.model.specs.Across.{unfolding_refused}
use Rattle.refusal.specs.Answer.{Judged, and_then}
use Rattle.table.specs.Walk.{judge_of}
use Rattle.table.specs.Decoded.{net_of}
use Rattle.table.specs.Links.{refused_or}

-- A call on the unfolding: 1 to 9 of the table, then 13 and 14, then the call's own (01, Refusal numbers).
unfoldable pub unfolding_of : List ℕ → Judged → Judged
unfolding_of s own = and_then (judge_of s) (λ _. refused_or (unfolding_refused (net_of s)) own)
