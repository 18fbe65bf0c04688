-- What the unfolding counts of a table, read from its flags and from the numbers of markers and users: all colours, copies, idle events.
use Rattle.std.specs.Prelude.{ℕ, ◌*◌, Bool, ◌&&◌, cond, List, eqb, get_or, Ok}
use Rattle.std.proofs.Math.Option.{Option, none, some}
use Rattle.lists.specs.Lists.{all, empty, sum}
use Rattle.model.specs.Net.{Net}
use Rattle.model.specs.Numbering.{size}
use Rattle.model.specs.Across.{lowest_idle}
use Rattle.refusal.specs.Answer.{Judged, refused_at}
use Rattle.colours.specs.Colours.{flagged, capped}

-- The numbers of colours of all events, each capped, in one sum (01, Unfolding).
unfoldable pub capped_count : Net → ℕ
unfolding size
capped_count n = sum (λ e. capped (size n e)) n.events

-- The number of copies of condition b: markers times users, or 1 where it is ordinary (01, Unfolding).
abbrev pub width_at : List ℕ → List ℕ → List ℕ → ℕ → ℕ
width_at s markers users b = cond (flagged s b) (get_or markers b 0 * get_or users b 0) 1

-- An event with these lists touches nothing once unfolded (01, Unfolding).
abbrev pub idle_at : List ℕ → List ℕ → List ℕ → List ℕ → Bool
idle_at s users pre post = empty pre && all (λ b. flagged s b && eqb (get_or users b 0) 0) post

-- 13 at the lowest event that touches nothing, else what follows (01, Refusal numbers).
abbrev pub idle_or : Option ℕ → Judged → Judged
idle_or (some e) rest = refused_at 13 e
idle_or none rest = rest

-- All events looked at: 13, or how many colours they have, each number of colours capped (01, Unfolding).
unfoldable pub events_of : Net → Judged
unfolding capped_count lowest_idle
events_of n = idle_or (lowest_idle n) (Ok (capped_count n))
