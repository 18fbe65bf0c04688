-- What the calls for an unfolded condition's number answer, after the prefix that all share.
use Rattle.std.specs.Prelude.{ℕ, List, ltb, Ok}
use Rattle.model.specs.Net.{Net}
use Rattle.model.specs.Unfolding.{UnfoldedCondition, ordinary, copy, basic}
use Rattle.model.specs.Numbering.{condition_number}
use Rattle.refusal.specs.declared.Marker as declared
use Rattle.refusal.specs.Answer.{Judged, need}
use Rattle.table.specs.Decoded.{net_of}
use Rattle.layout.specs.Unfolds.{unfolding_of}
use Rattle.unfolding.specs.Markers.{meant}

-- The number of an unfolded condition, 10 where there is no such one (01, Runs across).
unfoldable pub numbered : Net → UnfoldedCondition → Judged
numbered n p = need (ltb (condition_number n p) (basic n).conditions) 10 0 (Ok (condition_number n p))

-- The number for an ordinary condition (01, Runs across).
abbrev pub ordinary_number : List ℕ → ℕ → Judged
ordinary_number s b = unfolding_of s (numbered (net_of s) (ordinary b))

-- The number for a persistent condition with a marker and a user (01, Runs across).
abbrev pub copy_number : List ℕ → ℕ → declared.Marker → ℕ → Judged
copy_number s b m u = unfolding_of s (numbered (net_of s) (copy b (meant m) u))
