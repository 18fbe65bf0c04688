-- What the calls on the lists of an unfolded event answer, and what they leave in a lent output.
use Rattle.std.specs.Prelude.{ℕ, Bool, List, ltb, length}
use Rattle.model.specs.Unfolding.{basic}
use Rattle.refusal.specs.Answer.{Judged, need, fitting, written}
use Rattle.table.specs.Decoded.{net_of}
use Rattle.tally.specs.Having.{list_of}
use Rattle.layout.specs.Unfolds.{unfolding_of}

-- A list of an unfolded event, into an output with so much room: 1 to 9, 13, 14, then 10 past the last, then 16; fine: the number of
-- its members (01, Runs across and Refusal numbers).
unfoldable pub unfolded_list_of : List ℕ → Bool → ℕ → ℕ → Judged
unfolded_list_of s post j room =
    unfolding_of s (need (ltb j (basic (net_of s)).events) 10 0
    (fitting (length (list_of (basic (net_of s)) post j)) room))

-- The lent output after it (01, Refusal numbers).
unfoldable pub unfolded_listed_of : List ℕ → Bool → ℕ → List ℕ → List ℕ
unfolded_listed_of s post j out = written (unfolded_list_of s post j (length out)) (list_of (basic (net_of s)) post j) out
