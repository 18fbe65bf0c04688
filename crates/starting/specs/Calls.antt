-- What the call for the start of the unfolding answers and writes.
use Rattle.std.specs.Prelude.{ℕ, List, length}
use Rattle.model.specs.Net.{begin}
use Rattle.model.specs.Lent.{bytes}
use Rattle.model.specs.Unfolding.{basic}
use Rattle.refusal.specs.Answer.{Judged, fitting, written}
use Rattle.table.specs.Decoded.{net_of}
use Rattle.layout.specs.Unfolds.{unfolding_of}

-- The unfolded start asked for: the number of unfolded conditions, or 16 where there is room for fewer (01, Runs across and Refusal
-- numbers).
unfoldable pub unfolded_start_of : List ℕ → ℕ → Judged
unfolded_start_of s room = unfolding_of s (fitting (basic (net_of s)).conditions room)

-- What is left in the lent output: a byte for each unfolded condition that tells whether it holds at the unfolded start (01,
-- Unfolding).
unfoldable pub unfolded_started_of : List ℕ → List ℕ → List ℕ
unfolded_started_of s out = written (unfolded_start_of s (length out)) (bytes (basic (net_of s)).conditions (begin (basic (net_of s)))) out
