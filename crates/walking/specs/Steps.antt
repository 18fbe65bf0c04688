-- One step of the unfolded net over ranges of unfolded conditions: which of them stop it.
use Rattle.std.specs.Prelude.{ℕ, ◌+◌, ◌≤◌, ◌<◌, ◌≡◌, Bool, true, false, not, ◌&&◌, ◌||◌, List, T, length, Ok, Option as Found, None, Some}
use Rattle.std.proofs.Math.Option.{Option, none, some}
use Rattle.lists.specs.Lists.{mem, failing}
use Rattle.model.specs.Net.{Marking, Stop, first_stop}
use Rattle.model.specs.Unfolding.{basic}
use Rattle.model.specs.Numbering.{width}
use Rattle.model.specs.Across.{most_unfolded}
use Rattle.table.specs.Walk.{judge_of}
use Rattle.table.specs.Decoded.{net_of}
use Rattle.layout.specs.Laid.{Sums}
use Rattle.segments.specs.Ranges.{ranged}
use Rattle.refusal.specs.declared.UnfoldedCondition.{UnfoldedCondition}

-- What an unfolded condition of a list must pass, by a marking, the preconditions of an event and the conditions under the old rule: it
-- holds, or it makes no contact (01, Playing the table; 02, No. 4).
abbrev pub passes_of : Bool → Marking → List ℕ → (ℕ → Bool) → ℕ → Bool
passes_of false m pre old b = m b
passes_of true m pre old b = not (m b) || mem b pre && not (old b)

-- The first unfolded condition that fails, if one does.
abbrev pub Failing : Type 0
Failing = Found UnfoldedCondition

-- The first unfolded condition that fails, as an answer.
abbrev pub failing_of : Option ℕ → Failing
failing_of none = None
failing_of (some b) = Some (record { 0 = b })

-- What stops an event with these lists, of which no condition is persistent (01, Playing the table).
abbrev pub stops : Marking → List ℕ → List ℕ → (ℕ → Bool) → Option Stop
stops m pre post old = first_stop true (failing (passes_of false m pre old) pre) (failing (passes_of true m pre old) post)

-- What is known of an accepted table whose unfolded conditions are walked: the sums before its conditions, and that there are not too many
-- (01, Unfolding).
pub record Summed (s bases : List ℕ) : Type 0 where
  pub judged : judge_of s ≡ Ok (net_of s).events
  pub sums : Sums (width (net_of s)) (net_of s).conditions bases
  pub few : (basic (net_of s)).conditions ≤ most_unfolded

-- So many ranges stand in their arrays.
pub record Kept (starts sizes : List ℕ) (k : ℕ) : Type 0 where
  pub in_starts : k ≤ length starts
  pub in_sizes : k ≤ length sizes

-- Each number of so many ranges is below another.
pub record Below (starts sizes : List ℕ) (k most : ℕ) : Type 0 where
  pub kept : Kept starts sizes k
  pub each : (b : ℕ) → T (mem b (ranged starts sizes k)) → b < most

-- Each number of a range is below another.
abbrev pub BelowIn : ℕ → ℕ → ℕ → Type 0
BelowIn first size most = (b : ℕ) → b < size → first + b < most
