-- What a net must be to have a table.
use Rattle.std.specs.Prelude.{◌≡◌, ℕ, ◌+◌, ◌≤◌, ◌<◌, length}
use Rattle.model.specs.Net.{Net, Sound}
use Rattle.model.specs.Unfolding.{reads}

-- A sound net is within the limits of a table: 1 to 256 conditions, at most 256 events, each with a list that is not empty and
-- with at most 16 persistent preconditions, and one rule (01, Table records and Refusal numbers; 02, No. 4).
pub record Tabled (n : Net) : Type 0 where
  pub sound : Sound n
  pub some_condition : 1 ≤ n.conditions
  pub few_conditions : n.conditions ≤ 256
  pub few_events : n.events ≤ 256
  pub touches : (e : ℕ) → e < n.events → 1 ≤ length (n.preconditions e) + length (n.postconditions e)
  pub one_rule : (b : ℕ) → n.old b ≡ n.old 0
  pub few_persistent : (e : ℕ) → e < n.events → length (reads n e) ≤ 16
