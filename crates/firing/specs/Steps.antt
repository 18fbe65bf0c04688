-- What a lent unfolded marking must be.
use Rattle.std.specs.Prelude.{ℕ, ◌≡◌, List, length, Ok, Err}
use Rattle.model.specs.Unfolding.{basic}
use Rattle.refusal.specs.Answer.{Judged}
use Rattle.refusal.specs.declared.Refusal.{Refusal}
use Rattle.table.specs.Decoded.{net_of}
use Rattle.layout.specs.Unfolds.{unfolding_of}
use Rattle.layout.specs.Laid.{Laid}
use Rattle.step.specs.Lent.{Lent}
use Rattle.game.specs.Lent.{lent}

-- A table laid out and a lent unfolded marking judged: what refuses them refuses the call, and where nothing does the call's own answer
-- follows, with what is then known (01, Refusal numbers).
pub record Lending (s m : List ℕ) (r : Judged) (markers users bases : List ℕ) : Type 0 where
  pub refuses : (own : Judged) (x : Refusal) → r ≡ Err x → r ≡ unfolding_of s (lent (basic (net_of s)).conditions m own)
  pub goes : (own : Judged) (k : ℕ) → r ≡ Ok k → unfolding_of s (lent (basic (net_of s)).conditions m own) ≡ own
  pub laid : (k : ℕ) → r ≡ Ok k → Laid s markers users bases
  pub lents : (k : ℕ) → r ≡ Ok k → Lent m
  pub long : (k : ℕ) → r ≡ Ok k → length m ≡ (basic (net_of s)).conditions
  pub events : (k : ℕ) → r ≡ Ok k → k ≡ (net_of s).events
