-- What is promised of the calls of the game by the rule that a table asks for, in the model's set notation.
use Rattle.std.specs.Prelude.{◌≡◌, ◌↔◌, List, ℕ, Ok}
use Rattle.model.specs.Net.{Net}
use Rattle.model.specs.Paper.{Set, holding, Fires}
use Rattle.model.specs.Lent.{marking}
use Rattle.table.specs.Decoded.{net_of}
use Rattle.game.specs.Calls.{concession_of, fire_of, fired_of}

-- The calls go by a rule of concession: the test says yes exactly where the rule does, a firing works exactly there, and what it leaves is
-- what firing by the rule gives (01, Playing the table; 02, No. 4).
pub record ByRule (Rule : Net → Set ℕ → ℕ → Type 0) (s m : List ℕ) (e : ℕ) : Type 0 where
  pub tested : (concession_of s m e ≡ Ok 0) ↔ Rule (net_of s) (holding (marking m)) e
  pub worked : (fire_of s m e ≡ Ok (net_of s).conditions) ↔ Rule (net_of s) (holding (marking m)) e
  pub fired : Rule (net_of s) (holding (marking m)) e → Fires Rule (net_of s) (holding (marking m)) e (holding (marking (fired_of s m e)))
