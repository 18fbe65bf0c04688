-- What is needed to show an unfolded marking.
use Rattle.std.specs.Prelude.{◌≡◌, List, ℕ, Ok}
use Rattle.model.specs.Lent.{bytes, marking}
use Rattle.table.specs.Walk.{judge_of}
use Rattle.layout.specs.Laid.{Laid}

-- A table that is judged and laid out, with what holds in 256 bytes.
pub record Shown (s : List ℕ) (events : ℕ) (users bases state : List ℕ) : Type 0 where
  pub markers : List ℕ
  pub laid : Laid s markers users bases
  pub judged : judge_of s ≡ Ok events
  pub lent : state ≡ bytes 256 (marking state)
