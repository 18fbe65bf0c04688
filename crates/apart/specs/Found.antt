-- An event found by its offset.
use Rattle.std.specs.Prelude.{◌≡◌, List, ℕ, ◌<◌, Ok}
use Rattle.table.specs.Walk.{judge_of, offset_of}

-- The record of an event of a judged table stands at an offset.
pub record Found (s : List ℕ) (e at : ℕ) : Type 0 where
  pub events : ℕ
  pub judged : judge_of s ≡ Ok events
  pub below : e < events
  pub place : at ≡ offset_of s e
