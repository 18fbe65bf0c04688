-- What the inner functions of a run need and leave: the index of all offsets, bytes to be played on, and a run played on words.
use Rattle.std.specs.Prelude.{◌≡◌, List, ℕ, ◌≤◌, ◌<◌, length, get_or, Result, Ok, Err}
use Rattle.model.specs.Net.{Net, Marking}
use Rattle.model.specs.Runs.{end, replay}
use Rattle.model.specs.Across.{of_table, stuck, too_long}
use Rattle.refusal.specs.Answer.{Judged}
use Rattle.refusal.specs.declared.Refusal.{Refusal}
use Rattle.records.specs.Records.{conditions}
use Rattle.table.specs.Walk.{judge_of, offset_of}
use Rattle.table.specs.Links.{refused_or}
use Rattle.held.specs.Held.{held_in}
use Rattle.step.specs.Lent.{Lent}
use Rattle.played.specs.Begun.{begun_at}
use Rattle.played.specs.declared.Ended.{Ended}

-- The first n numbers of a list are the offsets of the n events of a table.
pub record Indexed (s : List ℕ) (n : ℕ) (l : List ℕ) : Type 0 where
  pub long : n ≤ length l
  pub each : (e : ℕ) → e < n → get_or l e 0 ≡ offset_of s e

-- A judged table with its index, and bytes to be played on, as many as its conditions or more, and as many as a table can have
-- conditions at most.
pub record Playable (s : List ℕ) (n : ℕ) (offsets l : List ℕ) : Type 0 where
  pub judged : judge_of s ≡ Ok n
  pub indexed : Indexed s n offsets
  pub lents : Lent l
  pub room : (conditions s ≤ length l) × (length l ≤ 256)

-- The answer that a run gives: the number of conditions where it came to its end.
abbrev pub ended : Result Ended Refusal → Judged
ended (Ok whole) = Ok whole.conditions
ended (Err refusal) = Err refusal

-- A run played from a marking: the answer is 3, then what its steps say, and where it is fine the words tell the marking at the end (01,
-- Refusal numbers).
pub record Plays (n : Net) (m : Marking) (r : List ℕ) (answer : Result Ended Refusal) : Type 0 where
  pub told : ended answer ≡ refused_or (too_long r) (refused_or (stuck of_table (replay n 0 (begun_at n m) r)) (Ok n.conditions))
  pub reached : (whole : Ended) → answer ≡ Ok whole → held_in whole.held ≡ end n m r
