-- What the inner functions of the exchange need: a run that has the two steps.
use Rattle.std.specs.Prelude.{◌≡◌, List, ℕ, suc, ◌≤◌, ◌<◌, T, length, Ok}
use Rattle.model.specs.Net.{begin}
use Rattle.model.specs.Runs.{runs}
use Rattle.model.specs.Across.{most_steps}
use Rattle.table.specs.Walk.{judge_of}
use Rattle.table.specs.Decoded.{net_of}
use Rattle.played.specs.Played.{Indexed}

-- A judged table with its index, and a run of it from its start that has steps k and k + 1.
pub record Exchangeable (s : List ℕ) (n : ℕ) (offsets r : List ℕ) (k : ℕ) : Type 0 where
  pub judged : judge_of s ≡ Ok n
  pub indexed : Indexed s n offsets
  pub short : length r ≤ most_steps
  pub plays : T (runs (net_of s) (begin (net_of s)) r)
  pub next : suc k < length r
