-- What is promised where the call that tells the lossy events wrote only zeros: nothing of the table's runs is lost.
use Rattle.std.specs.Prelude.{◌≡◌, List, ℕ, ◌≤◌, ◌<◌, T, length, get_or, Ok}
use Rattle.model.specs.Net.{begin}
use Rattle.model.specs.Runs.{runs}
use Rattle.table.specs.Decoded.{net_of}
use Rattle.replay.specs.Calls.{replay_of, end_of}
use Rattle.lift.specs.Calls.{lift_of}
use Rattle.losses.specs.Saved.{Saved}

-- The bytes of so many events, at the front of what the call left, are all 0.
abbrev pub NoneLossy : ℕ → List ℕ → Type 0
NoneLossy events out = (e : ℕ) → e < events → get_or out e 0 ≡ 0

-- Every run of a table, however long, ends as one does that a run of the unfolded net reads back as, and the ends correspond; it is the run
-- without some steps that change nothing (paper, theorem 6.1; 02, No. 3).
abbrev pub NothingLost : List ℕ → Type 0
NothingLost s = (r : List ℕ) → T (runs (net_of s) (begin (net_of s)) r) → Saved (net_of s) r

-- Where replay accepts a run and the table unfolds, what is kept of the run is replayed with the same answer and the same end, and lift
-- takes it, given room (02, No. 3).
pub record KeptLifts (s r end_out : List ℕ) : Type 0 where
  pub saved : Saved (net_of s) r
  pub few : length saved.trimmed.kept ≤ length r
  pub answer : replay_of s saved.trimmed.kept (length end_out) ≡ replay_of s r (length end_out)
  pub same_end : end_of s saved.trimmed.kept end_out ≡ end_of s r end_out
  pub lifts : (room : ℕ) → length saved.trimmed.kept ≤ room → lift_of s saved.trimmed.kept room ≡ Ok (length saved.trimmed.kept)
