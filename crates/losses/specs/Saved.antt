-- What is promised where no event is lossy: the unfolded net has every marking that a run of the table reaches.
use Rattle.std.specs.Prelude.{◌≡◌, false, ◌⊎◌, List, [], ◌∷◌, ℕ, ◌<◌, T}
use Rattle.std.proofs.Math.Option.{none}
use Rattle.model.specs.Net.{Net, Marking, begin, fire}
use Rattle.model.specs.Runs.{runs, end, opening}
use Rattle.model.specs.Unfolding.{basic}
use Rattle.model.specs.Across.{own_or_earliest, repeated}
use Rattle.model.specs.Demands.{Correspond}
use Rattle.model.specs.Readings.{Reading}
use Rattle.losses.specs.Losses.{lossy}

-- No event of a net is lossy (02, No. 3).
abbrev pub Lossless : Net → Type 0
Lossless n = (e : ℕ) → e < n.events → lossy n e ≡ false

-- A list of events, fired from a marking on, becomes another by leaving out steps, each of which changes nothing (01, Playing the table).
abbrev pub LeavesOut : Net → Marking → List ℕ → List ℕ → Type 0
LeavesOut n m [] kept = kept ≡ []
LeavesOut n m (e ∷ r) kept =
    ((fire n m e ≡ m) × LeavesOut n m r kept) ⊎ ((rest : List ℕ) × (kept ≡ e ∷ rest) × LeavesOut n (fire n m e) r rest)

-- A run without some steps that change nothing is a run that ends the same, and no lift turns it away: no event that marks for another
-- comes again in it (02, No. 3).
pub record Trimmed (n : Net) (r : List ℕ) : Type 0 where
  pub kept : List ℕ
  pub leaves_out : LeavesOut n (begin n) r kept
  pub run : T (runs n (begin n) kept)
  pub same_end : end n (begin n) kept ≡ end n (begin n) r
  pub no_repeat : repeated n (own_or_earliest n) 0 (opening n) kept ≡ none

-- A run of the unfolded net from its start reads back as that run, and it ends where the whole run ends: no marking that a run of the
-- table reaches is lost (paper, theorem 6.1; 02, No. 3).
pub record Saved (n : Net) (r : List ℕ) : Type 0 where
  pub trimmed : Trimmed n r
  pub reading : Reading n trimmed.kept
  pub ends : Correspond n (end n (begin n) r) (end (basic n) (begin (basic n)) reading.unfolded)
