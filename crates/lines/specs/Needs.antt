-- What the inner functions need and leave.
use Rattle.std.specs.Prelude.{◌≡◌, List, ℕ, ◌≤◌, ◌<◌, length}
use Rattle.model.specs.Across.{most_steps, most_unfolded}
use Rattle.records.specs.Records.{conditions}
use Rattle.played.specs.Played.{Playable}
use Rattle.lines.specs.declared.Place.{Place}
use Rattle.lines.specs.declared.Place.TheVariants.{Step}

-- An output of so many bytes has room for every piece.
abbrev pub most_bytes : ℕ
most_bytes = 2048

-- A place is no step past the last of so many.
abbrev pub InRun : ℕ → Place → Type 0
InRun steps p = (k : ℕ) → p ≡ Step k → k < steps

-- A table with its index, a lent marking of its conditions, and a run beside its lifted run.
pub record Steady (s : List ℕ) (n : ℕ) (offsets r w l : List ℕ) : Type 0 where
  pub playable : Playable s n offsets l
  pub long : length l ≡ conditions s
  pub beside : length w ≡ length r
  pub short : length r ≤ most_steps

-- The same with the bytes of the unfolded end, at a place.
pub record Ready (s : List ℕ) (n : ℕ) (offsets r w end l : List ℕ) (p : Place) : Type 0 where
  pub steady : Steady s n offsets r w l
  pub few : length end ≤ most_unfolded
  pub here : InRun (length r) p
