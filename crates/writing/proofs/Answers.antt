-- What writing answers, with what it leaves in the lent bytes, case by case.
use Prim.Native.Nat.{ℕ, ◌+◌, ◌*◌, ◌≤◌, ◌<◌}
use mathlib.Core.Path.{◌≡◌, sym}
use mathlib.Core.List.{List, ◌++◌}
use borrow.Author.Tests.{le-leb, lt-leb, leb-true}
use lib.ListN.{length, drop}
use Rattle.model.specs.Across.{most_steps}
use Rattle.std.specs.Prelude.{Ok}
use Rattle.refusal.specs.Answer.{refused_at, need, fitting}
use Rattle.refusal.proofs.Chain.{need_fine}
use Rattle.writing.specs.Writing.{write_answer, record_of, record_into}

-- Writing, by whether the run is short enough and its record fits.
module _ (kind : ℕ) (run bytes : List ℕ) where
  pub write_long :
      most_steps < length run
      → (write_answer run (length bytes) ≡ refused_at 3 0) × (record_into kind run bytes ≡ bytes)
  unfolding write_answer record_into need
  write_long h =
      let long = lt-leb (length run) most_steps h in
      (rw long, rw long)

  pub write_short :
      length run ≤ most_steps → length bytes < 4 + 2 * length run
      → (write_answer run (length bytes) ≡ refused_at 16 (4 + 2 * length run)) × (record_into kind run bytes ≡ bytes)
  unfolding write_answer record_into fitting need
  write_short few h =
      let small = le-leb (length run) most_steps few in
      let short = lt-leb (4 + 2 * length run) (length bytes) h in
      (rw (small, short), rw (small, short))

  pub write_fits :
      length run ≤ most_steps → 4 + 2 * length run ≤ length bytes
      → (write_answer run (length bytes) ≡ Ok (4 + 2 * length run))
      × (record_into kind run bytes ≡ record_of kind run ++ drop (length (record_of kind run)) bytes)
  unfolding write_answer record_into fitting need
  write_fits few h =
      let small = le-leb (length run) most_steps few in
      let fits = le-leb (4 + 2 * length run) (length bytes) h in
      (rw (small, fits), rw (small, fits))

-- A fine answer, taken back to what it was given for.
pub write_fine :
    (run : List ℕ) (room n : ℕ)
    → write_answer run room ≡ Ok n → (length run ≤ most_steps) × (n ≡ 4 + 2 * length run) × (n ≤ room)
unfolding write_answer fitting
write_fine run room n e =
    let (few, e0) = need_fine _ 3 0 n _ e in
    let (fits, e1) = need_fine _ 16 (4 + 2 * length run) n _ e0 in
    let same : 4 + 2 * length run ≡ n = cc e1 in
    (leb-true _ _ few, sym same, rw same at (leb-true (4 + 2 * length run) room fits))
