-- What reading answers, with what it leaves in the lent run, case by case.
use Prim.Native.Nat.{ℕ, ◌≤◌, ◌<◌}
use mathlib.Core.Path.{◌≡◌}
use mathlib.Core.List.{List, ◌++◌}
use borrow.Author.Tests.{le-leb, lt-leb, leb-true}
use lib.ListN.{length, drop}
use Rattle.refusal.specs.declared.Refusal.{Refusal}
use Rattle.std.specs.Prelude.{Ok, Err}
use Rattle.refusal.specs.Answer.{refused_at, need, fitting}
use Rattle.refusal.proofs.Chain.{need_fine, then_fine}
use Rattle.runs.specs.Runs.{steps_in, read_answer, run_of, run_into}
use Rattle.runs.proofs.Judging.{IsRecord, fine_is_record}

-- Reading, by what the bytes were found to be and whether the steps fit.
module _ (kind : ℕ) (bytes run : List ℕ) where
  pub read_refused :
      (refusal : Refusal)
      → steps_in kind bytes ≡ Err refusal
      → (read_answer kind bytes (length run) ≡ Err refusal) × (run_into kind bytes run ≡ run)
  unfolding read_answer run_into
  read_refused refusal e = (rw e, rw e)

  pub read_short :
      (n : ℕ)
      → steps_in kind bytes ≡ Ok n → length run < n
      → (read_answer kind bytes (length run) ≡ refused_at 16 n) × (run_into kind bytes run ≡ run)
  unfolding read_answer run_into fitting need
  read_short n e h =
      let short = lt-leb n (length run) h in
      (rw (e, short), rw (e, short))

  pub read_fits :
      (n : ℕ)
      → steps_in kind bytes ≡ Ok n → n ≤ length run
      → (read_answer kind bytes (length run) ≡ Ok n) × (run_into kind bytes run ≡ run_of bytes ++ drop (length (run_of bytes)) run)
  unfolding read_answer run_into fitting need
  read_fits n e h =
      let fits = le-leb n (length run) h in
      (rw (e, fits), rw (e, fits))

-- A fine answer, taken back to what it was given for.
pub read_fine :
    (kind : ℕ) (bytes : List ℕ) (room n : ℕ)
    → read_answer kind bytes room ≡ Ok n → IsRecord kind bytes n × (n ≤ room)
unfolding read_answer fitting
read_fine kind bytes room n e =
    let (steps, found, e0) = then_fine (steps_in kind bytes) _ n e in
    let (fits, e1) = need_fine _ 16 steps n _ e0 in
    let same : steps ≡ n = cc e1 in
    (rw same at (fine_is_record kind bytes steps found), rw same at (leb-true steps room fits))
