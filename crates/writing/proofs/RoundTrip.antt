-- Reading and writing undo each other, for Run and Lifted records alike: the theorems on what the public calls answer.
use Prim.Native.Nat.{ℕ, ◌+◌, ◌*◌, ◌≤◌, ◌<◌}
use native.Mathlib.Omega.{arith}
use mathlib.Core.Path.{◌≡◌, sym, ◌∙◌}
use mathlib.Core.List.{List, ◌++◌}
use lib.ListN.{length, get_or, take, drop}
use lib.Seq.{take_at}
use Rattle.std.specs.Prelude.{Ok}
use Rattle.runs.specs.Runs.{read_answer, run_of, run_into}
use Rattle.runs.proofs.Judging.{record_is_fine, length_run}
use Rattle.runs.proofs.Answers.{read_fits, read_fine}
use Rattle.writing.specs.Writing.{write_answer, record_of, record_into}
use Rattle.writing.proofs.RecordOfRun.{length_record, record_is, run_of_record, record_of_run}
use Rattle.writing.proofs.Answers.{write_fits, write_fine}

-- An answer that stands first can be taken from there.
taken_again : (answer out : List ℕ) (n : ℕ) → n ≡ length answer → take n (answer ++ drop (length answer) out) ≡ answer
taken_again answer out n e = take_at answer (drop (length answer) out) n (sym e)

-- A run that was written as a record is read from it again, wherever it fits.
pub reading_what_was_written :
    (kind : ℕ) (run bytes back : List ℕ) (n : ℕ)
    → write_answer run (length bytes) ≡ Ok n
    → length run ≤ length back
    → (read_answer kind (take n (record_into kind run bytes)) (length back) ≡ Ok (length run))
    × (run_into kind (take n (record_into kind run bytes)) back ≡ run ++ drop (length run) back)
reading_what_was_written kind run bytes back n e fits =
    let (few, needed, room) = write_fine run (length bytes) n e in
    let (_, lent) = write_fits kind run bytes few (omega arith) in
    let size : n ≡ length (record_of kind run) = omega (arith, length_record kind run) in
    let same : take n (record_into kind run bytes) ≡ record_of kind run = rw lent (taken_again (record_of kind run) bytes n size) in
    let found = record_is_fine kind (record_of kind run) (length run) (record_is kind run few) in
    let (answer, into) = read_fits kind (record_of kind run) back (length run) found fits in
    (rw same answer, rw same (into ∙ rw (run_of_record kind run)))

-- A record that was read is written again byte for byte, wherever it fits.
pub writing_what_was_read :
    (kind : ℕ) (bytes run back : List ℕ) (n : ℕ)
    → ((i : ℕ) → get_or bytes i 0 < 256)
    → read_answer kind bytes (length run) ≡ Ok n
    → length bytes ≤ length back
    → (write_answer (take n (run_into kind bytes run)) (length back) ≡ Ok (length bytes))
    × (record_into kind (take n (run_into kind bytes run)) back ≡ bytes ++ drop (length bytes) back)
writing_what_was_read kind bytes run back n byte e fits =
    let (is, room) = read_fine kind bytes (length run) n e in
    let steps = length_run is in
    let (_, lent) = read_fits kind bytes run n (record_is_fine kind bytes n is) room in
    let same : take n (run_into kind bytes run) ≡ run_of bytes = rw lent (taken_again (run_of bytes) run n (sym steps)) in
    let (answer, into) = write_fits kind (run_of bytes) back (omega arith) (omega arith) in
    let whole : 4 + 2 * length (run_of bytes) ≡ length bytes = omega arith in
    (rw (same, ← whole) answer, rw same (into ∙ rw (record_of_run bytes byte is)))
