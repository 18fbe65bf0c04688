-- A record and the run that it holds: each is made from the other and gives it back.
use Prim.Native.Nat.{ℕ, ◌+◌, ◌*◌, ◌/◌, ◌%◌, ◌≤◌, ◌<◌}
use native.Mathlib.Omega.{arith}
use mathlib.Core.Path.{◌≡◌, sym, ap, ◌∙◌}
use mathlib.Core.List.{List, [], ◌∷◌}
use lib.ListN.{length, get_or, take}
use lib.Seq.{take_all}
use Rattle.model.specs.Across.{most_steps}
use Rattle.words.specs.Words.{words, bytes_of}
use Rattle.words.proofs.Laws.{length_words, length_bytes_of, words_bytes_of, bytes_of_words}
use Rattle.runs.specs.Runs.{run_of}
use Rattle.runs.proofs.Judging.{IsRecord}
use Rattle.writing.specs.Writing.{record_of}

-- The record of a run is a record, and it holds that run.
pub length_record : (kind : ℕ) (run : List ℕ) → length (record_of kind run) ≡ 4 + 2 * length run
unfolding record_of
length_record kind run = length_bytes_of (2 * length run ∷ kind ∷ run) ∙ omega arith

pub record_is : (kind : ℕ) (run : List ℕ) → length run ≤ most_steps → IsRecord kind (record_of kind run) (length run)
unfolding record_of bytes_of
record_is kind run few =
    record { kind_is = omega arith; length_is = omega arith; whole_input = length_record kind run; few = few }

pub run_of_record : (kind : ℕ) (run : List ℕ) → run_of (record_of kind run) ≡ run
unfolding record_of bytes_of
run_of_record kind run =
    let announced = 2 * length run % 256 + 256 * (2 * length run / 256) in
    rw (take_all announced (bytes_of run) (omega (arith, length_bytes_of run))) (words_bytes_of run)

-- A record is the record of the run that it holds.
words_of_record : {kind : ℕ} {n : ℕ} (bytes : List ℕ) → IsRecord kind bytes n → words bytes ≡ 2 * length (run_of bytes) ∷ kind ∷ run_of bytes
unfolding words
words_of_record [] r = absurd (omega arith)
words_of_record (a ∷ []) r = absurd (omega arith)
words_of_record (a ∷ b ∷ []) r = absurd (omega arith)
words_of_record (a ∷ b ∷ c ∷ []) r = absurd (omega arith)
words_of_record (a ∷ b ∷ c ∷ d ∷ payload) r =
    let all : take (a + 256 * b) payload ≡ payload = take_all (a + 256 * b) payload (omega arith) in
    let double : 2 * length (words payload) ≡ a + 256 * b = omega (arith, length_words payload) in
    rw (all, double, r.kind_is)

pub record_of_run :
    {kind : ℕ} {n : ℕ} (bytes : List ℕ)
    → ((i : ℕ) → get_or bytes i 0 < 256) → IsRecord kind bytes n → record_of kind (run_of bytes) ≡ bytes
unfolding record_of
record_of_run bytes byte r =
    ap bytes_of (sym (words_of_record bytes r)) ∙ bytes_of_words bytes byte (omega arith)
