-- Reading computed on a few records: what a reader would work out by hand.
use Prim.Native.Nat.{ℕ}
use mathlib.Core.Path.{◌≡◌, refl}
use mathlib.Core.List.{List, [], ◌∷◌, ◌++◌}
use lib.ListN.{take, replicate}
use Rattle.refusal.specs.Answer.{refused_at, need, fitting}
use Rattle.words.specs.Words.{words}
use Rattle.records.specs.Records.{header_of}
use Rattle.runs.specs.Runs.{run_kind, lifted_kind, steps_in, read_answer, run_into}

-- Net A's run and its Run record (01, Nets to test with).
abbrev pub run : List ℕ
run = 0 ∷ 1 ∷ 2 ∷ 1 ∷ []

abbrev pub bytes : List ℕ
bytes = 8 ∷ 0 ∷ 4 ∷ 0 ∷ 0 ∷ 0 ∷ 1 ∷ 0 ∷ 2 ∷ 0 ∷ 1 ∷ 0 ∷ []

-- Read, with one element past the answer that stays.
pub read_in : run_into run_kind bytes (replicate 5 7) ≡ run ++ (7 ∷ [])
unfolding run_into read_answer steps_in header_of need fitting words
read_in = refl

-- Each refusal of reading, in its order.
pub reading_refused :
    (read_answer run_kind (take 11 bytes) 4 ≡ refused_at 1 0)
    × (read_answer lifted_kind bytes 4 ≡ refused_at 2 0)
    × (read_answer run_kind (1 ∷ 0 ∷ 4 ∷ 0 ∷ 0 ∷ []) 4 ≡ refused_at 3 0)
    × (read_answer run_kind (bytes ++ (0 ∷ [])) 4 ≡ refused_at 9 12)
    × (read_answer run_kind bytes 3 ≡ refused_at 16 4)
unfolding read_answer steps_in header_of need fitting
reading_refused = (refl, refl, refl, refl, refl)
