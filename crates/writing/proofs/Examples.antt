-- Writing computed on a few runs: what a reader would work out by hand.
use mathlib.Core.Path.{◌≡◌, refl}
use mathlib.Core.List.{[], ◌∷◌, ◌++◌}
use lib.ListN.{replicate}
use Rattle.std.specs.Prelude.{Ok}
use Rattle.refusal.specs.Answer.{refused_at, need, fitting}
use Rattle.words.specs.Words.{bytes_of}
use Rattle.runs.specs.Runs.{run_kind, lifted_kind}
use Rattle.runs.proofs.Examples.{run, bytes}
use Rattle.writing.specs.Writing.{write_answer, record_of, record_into}

-- Net A's run written, with one byte past the record that stays.
pub written_out : record_into run_kind run (replicate 13 7) ≡ bytes ++ (7 ∷ [])
unfolding record_into write_answer need fitting record_of bytes_of
written_out = refl

-- The longest run and one step more.
pub longest :
    (write_answer (replicate 4096 0) 8196 ≡ Ok 8196)
    × (write_answer (replicate 4096 0) 8195 ≡ refused_at 16 8196)
    × (write_answer (replicate 4097 0) 8198 ≡ refused_at 3 0)
unfolding write_answer need fitting
longest = (refl, refl, refl)

-- Net D's event 11 is number 1,034 once unfolded and takes both bytes (01, Errors that look right).
pub both_bytes : record_of lifted_kind (1034 ∷ []) ≡ 2 ∷ 0 ∷ 5 ∷ 0 ∷ 10 ∷ 4 ∷ []
unfolding record_of bytes_of
both_bytes = refl
