-- Numbers that a loop stores in lent bytes, two bytes each, and a record stored piece by piece.
use Prim.Native.Nat.{ℕ, suc, ◌+◌, ◌*◌, ◌≤◌, ◌<◌}
use native.Mathlib.Numerals.{add-one}
use native.Mathlib.Omega.{arith}
use mathlib.Core.Path.{◌≡◌, refl}
use mathlib.Core.List.{List, [], ◌∷◌}
use lib.ListN.{length, get_or, drop, drop_of_length-le}
use lib.Seq.{drop-cons, sets}
use Rattle.words.specs.Words.{bytes_of}
use Rattle.writing.specs.Writing.{record_of}

-- Storing what is left from number k on is to store that number and then what is left after it.
pub store_next_bytes :
    (out numbers : List ℕ) (at k : ℕ)
    → k < length numbers
    → sets out at (bytes_of (drop k numbers)) ≡ sets (sets out at (bytes_of (get_or numbers k 0 ∷ []))) (at + 2) (bytes_of (drop (k + 1) numbers))
unfolding bytes_of
store_next_bytes out numbers at k h =
    let two : at + 2 ≡ suc (suc at) = omega arith in
    rw (two, add-one, drop-cons numbers k 0 h)

-- Nothing is left past the last number.
pub store_end_bytes : (out numbers : List ℕ) (at k : ℕ) → length numbers ≤ k → sets out at (bytes_of (drop k numbers)) ≡ out
unfolding bytes_of
store_end_bytes out numbers at k h = rw (drop_of_length-le numbers h)

-- A record is stored as its length, its kind and its steps.
pub stored_record :
    (kind : ℕ) (run out : List ℕ)
    → sets (sets (sets out 0 (bytes_of (2 * length run ∷ []))) 2 (bytes_of (kind ∷ []))) 4 (bytes_of run) ≡ sets out 0 (record_of kind run)
unfolding record_of bytes_of
stored_record kind run out = refl
