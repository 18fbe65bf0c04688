-- Numbers of two bytes in a list of bytes.
use Rattle.std.specs.Prelude.{ℕ, ◌+◌, ◌*◌, ◌/◌, ◌%◌, Bool, List, [], ◌∷◌, leb, eqb, length, get_or}
use Rattle.lists.specs.Lists.{all, keep}

-- The number of two bytes at an offset, low byte first; a byte past the end counts as 0 (01, Table records).
abbrev pub word_at : List ℕ → ℕ → ℕ
word_at s i = get_or s i 0 + 256 * get_or s (i + 1) 0

-- The bytes read two by two; a last odd byte is no number (01, Table records).
unfoldable pub words : List ℕ → List ℕ
words [] = []
words (a ∷ []) = []
words (a ∷ b ∷ r) = (a + 256 * b) ∷ words r

-- The numbers written as two bytes each, low byte first (01, Table records).
unfoldable pub bytes_of : List ℕ → List ℕ
bytes_of [] = []
bytes_of (w ∷ ws) = w % 256 ∷ w / 256 ∷ bytes_of ws

-- Each byte is 0 or 1 (01, Table records).
unfoldable pub bits : List ℕ → Bool
bits s = all (λ b. leb b 1) s

-- How many of the numbers have a byte 1 among the flags (01, Refusal numbers).
unfoldable pub count_in : List ℕ → List ℕ → ℕ
count_in flags ws = length (keep (λ w. eqb (get_or flags w 0) 1) ws)
