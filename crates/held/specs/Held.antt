-- A marking in four words of 64 bits.
use Rattle.std.specs.Prelude.{◌≡◌, Bool, ◌&&◌, List, ℕ, ◌+◌, ◌/◌, ◌%◌, ◌^◌, ◌<◌, eqb, ltb, get_or}
use Rattle.model.specs.Net.{Marking}

-- Bit j of a number, the lowest being bit 0.
abbrev pub bit_of : ℕ → ℕ → Bool
bit_of x j = eqb (x / 2 ^ j % 2) 1

-- The marking that words tell: condition b holds exactly if bit b % 64 of word b / 64 is set, and not where there is no such word (02,
-- No. 5).
unfoldable pub held_in : List ℕ → Marking
held_in ws = λ b. bit_of (get_or ws (b / 64) 0) (b % 64)

-- A word tells of the 64 conditions from one on which of them hold (02, No. 5).
abbrev pub Tells : Marking → ℕ → ℕ → Type 0
Tells m from word = (j : ℕ) → j < 64 → bit_of word j ≡ m (from + j)

-- What a marking tells of the 256 conditions that a table can have (01, Table records).
abbrev pub tabled : Marking → Marking
tabled m = λ b. ltb b 256 && m b
