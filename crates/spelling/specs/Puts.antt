-- What the functions need and leave: text put at a place of lent bytes, as far as they reach.
use Rattle.std.specs.Prelude.{◌≡◌, List, ◌++◌, ℕ, ◌+◌, length, drop}
use Rattle.std.proofs.lemmas.List.Edits.{sets}

-- A place in a text is at most this far from its first byte, so that no place wraps.
abbrev pub farthest : ℕ
farthest = 4000000

-- A text is put at a place: bytes past the end of the output are left out, and the answer is the place after the text.
pub record Put (out : List ℕ) (at : ℕ) (text : List ℕ) (next : ℕ) (after : List ℕ) : Type 0 where
  pub told : next ≡ at + length text
  pub stored : after ≡ sets out at text

-- A text is the first bytes of an output, everything past it is as it was, and it is counted.
pub record Puts (text out : List ℕ) (count : ℕ) (after : List ℕ) : Type 0 where
  pub told : count ≡ length text
  pub stored : after ≡ text ++ drop (length text) out
