-- When bytes are those of a marking.
use Rattle.std.specs.Prelude.{◌≡◌, List, ℕ, length}
use Rattle.model.specs.Lent.{bytes, marking}

-- Bytes are those of a marking if each is 0 or 1 (01, Table records).
abbrev pub Lent : List ℕ → Type 0
Lent l = l ≡ bytes (length l) (marking l)
