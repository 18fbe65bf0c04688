-- A marking as it is lent to calls: one byte for each condition.
use Rattle.std.specs.Prelude.{Bool, true, false, List, map, ℕ, eqb, get_or}
use Rattle.lists.specs.Lists.{count}
use Rattle.model.specs.Net.{Marking}

-- A byte is 1 where the condition holds, and 0 where it does not (01, Table records).
abbrev pub bit : Bool → ℕ
bit true = 1
bit false = 0

-- The bytes of a marking of so many conditions (01, Table records).
unfoldable pub bytes : ℕ → Marking → List ℕ
bytes c m = map (λ b. bit (m b)) (count 0 c)

-- The marking that bytes say: what has no byte does not hold (01, Table records).
unfoldable pub marking : List ℕ → Marking
marking l = λ b. eqb (get_or l b 0) 1
