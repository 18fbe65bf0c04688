-- Which conditions a table's flags say are persistent, and how many colours a list of preconditions leaves.
use Rattle.std.specs.Prelude.{ℕ, ◌+◌, ◌*◌, ◌-◌, min, Bool, List, [], ◌∷◌, map, eqb, length, get_or, drop}
use Rattle.lists.specs.Lists.{keep}
use Rattle.model.specs.Across.{most_unfolded}
use Rattle.records.specs.Records.{flags}

-- A condition's byte among the conditions' bytes says that it is persistent (01, Table records).
abbrev pub flagged_in : List ℕ → ℕ → Bool
flagged_in bytes b = eqb (get_or bytes b 0) 1

-- A condition's byte says that it is persistent (01, Table records).
abbrev pub flagged : List ℕ → ℕ → Bool
flagged s b = flagged_in (flags s) b

-- The numbers of markers of the persistent ones in a list, one for each, by the conditions' bytes (01, Unfolding).
abbrev pub radices_in : List ℕ → List ℕ → List ℕ → List ℕ
radices_in bytes markers l = map (λ b. get_or markers b 0) (keep (flagged_in bytes) l)

-- The same of a table (01, Unfolding).
abbrev pub radices : List ℕ → List ℕ → List ℕ → List ℕ
radices s markers l = radices_in (flags s) markers l

-- The product of a list of numbers (01, Unfolding).
unfoldable pub product : List ℕ → ℕ
product [] = 1
product (r ∷ rs) = r * product rs

-- A count, or one more than the most there may be, so that over the limit stays over the limit (01, Unfolding).
abbrev pub capped : ℕ → ℕ
capped k = min k (most_unfolded + 1)

-- The last ones of a list, so many.
abbrev pub ending : ℕ → List ℕ → List ℕ
ending k l = drop (length l - k) l
