-- When a lent marking is refused.
use Rattle.std.specs.Prelude.{List, ℕ, eqb, ltb, leb, length}
use Rattle.lists.specs.Lists.{index}
use Rattle.refusal.specs.Answer.{Judged, need}

-- The index of the first byte above 1, or the length where there is none (01, Refusal numbers).
abbrev pub first_above : List ℕ → ℕ
first_above l = index (λ x. ltb 1 x) l

-- One link of the chain, for a lent marking of so many conditions: 18 by its length, else by its first byte above 1 (01, Refusal
-- numbers).
unfoldable pub lent : ℕ → List ℕ → Judged → Judged
lent c l rest = need (eqb (length l) c) 18 c (need (leb (length l) (first_above l)) 18 (first_above l) rest)
