-- A slice that is part of another: what it reads and where it lies.
use Rattle.std.specs.Prelude.{cond, ℕ, ◌+◌, List, ◌≡◌, length, leb}
use Rattle.std.specs.Borrow.{Bor}

-- The slice r is not a copy but lies in s, begins there at a place, and reads so (01, Table records).
pub record Part (r s : Bor (List ℕ)) (place : ℕ) (contents : List ℕ) : Type 0 where
  pub reads : r.now ≡ contents
  pub within : r.ref_ptr.0 ≡ s.ref_ptr.0
  pub begins : r.ref_ptr.1 ≡ s.ref_ptr.1 + place

-- A place of s, or its start where s is not so long.
abbrev pub place_in : List ℕ → ℕ → ℕ
place_in s a = cond (leb a (length s)) a 0
