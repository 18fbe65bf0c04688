-- One where a member is, else none: what it tells of the member.
use mathlib.Core.Path.{◌≡◌, refl}
use mathlib.Core.Bool.{Bool, true, false, ◌&&◌}
use lib.Dec.{eqb}
use native.Mathlib.Omega.{arith}
use Rattle.segments.specs.Ranges.{size_if}

pub one_in : (t : Bool) → size_if true t 1 ≡ 1 → t ≡ true
one_in true e = refl
one_in false e = absurd (omega arith)

pub none_in : (t : Bool) → (size_if true t 1 ≡ 1 → ⊥) → t ≡ false
none_in true f = absurd (f refl)
none_in false f = refl

-- what is taken and put, of a rule that lets it be
pub back_tells : (t m p : Bool) → eqb (size_if p m (size_if true t 1)) 1 ≡ (t && m && p)
back_tells true true true = refl
back_tells true true false = refl
back_tells true false true = refl
back_tells true false false = refl
back_tells false true true = refl
back_tells false true false = refl
back_tells false false true = refl
back_tells false false false = refl
