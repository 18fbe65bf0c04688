-- The test of a condition as it is made, by the count of its users.
use Prim.Native.Nat.{ℕ, zero, suc}
use native.Mathlib.Omega.{arith}
use mathlib.Core.Path.{◌≡◌, refl, sym, ◌∙◌}
use mathlib.Core.Bool.{Bool, true, false, cond}
use mathlib.Core.List.{List}
use lib.Dec.{ltb}
use lib.ListN.{get_or}
use borrow.Author.Tests.{lt-ltb}
use Rattle.lists.specs.Lists.{mem}
use Rattle.colours.specs.Colours.{flagged}
use Rattle.repeats.specs.Repeats.{others_at}

-- ---- one condition

module _ (s us pre : List ℕ) (b : ℕ) where
  pub ordinary_none : flagged s b ≡ false → false ≡ others_at s us pre b
  ordinary_none p = rw p

  module _ (p : flagged s b ≡ true) where
    pub one_itself : get_or us b 0 ≡ 1 → mem b pre ≡ true → false ≡ others_at s us pre b
    one_itself q m = rw (p, q, m)

    pub one_other : get_or us b 0 ≡ 1 → mem b pre ≡ false → true ≡ others_at s us pre b
    one_other q m = rw (p, q, m)

    pub not_one : (get_or us b 0 ≡ 1 → ⊥) → ltb 1 (get_or us b 0) ≡ others_at s us pre b
    not_one q = rw p (go (get_or us b 0) (mem b pre) q)
      where
        go : (k : ℕ) (t : Bool) → (k ≡ 1 → ⊥) → ltb 1 k ≡ ltb (cond t 1 0) k
        go k true z = refl
        go zero false z = refl
        go (suc zero) false z = absurd (z refl)
        go (suc (suc k)) false z = lt-ltb 1 (suc (suc k)) (omega arith) ∙ sym (lt-ltb 0 (suc (suc k)) (omega arith))
