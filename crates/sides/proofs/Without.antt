-- A range without one number, as one segment: which numbers it has, and that it ascends.
use mathlib.Core.Path.{◌≡◌, refl, sym, ◌∙◌, subst}
use mathlib.Core.Bool.{Bool, true, false, not, ◌&&◌, ◌||◌, and-true, cond}
use Prim.Native.Nat.{ℕ, ◌+◌, ◌-◌, ◌≤◌, ◌<◌}
use lib.Dec.{T, eqb, ltb, eqb→eq}
use native.Mathlib.Decide.{dec_le}
use native.Mathlib.Omega.{arith}
use borrow.Author.Tests.{ltb-true, ltb-false, eq-eqb}
use Rattle.lists.proofs.Bools.{T_of, is_false, not_in, not_out, iff, and_left, and_right, and_both, or_left, or_right, or_cases}
use Rattle.segments.specs.declared.Segment.{Segment}
use Rattle.segments.specs.Ranges.{alone_of}
use Rattle.segments.proofs.Places.{inside, inside_in, inside_out}
use Rattle.segments.proofs.Spans.{has, Between, alone_between, alone_has}
use Rattle.sides.specs.Sides.{parted_of}

module _ (taken first size : ℕ) where
  abbrev holed : Segment
  holed = record { first = first; size = taken - first; next = taken + 1; more = (first + size) - (taken + 1) }

  pub parted_has : (k : ℕ) → has (parted_of taken first size) k ≡ (inside first size k && not (eqb k taken))
  parted_has k = go (ltb taken first) refl (ltb taken (first + size)) refl
    where
      outside : (T (inside first size taken) → ⊥) → (b : Bool) → eqb k taken ≡ b → inside first size k ≡ (inside first size k && not b)
      outside f true e =
          let z : k ≡ taken = eqb→eq k taken (T_of (eqb k taken) e) in
          let none : inside first size k ≡ false = is_false (inside first size k) (λ t. f (subst (λ (j : ℕ). T (inside first size j)) z t)) in
          rw none
      outside f false e = sym (and-true (inside first size k))

      other : (k ≡ taken → ⊥) → T (not (eqb k taken))
      other f = not_in (eqb k taken) (λ t. f (eqb→eq k taken t))

      hole : first ≤ taken → taken < first + size
          → (inside first (taken - first) k || inside (taken + 1) ((first + size) - (taken + 1)) k) ≡ (inside first size k && not (eqb k taken))
      hole l m =
          iff (inside first (taken - first) k || inside (taken + 1) ((first + size) - (taken + 1)) k) (inside first size k && not (eqb k taken))
          (λ t. or_cases (inside first (taken - first) k) (inside (taken + 1) ((first + size) - (taken + 1)) k) t
          (λ u. let x = inside_out first (taken - first) k u in
          and_both (inside first size k) (not (eqb k taken)) (T_of (inside first size k) (inside_in first size k (omega arith) (omega arith))) (other (λ z. omega arith)))
          (λ u. let x = inside_out (taken + 1) ((first + size) - (taken + 1)) k u in
          and_both (inside first size k) (not (eqb k taken)) (T_of (inside first size k) (inside_in first size k (omega arith) (omega arith))) (other (λ z. omega arith))))
          (λ t. back (dec_le taken k) (inside_out first size k (and_left (inside first size k) (not (eqb k taken)) t))
          (λ z. not_out (eqb k taken) (and_right (inside first size k) (not (eqb k taken)) t) (T_of (eqb k taken) (eq-eqb k taken z))))
        where
          back : Dec (taken ≤ k) → (first ≤ k) × (k < first + size) → (k ≡ taken → ⊥)
              → T (inside first (taken - first) k || inside (taken + 1) ((first + size) - (taken + 1)) k)
          back (yes g) x f =
              or_right (inside first (taken - first) k) (inside (taken + 1) ((first + size) - (taken + 1)) k)
              (T_of (inside (taken + 1) ((first + size) - (taken + 1)) k) (inside_in (taken + 1) ((first + size) - (taken + 1)) k (omega arith) (omega arith)))
          back (no g) x f =
              or_left (inside first (taken - first) k) (inside (taken + 1) ((first + size) - (taken + 1)) k)
              (T_of (inside first (taken - first) k) (inside_in first (taken - first) k x.0 (omega arith)))

      go : (b : Bool) → ltb taken first ≡ b → (d : Bool) → ltb taken (first + size) ≡ d
          → has (cond b (alone_of first size) (cond d holed (alone_of first size))) k ≡ (inside first size k && not (eqb k taken))
      go true e d f =
          let l : taken < first = ltb-true taken first e in
          alone_has first size k ∙ outside (λ t. let x = inside_out first size taken t in omega arith) (eqb k taken) refl
      go false e true f = hole (ltb-false taken first e) (ltb-true taken (first + size) f)
      go false e false f =
          let l : first + size ≤ taken = ltb-false taken (first + size) f in
          alone_has first size k ∙ outside (λ t. let x = inside_out first size taken t in omega arith) (eqb k taken) refl

  pub parted_between : (low high : ℕ) → low ≤ first → first + size ≤ high → Between low high (parted_of taken first size)
  parted_between low high c d = go (ltb taken first) refl (ltb taken (first + size)) refl
    where
      go : (x : Bool) → ltb taken first ≡ x → (y : Bool) → ltb taken (first + size) ≡ y
          → Between low high (cond x (alone_of first size) (cond y holed (alone_of first size)))
      go true e y f = alone_between low high first size c d
      go false e true f =
          let l : first ≤ taken = ltb-false taken first e in
          let m : taken < first + size = ltb-true taken (first + size) f in
          record { from = c; then = omega arith; upto = omega arith }
      go false e false f = alone_between low high first size c d
