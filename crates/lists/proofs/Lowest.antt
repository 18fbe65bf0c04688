-- The first member of an ascending list that fails a test is the lowest that fails, and the first of another list where that leads.
use mathlib.Core.Path.{◌≡◌, refl, sym, ◌∙◌, ap, subst}
use mathlib.Core.Bool.{Bool, true, false, ◌||◌, cond}
use mathlib.Core.Option.{Option, none, some}
use mathlib.Core.List.{List, [], ◌∷◌}
use Prim.Native.Nat.{ℕ, suc, ◌≤◌}
use native.Mathlib.Omega.{arith}
use lib.Dec.{T, eqb, eqb→eq, eqb_refl, leb}
use Rattle.lists.specs.Lists.{mem, ascending_from, ascending, failing, nothing, index}
use Rattle.lists.proofs.Bools.{is_true, T_of, not-true, and_right, or_left, or_right, or_cases}
use Rattle.lists.proofs.Members.{mem_in}
use Rattle.lists.proofs.Tests.{failing_at}
use Rattle.lists.proofs.Distinct.{ascending_least, ascending_lower}

-- ---- the lowest that fails

-- b is a member that fails, and no member below it does
pub record Lowest (f : ℕ → Bool) (l : List ℕ) (b : ℕ) : Type 0 where
  pub inside : T (mem b l)
  pub fails : f b ≡ false
  pub least : (c : ℕ) → T (mem c l) → f c ≡ false → b ≤ c

pub failing_lowest : (f : ℕ → Bool) (l : List ℕ) → T (ascending l) → (b : ℕ) → failing f l ≡ some b → Lowest f l b
failing_lowest f [] a b h = absurd (let z : ◌≡◌ {A = ℕ} 0 1 = cc in omega arith)
failing_lowest f (x ∷ xs) a b h = go (f x) refl h (failing_lowest f xs (ascending_lower 0 (suc x) (omega arith) xs later) b)
  where
    later : T (ascending_from (suc x) xs)
    later = and_right (leb 0 x) (ascending_from (suc x) xs) a

    go : (t : Bool) → f x ≡ t → cond t (failing f xs) (some x) ≡ some b → (failing f xs ≡ some b → Lowest f xs b) → Lowest f (x ∷ xs) b
    go true q h ih =
        let w = ih h in
        record {
          inside = or_right (eqb b x) (mem b xs) w.inside;
          fails = w.fails;
          least = λ c i z. or_cases (eqb c x) (mem c xs) i (λ e. absurd (not-true (f c) z (T_of (f c) (ap f (eqb→eq c x e) ∙ q)))) (λ e. w.least c e z);
        }
    go false q h ih =
        let z : x ≡ b = cc in
        record {
          inside = or_left (eqb b x) (mem b xs) (subst (λ (y : ℕ). T (eqb b y)) (sym z) (eqb_refl b));
          fails = ap f (sym z) ∙ q;
          least = λ c i y. or_cases (eqb c x) (mem c xs) i
              (λ e. let s : c ≡ x = eqb→eq c x e in omega arith) (λ e. let s = ascending_least (suc x) xs later c (mem_in c xs e) in omega arith);
        }

pub lowest_failing : (f : ℕ → Bool) (l : List ℕ) → T (ascending l) → (b : ℕ) → Lowest f l b → failing f l ≡ some b
lowest_failing f l a b w = go (failing f l) refl
  where
    go : (o : Option ℕ) → failing f l ≡ o → o ≡ some b
    go none q = absurd (not-true (f b) w.fails (failing_at f l (subst (λ (o : Option ℕ). T (nothing o)) (sym q) tt) b w.inside))
    go (some c) q =
        let v = failing_lowest f l a c q in
        let low = w.least c v.inside v.fails in
        let high = v.least b w.inside w.fails in
        let z : c ≡ b = omega arith in
        ap some z

-- ---- where the failing members of one list lead in another

abbrev pub led : (ℕ → ℕ) → Option ℕ → Option ℕ
led to none = none
led to (some b) = some (to b)

-- each that fails leads to one that fails there, and each that fails there has one here, up to which all lead no further than it
pub record Leads (f : ℕ → Bool) (l : List ℕ) (g : ℕ → Bool) (k : List ℕ) (to : ℕ → ℕ) : Type 0 where
  pub inside : (b : ℕ) → T (mem b l) → f b ≡ false → T (mem (to b) k)
  pub fails : (b : ℕ) → T (mem b l) → f b ≡ false → g (to b) ≡ false
  pub back : (c : ℕ) → T (mem c k) → g c ≡ false
      → (b : ℕ) × T (mem b l) × (f b ≡ false) × ((d : ℕ) → d ≤ b → T (mem d l) → f d ≡ false → to d ≤ c)

pub failing_led : (f : ℕ → Bool) (l : List ℕ) (g : ℕ → Bool) (k : List ℕ) (to : ℕ → ℕ) → T (ascending l) → T (ascending k) → Leads f l g k to
    → failing g k ≡ led to (failing f l)
failing_led f l g k to a c w = go (failing f l) refl
  where
    go : (o : Option ℕ) → failing f l ≡ o → failing g k ≡ led to o
    go none q = none_there (failing g k) refl
      where
        none_there : (o : Option ℕ) → failing g k ≡ o → o ≡ none
        none_there none z = refl
        none_there (some x) z =
            let v = failing_lowest g k c x z in
            let r = w.back x v.inside v.fails in
            absurd (not-true (f r.0) r.2 (failing_at f l (subst (λ (o : Option ℕ). T (nothing o)) (sym q) tt) r.0 r.1))
    go (some b) q =
        let v = failing_lowest f l a b q in
        lowest_failing g k c (to b)
        (record {
          inside = w.inside b v.inside v.fails;
          fails = w.fails b v.inside v.fails;
          least = λ x i z. let r = w.back x i z in r.3 b (v.least r.0 r.1 r.2) v.inside v.fails;
        })

-- ---- places

-- the first that fails stands no later than any that fails
pub first_place : (f : ℕ → Bool) (l : List ℕ) (b c : ℕ) → failing f l ≡ some b → T (mem c l) → f c ≡ false → index (eqb b) l ≤ index (eqb c) l
first_place f [] b c h i q = absurd i
first_place f (x ∷ xs) b c h i q = go (f x) refl h (eqb c x) refl i (λ z j. first_place f xs b c z j q)
  where
    at_most : (t : Bool) (y : ℕ) → cond t 0 (suc y) ≤ suc y
    at_most true y = omega arith
    at_most false y = omega arith

    go : (t : Bool) → f x ≡ t → cond t (failing f xs) (some x) ≡ some b → (s : Bool) → eqb c x ≡ s → T (s || mem c xs)
        → (failing f xs ≡ some b → T (mem c xs) → index (eqb b) xs ≤ index (eqb c) xs)
        → cond (eqb b x) 0 (suc (index (eqb b) xs)) ≤ cond s 0 (suc (index (eqb c) xs))
    go true z h true e i ih = absurd (not-true (f c) q (T_of (f c) (ap f (eqb→eq c x (T_of (eqb c x) e)) ∙ z)))
    go true z h false e i ih = let r = ih h i in omega (arith, at_most (eqb b x) (index (eqb b) xs))
    go false z h s e i ih =
        let y : x ≡ b = cc in
        let t : eqb b x ≡ true = subst (λ (w : ℕ). eqb b w ≡ true) (sym y) (is_true (eqb b b) (eqb_refl b)) in
        rw t (omega arith)
