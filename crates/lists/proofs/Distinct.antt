-- Lists in which nothing stands twice, and lists that ascend.
use mathlib.Core.Path.{◌≡◌, refl, sym, ◌∙◌, ap}
use mathlib.Core.Bool.{Bool, true, false, cond}
use mathlib.Core.Logic.{◌⊎◌, inl, inr}
use mathlib.Core.Option.{some}
use mathlib.Core.List.Memᴰ
use mathlib.Core.List.{List, [], ◌∷◌, map}
use Prim.Native.Nat.{ℕ, zero, suc, ◌≤◌}
use lib.Dec.{T, leb, le→leb, leb→le}
use lib.ListN.{get_elem?}
use native.Mathlib.Omega.{arith}
use Rattle.lists.specs.Lists.{ascending_from, keep, count, ◌∈◌}
use Rattle.lists.proofs.Bools.{and_left, and_right, and_both}
use Rattle.lists.proofs.Members.{keep_out, count_out}
use Rattle.lists.proofs.Places.{in_at}
use Rattle.lists.proofs.Positions.{at_map_out}

abbrev pub Distinct : {A : Type 0} → List A → Type 0
Distinct {A} xs = (x : A) (i j : ℕ) → get_elem? xs i ≡ some x → get_elem? xs j ≡ some x → i ≡ j

module _ {A : Type 0} where
  pub distinct_nil : Distinct {A = A} []
  distinct_nil x i j p q = absurd (let z : ◌≡◌ {A = ℕ} 0 1 = cc in omega arith)

  pub distinct_cons : (y : A) (xs : List A) → (y ∈ xs → ⊥) → Distinct xs → Distinct (y ∷ xs)
  distinct_cons y xs h d x zero zero p q = refl
  distinct_cons y xs h d x zero (suc j) p q = absurd (h (in_at xs j (let z : x ≡ y = cc in q ∙ ap some z)))
  distinct_cons y xs h d x (suc i) zero p q = absurd (h (in_at xs i (let z : x ≡ y = cc in p ∙ ap some z)))
  distinct_cons y xs h d x (suc i) (suc j) p q = ap suc (d x i j p q)

  -- of a list mapped by a function that keeps different things different
  pub distinct_map : {B : Type 0} (f : A → B) → ((x y : A) → f x ≡ f y → x ≡ y) → (xs : List A) → Distinct xs → Distinct (map f xs)
  distinct_map f g xs d m i j p q =
      let x = at_map_out f xs i p in
      let y = at_map_out f xs j q in
      d x.0 i j x.1 (y.1 ∙ ap some (sym (g x.0 y.0 (x.2 ∙ sym y.2))))

pub distinct_keep : (t : ℕ → Bool) (k c : ℕ) → Distinct (keep t (count k c))
distinct_keep t k zero = distinct_nil
distinct_keep t k (suc c) = go (t k) (distinct_keep t (suc k) c)
  where
    go : (b : Bool) → Distinct (keep t (count (suc k) c)) → Distinct (cond b (k ∷ keep t (count (suc k) c)) (keep t (count (suc k) c)))
    go true ih = distinct_cons k (keep t (count (suc k) c)) (λ i. let r = count_out k (suc k) c (keep_out t (count (suc k) c) i).0 in omega arith) ih
    go false ih = ih

-- ---- lists that ascend

-- no member is below the number from which a list ascends
pub ascending_least : (k : ℕ) (l : List ℕ) → T (ascending_from k l) → (b : ℕ) → b ∈ l → k ≤ b
ascending_least k [] t b i = absurd (Memᴰ.not-nil i)
ascending_least k (x ∷ xs) t b i = go (Memᴰ.cases_cons i) (λ j. ascending_least (suc x) xs (and_right (leb k x) (ascending_from (suc x) xs) t) b j)
  where
    low : k ≤ x
    low = leb→le k x (and_left (leb k x) (ascending_from (suc x) xs) t)

    go : (b ≡ x) ⊎ (b ∈ xs) → (b ∈ xs → suc x ≤ b) → k ≤ b
    go (inl e) ih = omega (arith, low)
    go (inr j) ih = omega (arith, low, ih j)

-- numbers that are counted ascend
pub count_ascends : (k c : ℕ) → T (ascending_from k (count k c))
count_ascends k zero = tt
count_ascends k (suc c) = and_both (leb k k) (ascending_from (suc k) (count (suc k) c)) (le→leb k k (omega arith)) (count_ascends (suc k) c)

-- it ascends from each lower number too
pub ascending_lower : (j k : ℕ) → j ≤ k → (l : List ℕ) → T (ascending_from k l) → T (ascending_from j l)
ascending_lower j k h [] t = tt
ascending_lower j k h (x ∷ xs) t =
    let low = leb→le k x (and_left (leb k x) (ascending_from (suc x) xs) t) in
    and_both (leb j x) (ascending_from (suc x) xs) (le→leb j x (omega arith)) (and_right (leb k x) (ascending_from (suc x) xs) t)

-- what is kept of a list that ascends still does
pub ascending_keep : (f : ℕ → Bool) (k : ℕ) (l : List ℕ) → T (ascending_from k l) → T (ascending_from k (keep f l))
ascending_keep f k [] t = tt
ascending_keep f k (x ∷ xs) t = go (f x) (ascending_keep f (suc x) xs (and_right (leb k x) (ascending_from (suc x) xs) t))
  where
    low : T (leb k x)
    low = and_left (leb k x) (ascending_from (suc x) xs) t

    go : (b : Bool) → T (ascending_from (suc x) (keep f xs)) → T (ascending_from k (cond b (x ∷ keep f xs) (keep f xs)))
    go true ih = and_both (leb k x) (ascending_from (suc x) (keep f xs)) low ih
    go false ih = ascending_lower k (suc x) (omega (arith, leb→le k x low)) (keep f xs) ih
