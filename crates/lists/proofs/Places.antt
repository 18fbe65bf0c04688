-- Places in lists: what stands at a place, the places at which a test passes, and that these ascend.
use mathlib.Core.Path.{◌≡◌, refl, sym, ◌∙◌, ap, subst}
use mathlib.Core.Bool.{Bool, true, false, cond}
use mathlib.Core.Logic.{◌⊎◌, inl, inr, ◌↔◌}
use mathlib.Core.Option.{Option, none, some}
use mathlib.Core.List.Memᴰ
use mathlib.Core.List.{List, [], ◌∷◌}
use Prim.Native.Nat.{ℕ, zero, suc, ◌+◌, ◌≤◌, ◌<◌, zero-le, suc-le-suc}
use borrow.Author.Tests.{ne_eqb, eq-eqb, le-leb}
use lib.Dec.{T, eqb, eqb→eq, eqb_refl, leb}
use lib.ListN.{get_elem?, length, get_or, replicate}
use native.Mathlib.Nat.{not-suc-le-zero, le_of_suc-le-suc, add-zero, add-suc, suc-add, zero-add}
use native.Mathlib.Omega.{arith}
use Rattle.lists.specs.Lists.{mem, ascending_from, ascending, index, places_from, ◌∈◌}
use Rattle.lists.proofs.Bools.{T_of, and_both}
use Rattle.lists.proofs.Members.{mem_in, in_mem}

-- ---- what stands at a place

module _ {A : Type 0} where
  pub place_of : {x : A} {xs : List A} → x ∈ xs → (k : ℕ) × (get_elem? xs k ≡ some x)
  place_of (Memᴰ.head e) = (0, ap some (sym e))
  place_of (Memᴰ.tail m) = let r = place_of m in (suc r.0, r.1)

  pub in_at : {x : A} (xs : List A) (k : ℕ) → get_elem? xs k ≡ some x → x ∈ xs
  in_at [] k e = absurd (let z : ◌≡◌ {A = ℕ} 0 1 = cc in omega arith)
  in_at {x} (y ∷ xs) zero e = Memᴰ.head {x = y} (cc)
  in_at (y ∷ xs) (suc k) e = Memᴰ.tail (in_at xs k e)

  pub at_lt : {x : A} (xs : List A) (k : ℕ) → get_elem? xs k ≡ some x → k < length xs
  at_lt [] k e = absurd (let z : ◌≡◌ {A = ℕ} 0 1 = cc in omega arith)
  at_lt (y ∷ xs) zero e = suc-le-suc zero-le
  at_lt (y ∷ xs) (suc k) e = suc-le-suc (at_lt xs k e)

  pub at_some : (xs : List A) (k : ℕ) (d : A) → k < length xs → get_elem? xs k ≡ some (get_or xs k d)
  at_some [] k d h = absurd (not-suc-le-zero h)
  at_some (y ∷ xs) zero d h = refl
  at_some (y ∷ xs) (suc k) d h = at_some xs k d (le_of_suc-le-suc h)

  pub at_get_d : {x : A} (xs : List A) (k : ℕ) (d : A) → get_elem? xs k ≡ some x → get_or xs k d ≡ x
  at_get_d [] k d e = absurd (let z : ◌≡◌ {A = ℕ} 0 1 = cc in omega arith)
  at_get_d (y ∷ xs) zero d e = cc
  at_get_d (y ∷ xs) (suc k) d e = at_get_d xs k d e

  -- one thing all along is read at every place, past the end too where it is the default
  pub replicate_at : (c i : ℕ) (x : A) → get_or (replicate c x) i x ≡ x
  replicate_at zero i x = refl
  replicate_at (suc c) zero x = refl
  replicate_at (suc c) (suc i) x = replicate_at c i x

  -- a member stands at the first place where a test that knows it passes
  pub index_at : (t : A → Bool) (x : A) → T (t x) → ((y : A) → T (t y) → x ≡ y) → (xs : List A) → x ∈ xs → get_elem? xs (index t xs) ≡ some x
  index_at t x h q [] i = absurd (Memᴰ.not-nil i)
  index_at t x h q (y ∷ xs) i = go (t y) refl (Memᴰ.cases_cons i) (λ k. index_at t x h q xs k)
    where
      go : (b : Bool) → t y ≡ b → (x ≡ y) ⊎ (x ∈ xs) → (x ∈ xs → get_elem? xs (index t xs) ≡ some x) → get_elem? (y ∷ xs) (cond b 0 (suc (index t xs))) ≡ some x
      go true e i ih = ap some (sym (q y (T_of (t y) e)))
      go false e (inl z) ih = absurd (subst T e (subst (λ (w : A). T (t w)) z h))
      go false e (inr k) ih = ih k

pub number_index : (u : ℕ) (us : List ℕ) → u ∈ us → get_elem? us (index (eqb u) us) ≡ some u
number_index u us i = index_at (eqb u) u (eqb_refl u) (eqb→eq u) us i

-- ---- the places at which a test passes

module _ {A : Type 0} (t : A → Bool) where
  -- the test passes on what stands there
  abbrev pub hit : Option A → Bool
  hit none = false
  hit (some x) = t x

  below : (xs : List A) (i j : ℕ) → j < i → mem j (places_from i t xs) ≡ false
  below [] i j h = refl
  below (x ∷ xs) i j h = go (t x) (below xs (suc i) j (omega arith))
    where
      go : (b : Bool) → mem j (places_from (suc i) t xs) ≡ false → mem j (cond b (i ∷ places_from (suc i) t xs) (places_from (suc i) t xs)) ≡ false
      go true ih = rw (ne_eqb j i (omega arith)) ih
      go false ih = ih

  from_at : (xs : List A) (i k : ℕ) → mem (i + k) (places_from i t xs) ≡ hit (get_elem? xs k)
  from_at [] i k = refl
  from_at (x ∷ xs) i zero = rw add-zero (go (t x) (below xs (suc i) i (omega arith)))
    where
      go : (b : Bool) → mem i (places_from (suc i) t xs) ≡ false → mem i (cond b (i ∷ places_from (suc i) t xs) (places_from (suc i) t xs)) ≡ b
      go true ih = rw (eq-eqb i i refl)
      go false ih = ih
  from_at (x ∷ xs) i (suc k) = go (t x) (rw (suc-add, ← add-suc) at (from_at xs (suc i) k))
    where
      go : (b : Bool) → mem (i + suc k) (places_from (suc i) t xs) ≡ hit (get_elem? xs k)
          → mem (i + suc k) (cond b (i ∷ places_from (suc i) t xs) (places_from (suc i) t xs)) ≡ hit (get_elem? xs k)
      go true ih = rw (ne_eqb (i + suc k) i (omega arith)) ih
      go false ih = ih

  pub mem_places : (xs : List A) (k : ℕ) → mem k (places_from 0 t xs) ≡ hit (get_elem? xs k)
  mem_places xs k = rw zero-add at (from_at xs 0 k)

  ascend_from : (xs : List A) (i k : ℕ) → i ≤ k → T (ascending_from i (places_from k t xs))
  ascend_from [] i k h = tt
  ascend_from (x ∷ xs) i k h = go (t x) (ascend_from xs (suc k) (suc k) (omega arith)) (ascend_from xs i (suc k) (omega arith))
    where
      go : (b : Bool) → T (ascending_from (suc k) (places_from (suc k) t xs)) → T (ascending_from i (places_from (suc k) t xs))
          → T (ascending_from i (cond b (k ∷ places_from (suc k) t xs) (places_from (suc k) t xs)))
      go true a b = and_both (leb i k) (ascending_from (suc k) (places_from (suc k) t xs)) (T_of (leb i k) (le-leb i k h)) a
      go false a b = b

  pub places_ascend : (xs : List A) → T (ascending (places_from 0 t xs))
  places_ascend xs = ascend_from xs 0 0 (omega arith)

pub hit_out : {A : Type 0} (t : A → Bool) (o : Option A) → T (hit t o) → (x : A) × (o ≡ some x) × T (t x)
hit_out t none h = absurd h
hit_out t (some x) h = (x, refl, h)

-- what stands at one of these places is what passes the test
pub places_name : {A : Type 0} (t : A → Bool) (xs : List A) (x : A) → ((k : ℕ) × (k ∈ places_from 0 t xs) × (get_elem? xs k ≡ some x)) ↔ ((x ∈ xs) × T (t x))
places_name t xs x = (
  λ h. (in_at xs h.0 h.2, subst T (mem_places t xs h.0 ∙ ap (hit t) h.2) (in_mem h.1)),
  λ h. let r = place_of h.0 in (r.0, mem_in r.0 (places_from 0 t xs) (subst T (sym (mem_places t xs r.0 ∙ ap (hit t) r.1)) h.1), r.1),
)
