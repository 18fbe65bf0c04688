-- Members of lists: what is a member of a list that was kept, counted, spread or mapped.
use mathlib.Core.Path.{◌≡◌, refl, ◌∙◌, ap, subst, ap₂}
use mathlib.Core.Bool.{Bool, true, false, ◌&&◌, ◌||◌, cond}
use mathlib.Core.Logic.{◌⊎◌, inl, inr, ◌≢◌}
use mathlib.Core.List.Memᴰ
use mathlib.Core.List.{List, [], ◌∷◌, ◌++◌, map}
use Prim.Native.Nat.{ℕ, zero, suc, ◌+◌, ◌≤◌, ◌<◌}
use borrow.Author.Tests.{eqb-false}
use lib.Dec.{T, eqb, eqb→eq, eqb_refl}
use lib.ListN.{length}
use native.Mathlib.Omega.{arith}
use Rattle.lists.specs.Lists.{mem, empty, keep, count, spread, ◌∈◌}
use Rattle.lists.proofs.Bools.{T_of, iff, and_left, and_right, and_both, or_left, or_right}

-- ---- the test and the proposition

pub mem_in : (k : ℕ) (l : List ℕ) → T (mem k l) → k ∈ l
mem_in k [] t = absurd t
mem_in k (x ∷ xs) t = go (eqb k x) refl t (λ s. mem_in k xs s)
  where
    go : (b : Bool) → eqb k x ≡ b → T (b || mem k xs) → (T (mem k xs) → k ∈ xs) → k ∈ x ∷ xs
    go true e t ih = Memᴰ.head (eqb→eq k x (T_of (eqb k x) e))
    go false e t ih = Memᴰ.tail (ih t)

pub in_mem : {k : ℕ} {l : List ℕ} → k ∈ l → T (mem k l)
in_mem {k} (Memᴰ.head {x = x} {xs = xs} e) = or_left (eqb k x) (mem k xs) (subst (λ (z : ℕ). T (eqb k z)) e (eqb_refl k))
in_mem {k} (Memᴰ.tail {x = x} {xs = xs} m) = or_right (eqb k x) (mem k xs) (in_mem m)

pub mem_append : (k : ℕ) (a b : List ℕ) → mem k (a ++ b) ≡ (mem k a || mem k b)
mem_append k [] b = refl
mem_append k (x ∷ a) b = go (eqb k x) (mem_append k a b)
  where
    go : (c : Bool) → mem k (a ++ b) ≡ (mem k a || mem k b) → (c || mem k (a ++ b)) ≡ ((c || mem k a) || mem k b)
    go true ih = refl
    go false ih = ih

-- ---- the empty list

pub no_member : (l : List ℕ) → ((k : ℕ) → T (mem k l) → ⊥) → T (empty l)
no_member [] h = tt
no_member (x ∷ l) h = absurd (h x (or_left (eqb x x) (mem x l) (eqb_refl x)))

pub empty_nil : (l : List ℕ) → T (empty l) → l ≡ []
empty_nil [] t = refl
empty_nil (x ∷ l) t = absurd t

-- ---- spread

module _ {A B : Type 0} (f : A → List B) where
  pub spread_in : {x : A} {y : B} {xs : List A} → x ∈ xs → y ∈ f x → y ∈ spread f xs
  spread_in {y} (Memᴰ.head {x = z} {xs = zs} e) h = Memᴰ.append_left (spread f zs) (subst (λ (w : A). y ∈ f w) e h)
  spread_in (Memᴰ.tail {x = z} m) h = Memᴰ.append_right (f z) (spread_in m h)

  pub spread_out : {y : B} (xs : List A) → y ∈ spread f xs → (x : A) × (x ∈ xs) × (y ∈ f x)
  spread_out [] h = absurd (Memᴰ.not-nil h)
  spread_out {y} (x ∷ xs) h = go (Memᴰ.append_cases (f x) h) (λ k. spread_out xs k)
    where
      go : (y ∈ f x) ⊎ (y ∈ spread f xs) → (y ∈ spread f xs → (z : A) × (z ∈ xs) × (y ∈ f z)) → (z : A) × (z ∈ x ∷ xs) × (y ∈ f z)
      go (inl m) ih = (x, Memᴰ.head refl, m)
      go (inr m) ih = let r = ih m in (r.0, Memᴰ.tail r.1, r.2)

-- ---- keep

pub keep_in : (t : ℕ → Bool) {k : ℕ} {l : List ℕ} → k ∈ l → T (t k) → k ∈ keep t l
keep_in t {k} (Memᴰ.head {x = x} {xs = xs} e) h = go (t x) (subst (λ (z : ℕ). T (t z)) e h)
  where
    go : (b : Bool) → T b → k ∈ cond b (x ∷ keep t xs) (keep t xs)
    go true s = Memᴰ.head e
    go false s = absurd s
keep_in t {k} (Memᴰ.tail {x = x} {xs = xs} m) h = go (t x) (keep_in t m h)
  where
    go : (b : Bool) → k ∈ keep t xs → k ∈ cond b (x ∷ keep t xs) (keep t xs)
    go true s = Memᴰ.tail s
    go false s = s

pub keep_out : (t : ℕ → Bool) {k : ℕ} (l : List ℕ) → k ∈ keep t l → (k ∈ l) × T (t k)
keep_out t [] h = absurd (Memᴰ.not-nil h)
keep_out t {k} (x ∷ xs) h = go (t x) refl h (λ m. keep_out t xs m)
  where
    old : (k ∈ keep t xs → (k ∈ xs) × T (t k)) → k ∈ keep t xs → (k ∈ x ∷ xs) × T (t k)
    old ih m = let r = ih m in (Memᴰ.tail r.0, r.1)

    new : t x ≡ true → (k ∈ keep t xs → (k ∈ xs) × T (t k)) → (k ≡ x) ⊎ (k ∈ keep t xs) → (k ∈ x ∷ xs) × T (t k)
    new e ih (inl q) = (Memᴰ.head q, T_of (t k) (ap t q ∙ e))
    new e ih (inr m) = old ih m

    go : (b : Bool) → t x ≡ b → k ∈ cond b (x ∷ keep t xs) (keep t xs) → (k ∈ keep t xs → (k ∈ xs) × T (t k)) → (k ∈ x ∷ xs) × T (t k)
    go true e h ih = new e ih (Memᴰ.cases_cons h)
    go false e h ih = old ih h

pub mem_keep : (f : ℕ → Bool) (b : ℕ) (l : List ℕ) → mem b (keep f l) ≡ (mem b l && f b)
mem_keep f b l =
    iff (mem b (keep f l)) (mem b l && f b)
    (λ t. let r = keep_out f l (mem_in b (keep f l) t) in and_both (mem b l) (f b) (in_mem r.0) r.1)
    (λ t. in_mem (keep_in f (mem_in b l (and_left (mem b l) (f b) t)) (and_right (mem b l) (f b) t)))

pub keep_append : (t : ℕ → Bool) (a b : List ℕ) → keep t (a ++ b) ≡ keep t a ++ keep t b
keep_append t [] b = refl
keep_append t (x ∷ a) b = go (t x) (keep_append t a b)
  where
    go : (c : Bool) → keep t (a ++ b) ≡ keep t a ++ keep t b → cond c (x ∷ keep t (a ++ b)) (keep t (a ++ b)) ≡ cond c (x ∷ keep t a) (keep t a) ++ keep t b
    go true ih = ap {B = List ℕ} (λ z. x ∷ z) ih
    go false ih = ih

-- tests that agree on the members keep the same
pub keep_same : (f g : ℕ → Bool) (l : List ℕ) → ((b : ℕ) → T (mem b l) → f b ≡ g b) → keep f l ≡ keep g l
keep_same f g [] h = refl
keep_same f g (x ∷ l) h =
    rw (h x (or_left (eqb x x) (mem x l) (eqb_refl x)), keep_same f g l (λ b i. h b (or_right (eqb b x) (mem b l) i)))

-- ---- count

pub count_in_lem : (j k c : ℕ) → k ≤ j → j < k + c → j ∈ count k c
count_in_lem j k zero h l = absurd (omega arith)
count_in_lem j k (suc c) h l = go (eqb j k) refl (λ g. count_in_lem j (suc k) c g (omega arith))
  where
    go : (b : Bool) → eqb j k ≡ b → (suc k ≤ j → j ∈ count (suc k) c) → j ∈ count k (suc c)
    go true e ih = Memᴰ.head (eqb→eq j k (T_of (eqb j k) e))
    go false e ih = Memᴰ.tail (ih (omega (arith, ne)))
      where
        ne : j ≢ k
        ne = eqb-false j k e

pub count_out : (j k c : ℕ) → j ∈ count k c → (k ≤ j) × (j < k + c)
count_out j k zero h = absurd (Memᴰ.not-nil h)
count_out j k (suc c) h = go (Memᴰ.cases_cons h) (λ m. count_out j (suc k) c m)
  where
    go : (j ≡ k) ⊎ (j ∈ count (suc k) c) → (j ∈ count (suc k) c → (suc k ≤ j) × (j < suc k + c)) → (k ≤ j) × (j < k + suc c)
    go (inl e) ih = omega arith
    go (inr m) ih = let r = ih m in omega arith

pub length_count : (k c : ℕ) → length (count k c) ≡ c
length_count k zero = refl
length_count k (suc c) = ap suc (length_count (suc k) c)

-- ---- map

pub map_same : {A B : Type 0} (g h : A → B) (l : List A) → ((x : A) → x ∈ l → g x ≡ h x) → map g l ≡ map h l
map_same g h [] q = refl
map_same {A} {B} g h (x ∷ l) q = ap₂ {C = List B} (λ x y. x ∷ y) (q x (Memᴰ.head refl)) (map_same g h l (λ x i. q x (Memᴰ.tail i)))
