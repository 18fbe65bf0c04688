-- Places at which a test passes: of lists put one after the other, and as ranges of numbers.
use mathlib.Core.Path.{◌≡◌, refl, sym, ◌∙◌, ap, ap₂}
use mathlib.Core.Bool.{Bool, true, false, ◌&&◌, ◌||◌, cond}
use mathlib.Core.Option.{some}
use mathlib.Core.List.{List, [], ◌∷◌, ◌++◌}
use Prim.Native.Nat.{ℕ, zero, suc, ◌+◌, ◌≤◌, ◌<◌}
use lib.Dec.{T, leb, ltb, leb→le, ltb→lt}
use native.Mathlib.Decide.{dec_le}
use lib.ListN.{get_elem?, length}
use native.Mathlib.Nat.{add-zero, suc-add, add-suc}
use native.Mathlib.Omega.{arith}
use borrow.Author.Tests.{le-leb, lt-leb, lt-ltb}
use Rattle.lists.proofs.Bools.{T_of, is_false, iff, and_left, and_right}
use Rattle.lists.specs.Lists.{places_from, count, sum, spread}

-- ---- lists one after the other

module _ {A : Type 0} (t : A → Bool) where
  pub places_append : (k : ℕ) (xs ys : List A) → places_from k t (xs ++ ys) ≡ places_from k t xs ++ places_from (k + length xs) t ys
  places_append k [] ys = rw add-zero
  places_append k (x ∷ xs) ys = go (t x) (rw (suc-add, ← add-suc) at (places_append (suc k) xs ys))
    where
      go : (b : Bool) → places_from (suc k) t (xs ++ ys) ≡ places_from (suc k) t xs ++ places_from (k + suc (length xs)) t ys
          → cond b (k ∷ places_from (suc k) t (xs ++ ys)) (places_from (suc k) t (xs ++ ys))
          ≡ cond b (k ∷ places_from (suc k) t xs) (places_from (suc k) t xs) ++ places_from (k + suc (length xs)) t ys
      go true ih = ap {B = List ℕ} (λ z. k ∷ z) ih
      go false ih = ih

  -- of lists numbered from o on, each after the sum of the lengths before it
  pub places_spread : (f : ℕ → List A) (w : ℕ → ℕ) → ((i : ℕ) → length (f i) ≡ w i) → (o c : ℕ)
      → places_from (sum w o) t (spread f (count o c)) ≡ spread (λ b. places_from (sum w b) t (f b)) (count o c)
  places_spread f w q o zero = refl
  places_spread f w q o (suc c) =
      places_append (sum w o) (f o) (spread f (count (suc o) c))
      ∙ ap {B = List ℕ} (λ z. places_from (sum w o) t (f o) ++ places_from (sum w o + z) t (spread f (count (suc o) c))) (q o)
      ∙ ap {B = List ℕ} (λ z. places_from (sum w o) t (f o) ++ z) (places_spread f w q (suc o) c)

-- ---- ranges

-- a number lies in a range
abbrev pub inside : ℕ → ℕ → ℕ → Bool
inside a p k = leb a k && ltb k (a + p)

pub inside_in : (a p k : ℕ) → a ≤ k → k < a + p → inside a p k ≡ true
inside_in a p k h l = rw (le-leb a k h, lt-ltb k (a + p) l)

pub inside_low : (a p k : ℕ) → k < a → inside a p k ≡ false
inside_low a p k h = rw (lt-leb a k h)

pub inside_out : (a p k : ℕ) → T (inside a p k) → (a ≤ k) × (k < a + p)
inside_out a p k t = (leb→le a k (and_left (leb a k) (ltb k (a + p)) t), ltb→lt k (a + p) (and_right (leb a k) (ltb k (a + p)) t))

inside_same : (a p k c q j : ℕ) → (a ≤ k → k < a + p → (c ≤ j) × (j < c + q)) → (c ≤ j → j < c + q → (a ≤ k) × (k < a + p)) → inside a p k ≡ inside c q j
inside_same a p k c q j f g =
    iff (inside a p k) (inside c q j)
    (λ t. let x = inside_out a p k t in let y = f x.0 x.1 in T_of (inside c q j) (inside_in c q j y.0 y.1))
    (λ t. let x = inside_out c q j t in let y = g x.0 x.1 in T_of (inside a p k) (inside_in a p k y.0 y.1))

pub nothing_in : (a k : ℕ) → inside a 0 k ≡ false
nothing_in a k = is_false (inside a 0 k) (λ t. let x = inside_out a 0 k t in omega arith)

module _ {A : Type 0} (t : A → Bool) where
  -- the places are those of one range
  pub places_one : (xs : List A) (k c q : ℕ) → k ≤ c → c + q ≤ k + length xs
      → ((r : ℕ) (x : A) → get_elem? xs r ≡ some x → t x ≡ inside c q (k + r)) → places_from k t xs ≡ count c q
  places_one [] k c zero h l f = refl
  places_one [] k c (suc q) h l f = absurd (omega arith)
  places_one (x ∷ xs) k c zero h l f =
      let z : t x ≡ false = f 0 x refl ∙ nothing_in c (k + 0) in
      rw z (places_one xs (suc k) (suc k) zero (omega arith) (omega arith) (λ r y e. f (suc r) y e ∙ nothing_in c (k + suc r) ∙ sym (nothing_in (suc k) (suc k + r))))
  places_one (x ∷ xs) k c (suc q) h l f =
      go (dec_le c k) (rw add-zero at (f 0 x refl))
      (λ le. places_one xs (suc k) (suc k) q (omega arith) (omega arith) (λ r y e. f (suc r) y e ∙ on r le))
      (λ gt. places_one xs (suc k) c (suc q) (omega arith) (omega arith) (λ r y e. f (suc r) y e ∙ ap (inside c (suc q)) (omega arith)))
    where
      on : (r : ℕ) → c ≤ k → inside c (suc q) (k + suc r) ≡ inside (suc k) q (suc k + r)
      on r le = inside_same c (suc q) (k + suc r) (suc k) q (suc k + r) (λ a b. omega arith) (λ a b. omega arith)

      go : Dec (c ≤ k) → t x ≡ inside c (suc q) k → (c ≤ k → places_from (suc k) t xs ≡ count (suc k) q) → (k < c → places_from (suc k) t xs ≡ count c (suc q))
          → cond (t x) (k ∷ places_from (suc k) t xs) (places_from (suc k) t xs) ≡ c ∷ count (suc c) q
      go (yes le) e ih jh =
          let z : c ≡ k = omega arith in
          rw (e ∙ inside_in c (suc q) k le (omega arith), z) (ap {B = List ℕ} (λ y. k ∷ y) (ih le))
      go (no gt) e ih jh = rw (e ∙ inside_low c (suc q) k (omega arith)) (jh (omega arith))

  -- the places are those of two ranges, one after the other
  pub places_two : (xs : List A) (k a p c q : ℕ) → k ≤ a → a + p ≤ c → c + q ≤ k + length xs
      → ((r : ℕ) (x : A) → get_elem? xs r ≡ some x → t x ≡ (inside a p (k + r) || inside c q (k + r))) → places_from k t xs ≡ count a p ++ count c q
  places_two xs k a zero c q h m l f = places_one xs k c q (omega arith) l (λ r x e. f r x e ∙ ap (λ (z : Bool). z || inside c q (k + r)) (nothing_in a (k + r)))
  places_two [] k a (suc p) c q h m l f = absurd (omega arith)
  places_two (x ∷ xs) k a (suc p) c q h m l f =
      go (dec_le a k) (rw add-zero at (f 0 x refl))
      (λ le. places_two xs (suc k) (suc k) p c q (omega arith) (omega arith) (omega arith)
      (λ r y e. f (suc r) y e ∙ ap₂ {C = Bool} (λ u v. u || v) (on r le) (ap (inside c q) (omega arith))))
      (λ gt. places_two xs (suc k) a (suc p) c q (omega arith) (omega arith) (omega arith)
      (λ r y e. f (suc r) y e ∙ ap (λ (z : ℕ). inside a (suc p) z || inside c q z) (omega arith)))
    where
      on : (r : ℕ) → a ≤ k → inside a (suc p) (k + suc r) ≡ inside (suc k) p (suc k + r)
      on r le = inside_same a (suc p) (k + suc r) (suc k) p (suc k + r) (λ a b. omega arith) (λ a b. omega arith)

      go : Dec (a ≤ k) → t x ≡ (inside a (suc p) k || inside c q k) → (a ≤ k → places_from (suc k) t xs ≡ count (suc k) p ++ count c q)
          → (k < a → places_from (suc k) t xs ≡ count a (suc p) ++ count c q)
          → cond (t x) (k ∷ places_from (suc k) t xs) (places_from (suc k) t xs) ≡ a ∷ (count (suc a) p ++ count c q)
      go (yes le) e ih jh =
          let z : a ≡ k = omega arith in
          let y : t x ≡ true = e ∙ rw (inside_in a (suc p) k le (omega arith)) in
          rw (y, z) (ap {B = List ℕ} (λ y. k ∷ y) (ih le))
      go (no gt) e ih jh =
          let y : t x ≡ false = e ∙ rw (inside_low a (suc p) k (omega arith), inside_low c q k (omega arith)) in
          rw y (jh (omega arith))
