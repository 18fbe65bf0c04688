-- What stands at a position of lists put one after the other, and back: from which of them what stands there comes.
use mathlib.Core.Path.{◌≡◌, refl, sym, ◌∙◌, ap}
use mathlib.Core.Option.{some}
use mathlib.Core.List.{List, [], ◌∷◌, ◌++◌, map, append_assoc}
use Prim.Native.Nat.{ℕ, zero, suc, ◌+◌, ◌-◌, ◌≤◌, ◌<◌, ◌*◌}
use lib.ListN.{get_elem?, length, get_or, length-append}
use native.Mathlib.Decide.{dec_le}
use native.Mathlib.Nat.{not-suc-le-zero, le_of_suc-le-suc, add-zero, add-suc, suc-add, zero-add, zero-mul, lt_of_not-le}
use native.Mathlib.Numerals.{add-one}
use native.Mathlib.Omega.{arith}
use Rattle.lists.specs.Lists.{count, sum, spread}

-- ---- two lists, and a mapped one

module _ {A : Type 0} where
  pub at_left : (xs ys : List A) (k : ℕ) → k < length xs → get_elem? (xs ++ ys) k ≡ get_elem? xs k
  at_left [] ys k h = absurd (not-suc-le-zero h)
  at_left (x ∷ xs) ys zero h = refl
  at_left (x ∷ xs) ys (suc k) h = at_left xs ys k (le_of_suc-le-suc h)

  pub at_right : (xs ys : List A) (k : ℕ) → get_elem? (xs ++ ys) (length xs + k) ≡ get_elem? ys k
  at_right [] ys k = rw zero-add
  at_right (x ∷ xs) ys k = rw suc-add (at_right xs ys k)

module _ {A B : Type 0} where
  pub at_map : (f : A → B) {x : A} (xs : List A) (k : ℕ) → get_elem? xs k ≡ some x → get_elem? (map f xs) k ≡ some (f x)
  at_map f [] k h = absurd (let z : ◌≡◌ {A = ℕ} 0 1 = cc in omega arith)
  at_map f (y ∷ xs) zero h = cc
  at_map f (y ∷ xs) (suc k) h = at_map f xs k h

  pub at_map_out : (f : A → B) {y : B} (xs : List A) (k : ℕ) → get_elem? (map f xs) k ≡ some y → (x : A) × (get_elem? xs k ≡ some x) × (f x ≡ y)
  at_map_out f [] k h = absurd (let z : ◌≡◌ {A = ℕ} 0 1 = cc in omega arith)
  at_map_out f (x ∷ xs) zero h = (x, refl, cc)
  at_map_out f (x ∷ xs) (suc k) h = at_map_out f xs k h

  pub spread_append : (f : A → List B) (xs ys : List A) → spread f (xs ++ ys) ≡ spread f xs ++ spread f ys
  spread_append f [] ys = refl
  spread_append f (x ∷ xs) ys = ap {B = List B} (λ z. f x ++ z) (spread_append f xs ys) ∙ sym (append_assoc (f x) (spread f xs) (spread f ys))

-- what stands in the list that f gives for the c numbers from k on
pub counted_at : {A : Type 0} (f : ℕ → A) (d : A) (k c i : ℕ) → i < c → get_or (map f (count k c)) i d ≡ f (k + i)
counted_at f d k zero i h = absurd (not-suc-le-zero h)
counted_at f d k (suc c) zero h = rw add-zero
counted_at f d k (suc c) (suc i) h = rw (add-suc, ← suc-add k i) (counted_at f d (suc k) c i (le_of_suc-le-suc h))

-- ---- lists of one length, one after the other

module _ {A B : Type 0} (f : A → List B) (l : ℕ) (q : (x : A) → length (f x) ≡ l) where
  pub length_spread : (xs : List A) → length (spread f xs) ≡ length xs * l
  length_spread [] = sym (zero-mul l)
  length_spread (x ∷ xs) = length-append (f x) (spread f xs) ∙ omega (arith, q x, length_spread xs)

  pub spread_at : (xs : List A) (i r : ℕ) {x : A} → get_elem? xs i ≡ some x → r < l → get_elem? (spread f xs) (i * l + r) ≡ get_elem? (f x) r
  spread_at [] i r h k = absurd (let z : ◌≡◌ {A = ℕ} 0 1 = cc in omega arith)
  spread_at (y ∷ xs) zero r {x} h k =
      rw (zero-mul, zero-add) (at_left (f y) (spread f xs) r (omega (arith, q y)) ∙ ap (λ (z : A). get_elem? (f z) r) (cc))
  spread_at (y ∷ xs) (suc i) r h k =
      let e : suc i * l + r ≡ length (f y) + (i * l + r) = omega (arith, q y) in
      rw e (at_right (f y) (spread f xs) (i * l + r) ∙ spread_at xs i r h k)

  -- which of the lists what stands at k comes from, and its place in that list
  pub record Where (xs : List A) (y : B) (k : ℕ) : Type 0 where
    pub part : ℕ
    pub rest : ℕ
    pub value : A
    pub sums : k ≡ part * l + rest
    pub at_part : get_elem? xs part ≡ some value
    pub at_rest : get_elem? (f value) rest ≡ some y

  pub spread_where : (y : B) (xs : List A) (k : ℕ) → get_elem? (spread f xs) k ≡ some y → Where xs y k
  spread_where y [] k h = absurd (let z : ◌≡◌ {A = ℕ} 0 1 = cc in omega arith)
  spread_where y (x ∷ xs) k h = go (dec_le (length (f x)) k) (λ i. spread_where y xs i)
    where
      go : Dec (length (f x) ≤ k) → ((i : ℕ) → get_elem? (spread f xs) i ≡ some y → Where xs y i) → Where (x ∷ xs) y k
      go (yes le) ih =
          let e : length (f x) + (k - length (f x)) ≡ k = omega arith in
          let r = ih (k - length (f x)) (sym (at_right (f x) (spread f xs) (k - length (f x))) ∙ ap (λ (z : ℕ). get_elem? (f x ++ spread f xs) z) e ∙ h) in
          record { part = suc r.part; rest = r.rest; value = r.value; sums = omega (arith, q x, r.sums); at_part = r.at_part; at_rest = r.at_rest }
      go (no gt) ih =
          record {
            part = 0;
            rest = k;
            value = x;
            sums = omega arith;
            at_part = refl;
            at_rest = sym (at_left (f x) (spread f xs) k (lt_of_not-le gt)) ∙ h;
          }

-- ---- lists of any lengths, numbered from 0, each after the sum of the lengths before it

pub count_split : (k a b : ℕ) → count k (a + b) ≡ count k a ++ count (k + a) b
count_split k zero b = rw (zero-add, add-zero)
count_split k (suc a) b = rw (suc-add, add-suc, ← suc-add k a) (ap {B = List ℕ} (λ z. k ∷ z) (count_split (suc k) a b))

module _ {B : Type 0} (f : ℕ → List B) (s : ℕ → ℕ) (q : (i : ℕ) → length (f i) ≡ s i) where
  pub length_base : (e : ℕ) → length (spread f (count 0 e)) ≡ sum s e
  length_base zero = refl
  length_base (suc e) =
      ap (λ (z : List ℕ). length (spread f z)) (rw (add-one, zero-add) at (count_split 0 e 1))
      ∙ ap (λ (z : List B). length z) (spread_append f (count 0 e) (e ∷ []))
      ∙ length-append (spread f (count 0 e)) (f e ++ []) ∙ omega (arith, length_base e, length-append (f e) [], q e)

  pub base_at : (c e r : ℕ) → e < c → r < s e → get_elem? (spread f (count 0 c)) (sum s e + r) ≡ get_elem? (f e) r
  base_at c e r h l =
      let split : count 0 (e + suc (c - suc e)) ≡ count 0 e ++ count (0 + e) (suc (c - suc e)) = count_split 0 e (suc (c - suc e)) in
      let whole : e + suc (c - suc e) ≡ c = omega arith in
      let rest : List B = spread f (count (suc e) (c - suc e)) in
      ap (λ (z : List ℕ). get_elem? (spread f z) (sum s e + r)) (rw (whole, zero-add) at split)
      ∙ ap (λ (z : List B). get_elem? z (sum s e + r)) (spread_append f (count 0 e) (e ∷ count (suc e) (c - suc e)))
      ∙ ap (λ (z : ℕ). get_elem? (spread f (count 0 e) ++ (f e ++ rest)) (z + r)) (sym (length_base e))
      ∙ at_right (spread f (count 0 e)) (f e ++ rest) r
      ∙ at_left (f e) rest r (omega (arith, q e))

  -- which of the lists what stands at k comes from, and its place in that list
  pub record Base (y : B) (k : ℕ) : Type 0 where
    pub part : ℕ
    pub rest : ℕ
    pub sums : k ≡ sum s part + rest
    pub at_rest : get_elem? (f part) rest ≡ some y

  pub base_where : (y : B) (o c k : ℕ) → get_elem? (spread f (count o c)) k ≡ some y → Base y (sum s o + k)
  base_where y o zero k h = absurd (let z : ◌≡◌ {A = ℕ} 0 1 = cc in omega arith)
  base_where y o (suc c) k h = go (dec_le (length (f o)) k) (λ i. base_where y (suc o) c i)
    where
      rest : List B
      rest = spread f (count (suc o) c)

      go : Dec (length (f o) ≤ k) → ((i : ℕ) → get_elem? rest i ≡ some y → Base y (sum s o + s o + i)) → Base y (sum s o + k)
      go (yes le) ih =
          let e : length (f o) + (k - length (f o)) ≡ k = omega arith in
          let r = ih (k - length (f o)) (sym (at_right (f o) rest (k - length (f o))) ∙ ap (λ (z : ℕ). get_elem? (f o ++ rest) z) e ∙ h) in
          record { part = r.part; rest = r.rest; sums = omega (arith, q o, r.sums); at_rest = r.at_rest }
      go (no gt) ih = record { part = o; rest = k; sums = refl; at_rest = sym (at_left (f o) rest k (lt_of_not-le gt)) ∙ h }
