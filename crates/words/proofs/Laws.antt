-- How each definition of the numbers goes on at an offset: what the loops cite.
use Prim.Native.Nat.{ℕ, zero, suc, ◌+◌, ◌-◌, ◌*◌, ◌/◌, ◌%◌, ◌≤◌, ◌<◌}
use native.Mathlib.Nat.{div-add-mod'}
use native.Mathlib.Numerals.{add-one}
use native.Mathlib.Omega.{arith}
use mathlib.Core.Path.{◌≡◌, refl, ◌∙◌}
use mathlib.Core.List.{List, [], ◌∷◌}
use mathlib.Core.Bool.{Bool, true, false, cond}
use lib.ListN.{length, get_or, take, drop, length-drop}
use lib.Seq.{drop-cons, take_all}
use lib.Dec.{T, leb, eqb, ltb, leb→le, le→leb, ltb→lt, lt→ltb}
use borrow.Author.Tests.{lt-leb, le-leb, eq-eqb, ne_eqb, leb-true}
use Rattle.lists.specs.Lists.{mem, all, keep, fits, ascending, ascending_from}
use Rattle.lists.proofs.Bools.{iff, is_true, T_of, and_left, and_right, and_both}
use Rattle.words.specs.Words.{word_at, words, bytes_of, count_in}

-- the next number of what is left from i on
pub words_next : (s : List ℕ) (i : ℕ) → 1 < length s - i → words (drop i s) ≡ word_at s i ∷ words (drop (i + 2) s)
unfolding words
words_next s i h =
    let a : i < length s = omega arith in
    let b : suc i < length s = omega arith in
    let two : i + 2 ≡ suc (suc i) = omega arith in
    rw (two, add-one, drop-cons s i 0 a, drop-cons s (suc i) 0 b)

-- the first number, and those of the bytes after it
pub words_first : (s : List ℕ) → 2 ≤ length s → words s ≡ (get_or s 0 0 + get_or s 1 0 * 256) ∷ words (take (length s - 2) (drop 2 s))
unfolding words
words_first [] h = absurd (omega arith)
words_first (a ∷ []) h = absurd (omega arith)
words_first (a ∷ b ∷ r) h =
    let whole : take (suc (suc (length r)) - 2) r ≡ r = take_all _ r (omega arith) in
    let value : a + 256 * b ≡ a + b * 256 = omega arith in
    rw (whole, value)

-- none are left
pub words_none : (l : List ℕ) → length l ≤ 1 → words l ≡ []
unfolding words
words_none [] h = refl
words_none (a ∷ []) h = refl
words_none (a ∷ b ∷ r) h = absurd (omega arith)

pub words_end : (s : List ℕ) (i : ℕ) → length s - i ≤ 1 → words (drop i s) ≡ []
words_end s i h = words_none (drop i s) (rw length-drop h)

-- ---- whether a number is among those from i on

module _ (b : ℕ) (s : List ℕ) (i : ℕ) where
  pub has_here : 1 < length s - i → b ≡ word_at s i → mem b (words (drop i s)) ≡ true
  has_here h e = rw (words_next s i h, eq-eqb b (word_at s i) e)

  pub has_later : 1 < length s - i → (b ≡ word_at s i → ⊥) → mem b (words (drop i s)) ≡ mem b (words (drop (i + 2) s))
  has_later h e = rw (words_next s i h, ne_eqb b (word_at s i) e)

  pub has_none : length s - i ≤ 1 → mem b (words (drop i s)) ≡ false
  has_none h = rw (words_end s i h)

-- ---- a list that ascends below n, as a loop sees it: what is left must begin at least here

unfoldable pub rises : ℕ → ℕ → List ℕ → Bool
rises n least [] = leb least n
rises n least (w ∷ ws) = cond (leb least w) (rises n (w + 1) ws) false

-- `rises` at what is left, of which w is the first number
module _ (n least w : ℕ) (ws left : List ℕ) (first : left ≡ w ∷ ws) where
  pub rises_low : w < least → rises n least left ≡ false
  unfolding rises
  rises_low p = rw first (simp (lt-leb least w p))

  pub rises_on : least ≤ w → rises n least left ≡ rises n (w + 1) ws
  unfolding rises
  rises_on p = rw first (simp (le-leb least w p))

pub rises_end : (n least : ℕ) (left : List ℕ) → left ≡ [] → rises n least left ≡ leb least n
unfolding rises
rises_end n least left none = rw none

-- from the least number on, that is to ascend and to stay below n
rises_parts : (n least : ℕ) (l : List ℕ) → T (rises n least l) → (least ≤ n) × T (ascending_from least l) × T (all (λ b. ltb b n) l)
unfolding rises
rises_parts n least [] t = (leb→le least n t, tt, tt)
rises_parts n least (w ∷ ws) t = go (leb least w) refl t (rises_parts n (w + 1) ws)
  where
    go : (b : Bool) → leb least w ≡ b → T (cond b (rises n (w + 1) ws) false)
        → (T (rises n (w + 1) ws) → (w + 1 ≤ n) × T (ascending_from (w + 1) ws) × T (all (λ b. ltb b n) ws))
        → (least ≤ n) × T (ascending_from least (w ∷ ws)) × T (all (λ b. ltb b n) (w ∷ ws))
    go true e t ih =
        let r = ih t in
        let h = leb-true least w e in
        let below = r.0 in (
          omega arith,
          and_both (leb least w) (ascending_from (suc w) ws) (T_of (leb least w) e) (rw add-one at r.1),
          and_both (ltb w n) (all (λ b. ltb b n) ws) (lt→ltb w n (omega arith)) r.2,
        )
    go false e t ih = absurd t

parts_rise : (n least : ℕ) (l : List ℕ) → least ≤ n → T (ascending_from least l) → T (all (λ b. ltb b n) l) → T (rises n least l)
unfolding rises
parts_rise n least [] h a b = le→leb least n h
parts_rise n least (w ∷ ws) h a b =
    let low = and_left (leb least w) (ascending_from (suc w) ws) a in
    let high = ltb→lt w n (and_left (ltb w n) (all (λ b. ltb b n) ws) b) in
    rw (is_true (leb least w) low)
    (parts_rise n (w + 1) ws (omega arith) (rw add-one (and_right (leb least w) (ascending_from (suc w) ws) a)) (and_right (ltb w n) (all (λ b. ltb b n) ws) b))

pub rises_fits : (n : ℕ) (l : List ℕ) → rises n 0 l ≡ fits n l
unfolding fits
rises_fits n l =
    iff (rises n 0 l) (fits n l) (λ t. let r = rises_parts n 0 l t in and_both (ascending l) (all (λ b. ltb b n) l) r.1 r.2)
    (λ t. parts_rise n 0 l (omega arith) (and_left (ascending l) (all (λ b. ltb b n) l) t) (and_right (ascending l) (all (λ b. ltb b n) l) t))

-- the k-th number of a list of bytes, by its place
pub words_at : (l : List ℕ) (k : ℕ) → 2 * k + 1 < length l → get_or (words l) k 0 ≡ word_at l (2 * k)
unfolding words
words_at [] k h = absurd (omega arith)
words_at (a ∷ []) k h = absurd (omega arith)
words_at (a ∷ b ∷ r) zero h = refl
words_at (a ∷ b ∷ r) (suc k) h =
    let e : 2 * suc k ≡ suc (suc (2 * k)) = omega arith in
    words_at r k (omega arith) ∙ rw (e, add-one, add-one)

pub words_past : (l : List ℕ) (k : ℕ) → length l ≤ 2 * k + 1 → get_or (words l) k 0 ≡ 0
unfolding words
words_past [] k h = refl
words_past (a ∷ []) k h = refl
words_past (a ∷ b ∷ r) zero h = absurd (omega arith)
words_past (a ∷ b ∷ r) (suc k) h = words_past r k (omega arith)

-- a list of bytes has no more numbers to count than pairs of bytes
pub count_in_few : (flags l : List ℕ) → 2 * count_in flags (words l) ≤ length l
unfolding words count_in
count_in_few flags [] = omega arith
count_in_few flags (a ∷ []) = omega arith
count_in_few flags (a ∷ b ∷ r) = go (eqb (get_or flags (a + 256 * b) 0) 1) (count_in_few flags r)
  where
    kept : List ℕ
    kept = keep (λ w. eqb (get_or flags w 0) 1) (words r)

    go : (t : Bool) → 2 * length kept ≤ length r → 2 * length (cond t ((a + 256 * b) ∷ kept) kept) ≤ suc (suc (length r))
    go true h = omega arith
    go false h = omega arith

-- ---- numbers written as bytes

pub length_bytes_of : (l : List ℕ) → length (bytes_of l) ≡ 2 * length l
unfolding bytes_of
length_bytes_of [] = refl
length_bytes_of (w ∷ ws) = let e = length_bytes_of ws in omega arith

pub two_bytes : (w : ℕ) → w % 256 + 256 * (w / 256) ≡ w
two_bytes w = omega (arith, div-add-mod' w 256)

-- and read again, they are the numbers
pub words_bytes_of : (l : List ℕ) → words (bytes_of l) ≡ l
unfolding words bytes_of
words_bytes_of [] = refl
words_bytes_of (w ∷ ws) = rw (two_bytes w, words_bytes_of ws)

-- there is one number for every two bytes
pub length_words : (s : List ℕ) → length (words s) ≡ length s / 2
unfolding words
length_words [] = refl
length_words (a ∷ []) = refl
length_words (a ∷ b ∷ r) = omega (arith, length_words r)

-- the bytes of the numbers of an even count of bytes are these bytes
pub bytes_of_words : (s : List ℕ) → ((i : ℕ) → get_or s i 0 < 256) → length s % 2 ≡ 0 → bytes_of (words s) ≡ s
unfolding words bytes_of
bytes_of_words [] byte even = refl
bytes_of_words (a ∷ []) byte even = absurd (omega arith)
bytes_of_words (a ∷ b ∷ r) byte even =
    let low : (a + 256 * b) % 256 ≡ a = omega (arith, byte 0) in
    let high : (a + 256 * b) / 256 ≡ b = omega (arith, byte 0) in
    rw (low, high, bytes_of_words r (λ i. byte (suc (suc i))) (omega arith))
