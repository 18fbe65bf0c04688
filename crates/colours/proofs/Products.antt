-- The capped product of the numbers of markers, down a list of preconditions two bytes at a time.
use Prim.Native.Nat.{ℕ, zero, suc, ◌+◌, ◌*◌, ◌-◌, ◌≤◌, ◌<◌}
use native.Mathlib.Numerals.{add-one}
use native.Mathlib.Omega.{arith}
use native.Mathlib.Decide.{dec_le}
use native.Mathlib.Nat.{zero-mul, suc-mul, mul-one, one-mul, mul_comm, mul_assoc, min-eq_left, min-eq_right}
use mathlib.Core.Path.{◌≡◌, refl, sym, ap, ◌∙◌}
use mathlib.Core.List.{List, [], ◌∷◌}
use mathlib.Core.Bool.{Bool, true, false, cond}
use lib.Dec.{T, eqb}
use lib.ListN.{length, get_or, take, drop, length-drop}
use lib.Seq.{take_all, drop-drop}
use borrow.Author.Tests.{eq-eqb, ne_eqb}
use Rattle.lists.specs.Lists.{any, index, keep}
use Rattle.lists.proofs.Bools.{T_of, not-true, or_left, or_right}
use Rattle.words.specs.Words.{word_at, words}
use Rattle.words.proofs.Laws.{words_next, words_end}
use Rattle.records.specs.Records.{flags}
use Rattle.colours.specs.Colours.{flagged_in, radices_in, radices, product, capped, ending}

-- a count that is capped already serves in a capped product
capped_mul : (a b : ℕ) → capped (a * capped b) ≡ capped (a * b)
capped_mul zero b = simp zero-mul
capped_mul (suc a) b = go (dec_le b 65536)
  where
    go : Dec (b ≤ 65536) → capped (suc a * capped b) ≡ capped (suc a * b)
    go (yes le) = rw (min-eq_left le)
    go (no gt) = simp (min-eq_right {n = 65536} {m = b} (omega arith), suc-mul) (omega arith)

-- a capped product serves as the count that is carried down
capped_carried : (a b c : ℕ) → capped (capped (a * b) * c) ≡ capped (a * (b * c))
capped_carried a b c = rw (mul_comm (capped (a * b)) c, capped_mul c (a * b), mul_comm c (a * b), mul_assoc a b c)

-- the part of a list from a place on, as a lent part has it
part_from : (xs : List ℕ) (k : ℕ) → take (length xs - k) (drop k xs) ≡ drop k xs
part_from xs k = take_all (length xs - k) (drop k xs) (simp length-drop (omega arith))

-- at place i stands the first number of a list that passes a test, if one does: those before it are not kept
pub record Front (t : ℕ → Bool) (l : List ℕ) (i : ℕ) : Type 0 where
  pub within : i ≤ length l
  pub kept : keep t (words l) ≡ keep t (words (drop i l))
  pub passes : 1 < length l - i → t (word_at l i) ≡ true

pub front : (t : ℕ → Bool) (l : List ℕ) → Front t l (2 * index t (words l))
unfolding words
front t [] = record { within = omega arith; kept = refl; passes = λ h. absurd (omega arith) }
front t (a ∷ []) = record { within = omega arith; kept = refl; passes = λ h. absurd (omega arith) }
front t (a ∷ b ∷ r) = go (t (a + 256 * b)) refl (front t r)
  where
    go : (q : Bool) → t (a + 256 * b) ≡ q → Front t r (2 * index t (words r)) → Front t (a ∷ b ∷ r) (2 * cond q 0 (suc (index t (words r))))
    go true e f = record { within = omega arith; kept = refl; passes = λ h. e }
    go false e f =
        let z : 2 * suc (index t (words r)) ≡ suc (suc (2 * index t (words r))) = omega arith in
        rw z (record { within = omega (arith, f.within); kept = rw e f.kept; passes = λ h. rw add-one (rw add-one at (f.passes (omega arith))) })

module _ (t : ℕ → Bool) (l : List ℕ) (i : ℕ) (e : i ≡ 2 * index t (words l)) where
  at_front : Front t l i
  at_front = rw e (front t l)

  pub first_within : i ≤ length l
  first_within = at_front.within

  pub first_none : length l - i < 2 → keep t (words l) ≡ []
  first_none h = at_front.kept ∙ rw (words_end l i (omega arith))

  pub first_more : 2 ≤ length l - i → (b : ℕ) → b ≡ word_at l i → keep t (words l) ≡ b ∷ keep t (words (drop (i + 2) l))
  first_more h b z =
      let p : t b ≡ true = rw z (at_front.passes (omega arith)) in
      at_front.kept ∙ rw (words_next l i (omega arith), ← z, p)

-- ---- the last bytes of a list, so many

pub ending_all : (pre : List ℕ) → ending (length pre) pre ≡ pre
ending_all pre = let z : length pre - length pre ≡ 0 = omega arith in rw z

module _ (pre : List ℕ) (left : ℕ) (h : left ≤ length pre) where
  pub ending_size : length (ending left pre) ≡ left
  ending_size = simp length-drop (omega arith)

  pub ending_lent : take (length pre - (length pre - left)) (drop (length pre - left) pre) ≡ ending left pre
  ending_lent = part_from pre (length pre - left)

  pub ending_after : (i : ℕ) → 2 ≤ left - i → drop (i + 2) (ending left pre) ≡ ending (left - i - 2) pre
  ending_after i g =
      let w : length pre - (left - i - 2) ≡ length pre - left + (i + 2) = omega arith in
      rw w (drop-drop (i + 2) (length pre - left) pre)

-- ---- the product down the last bytes of a list, whose first persistent condition stands i bytes on

module _ (bytes markers pre : List ℕ) (left i : ℕ) (h : left ≤ length pre) (e : i ≡ 2 * index (flagged_in bytes) (words (take (length pre - (length pre - left)) (drop (length pre - left) pre)))) where
  found : i ≡ 2 * index (flagged_in bytes) (words (ending left pre))
  found = rw (ending_lent pre left h) at e

  pub front_within : i ≤ left
  front_within = rw (ending_size pre left h) at (first_within (flagged_in bytes) (ending left pre) i found)

  pub product_none : left - i < 2 → (count : ℕ) → count ≤ 65536 → count ≡ capped (count * product (radices_in bytes markers (words (ending left pre))))
  unfolding product
  product_none s count le =
      rw (first_none (flagged_in bytes) (ending left pre) i found (rw (ending_size pre left h) s), mul-one count, min-eq_left le)

  product_more : 2 ≤ left - i → (b : ℕ) → b ≡ word_at (take (length pre - (length pre - left)) (drop (length pre - left) pre)) i
      → product (radices_in bytes markers (words (ending left pre))) ≡ get_or markers b 0 * product (radices_in bytes markers (words (ending (left - i - 2) pre)))
  unfolding product
  product_more s b z =
      rw
      (first_more (flagged_in bytes) (ending left pre) i found (rw (ending_size pre left h) s) b (rw (ending_lent pre left h) at z), ending_after pre left h i s)

  -- the count times the first number of markers is carried down the rest of the list
  pub product_carried : 2 ≤ left - i → (b : ℕ) → b ≡ word_at (take (length pre - (length pre - left)) (drop (length pre - left) pre)) i → (count n p r : ℕ) → n ≡ get_or markers b 0 → p ≡ capped (count * n)
      → r ≡ capped (p * product (radices_in bytes markers (words (ending (left - i - 2) pre)))) → r ≡ capped (count * product (radices_in bytes markers (words (ending left pre))))
  product_carried s b z count n p r e f g = rw (product_more s b z, g, f, e) (capped_carried count (get_or markers b 0) (product (radices_in bytes markers (words (ending (left - i - 2) pre)))))

-- a count of one that is carried down the whole list leaves the product
pub product_whole : (bytes markers pre : List ℕ) {r : ℕ} → r ≡ capped (1 * product (radices_in bytes markers (words (ending (length pre) pre)))) → r ≡ capped (product (radices_in bytes markers (words pre)))
product_whole bytes markers pre t = rw (ending_all pre, one-mul (product (radices_in bytes markers (words pre)))) at t

-- ---- no condition is persistent

none_flagged : (bytes : List ℕ) → (T (any (eqb 1) bytes) → ⊥) → (b : ℕ) → flagged_in bytes b ≡ false
none_flagged [] n b = refl
none_flagged (x ∷ bytes) n zero = ne_eqb x 1 (λ z. n (or_left (eqb 1 x) (any (eqb 1) bytes) (T_of (eqb 1 x) (eq-eqb 1 x (sym z)))))
none_flagged (x ∷ bytes) n (suc b) = none_flagged bytes (λ t. n (or_right (eqb 1 x) (any (eqb 1) bytes) t)) b

none_kept : (t : ℕ → Bool) (l : List ℕ) → ((b : ℕ) → t b ≡ false) → keep t l ≡ []
none_kept t [] h = refl
none_kept t (x ∷ l) h = rw (h x) (none_kept t l h)

pub product_plain : (bytes markers l : List ℕ) → any (eqb 1) bytes ≡ false → 1 ≡ capped (product (radices_in bytes markers l))
unfolding product
product_plain bytes markers l e = rw (none_kept (flagged_in bytes) l (none_flagged bytes (not-true (any (eqb 1) bytes) e)))

-- what is had by a table's bytes is had by the table
pub product_read : (s markers l bytes : List ℕ) → bytes ≡ flags s → {r : ℕ} → r ≡ capped (product (radices_in bytes markers l)) → r ≡ capped (product (radices s markers l))
product_read s markers l bytes f t = t ∙ ap (λ (x : List ℕ). capped (product (radices_in x markers l))) f
