-- What a loop stores in a list, one element after the other.
use mathlib.Core.Path.{◌≡◌, ◌∙◌}
use mathlib.Core.List.{List, [], ◌∷◌, ◌++◌, append-nil}
use Prim.Native.Nat.{ℕ, suc, ◌+◌, ◌≤◌, ◌<◌}
use lib.ListN.{length, get_or, drop, set, drop_of_length-le}
use lib.Seq.{drop-cons, sets, sets-eq}
use native.Mathlib.Nat.{add-zero, zero-add, add-suc, suc-add}
use native.Mathlib.Numerals.{add-one}
use native.Mathlib.Omega.{arith}

module _ {A : Type 0} where
  -- stored whole, a list that fits stands first, and everything past it stays
  pub stored_whole : (list out : List A) → length list ≤ length out → sets out 0 list ≡ list ++ drop (length list) out
  stored_whole list out h = rw (sets-eq list out 0 (omega arith), zero-add)

  -- stored over a list of its length, it is all that there is
  pub stored_all : (list out : List A) → length out ≡ length list → sets out 0 list ≡ list
  stored_all list out h =
      let none : drop (length list) out ≡ [] = drop_of_length-le out (omega arith) in
      stored_whole list out (omega arith) ∙ rw (none, append-nil)

  -- storing what is left from element k on is to store that element and then what is left after it
  pub store_next : (out list : List A) (at k : ℕ) (d : A) → k < length list → sets out at (drop k list) ≡ sets (set out at (get_or list k d)) (at + 1) (drop (k + 1) list)
  store_next out list at k d h = rw (add-one at, add-one k, drop-cons list k d h)

  -- nothing is left past the last element
  pub store_end : (out list : List A) (at k : ℕ) → length list ≤ k → sets out at (drop k list) ≡ out
  store_end out list at k h = rw (drop_of_length-le list h)

  -- storing two lists, one after the other, is to store both as one
  pub store_both : (xs ys out : List A) (at : ℕ) → sets out at (xs ++ ys) ≡ sets (sets out at xs) (at + length xs) ys
  store_both [] ys out at = rw add-zero
  store_both (x ∷ xs) ys out at = rw (add-suc, ← suc-add) (store_both xs ys (set out at x) (suc at))
