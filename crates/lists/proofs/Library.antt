-- What is defined here by the words of the library, which its iterators speak of.
use Prim.Native.Nat.{ℕ, ◌<◌, ◌≤◌}
use native.Mathlib.Omega.{arith}
use native.Mathlib.Numerals.{add-one}
use lib.Dec.{eqb}
use lib.ListN.{length}
use mathlib.Core.Bool.{Bool, true, false, ◌&&◌, ◌||◌, cond}
use mathlib.Core.List.{List, [], ◌∷◌}
use mathlib.Core.Path.{◌≡◌, refl, sym, ap}
use Rattle.std.specs.Prelude.{Option, None, Some, MatchOption, IfSome}
use Rattle.std.specs.List.{list_all, list_any, filter, AllWithin, HoldsAt}
use Rattle.std.specs.Option.{unwrap_or}
use Rattle.std.proofs.lemmas.Iterator.{index_from_first}
use Rattle.lists.specs.Lists.{mem, any, all, keep, index}

pub mem_is_any : (k : ℕ) (l : List ℕ) → mem k l ≡ list_any (λ x. eqb k x) l
mem_is_any k [] = refl
mem_is_any k (x ∷ xs) = ap (λ (t : Bool). eqb k x || t) (mem_is_any k xs)

pub all_is_all : (test : ℕ → Bool) (l : List ℕ) → all test l ≡ list_all test l
all_is_all test [] = refl
all_is_all test (x ∷ xs) = ap (λ (t : Bool). test x && t) (all_is_all test xs)

pub any_is_any : (test : ℕ → Bool) (l : List ℕ) → any test l ≡ list_any test l
any_is_any test [] = refl
any_is_any test (x ∷ xs) = ap (λ (t : Bool). test x || t) (any_is_any test xs)

pub keep_is_filter : (test : ℕ → Bool) (l : List ℕ) → keep test l ≡ filter test l
keep_is_filter test [] = refl
keep_is_filter test (x ∷ xs) = ap (λ (m : List ℕ). cond (test x) (x ∷ m) m) (keep_is_filter test xs)

-- The place that the library finds, the length where it finds none, is the first at which a test passes.
module _ {A : Type 0} (test : A → Bool) (l : List A) where
  abbrev pub FoundIn : Option ℕ → Type 0
  FoundIn r = MatchOption r (AllWithin (λ x. test x ≡ false) l 0 (length l))
      (λ i. (i < length l) × HoldsAt (λ x. test x ≡ true) l i × AllWithin (λ x. test x ≡ false) l 0 i)

  pub found_is_index : (r : Option ℕ) → FoundIn r → unwrap_or r (length l) ≡ index test l
  found_is_index r found =
      sym (index_from_first (index test) (λ x. test x ≡ true) (λ x. test x ≡ false) refl
      (λ x xs passes. rw passes)
      (λ x xs fails. rw (fails, add-one)) l r found)

-- A place that is found below an end, and the end where none is found.
pub found_within : (end : ℕ) (r : Option ℕ) → IfSome r (λ i. i < end) → unwrap_or r end ≤ end
found_within end None below = omega arith
found_within end (Some i) below = omega arith
