-- Ranges walked: whether they have a number, which of their numbers fails first, and bytes set at each.
use mathlib.Core.Path.{◌≡◌, refl, sym, ◌∙◌, ap}
use mathlib.Core.Bool.{Bool, true, false, ◌||◌, cond}
use mathlib.Core.Option.{Option, none, some}
use mathlib.Core.List.{List, [], ◌∷◌, ◌++◌}
use Prim.Native.Nat.{ℕ, zero, suc, ◌+◌, ◌-◌, ◌≤◌, ◌<◌}
use lib.Dec.{ltb, ltb→lt}
use lib.ListN.{get_or, set}
use native.Mathlib.Numerals.{add-one}
use native.Mathlib.Omega.{arith}
use native.Mathlib.Decide.{ℕ_discrete}
use borrow.Author.Tests.{lt-ltb}
use Rattle.lists.specs.Lists.{mem, failing, count}
use Rattle.lists.proofs.Bools.{T_of, is_false, iff}
use Rattle.lists.proofs.Members.{mem_in, in_mem, mem_append, count_in_lem, count_out}
use Rattle.refusal.specs.declared.UnfoldedCondition.{UnfoldedCondition}
use Rattle.segments.specs.Ranges.{ranged_from}
use Rattle.segments.proofs.Ranged.{ranged_on, ranged_end}
use Rattle.step.specs.Steps.{set_all}
use Rattle.walking.specs.Steps.{Failing, failing_of, BelowIn}
use Rattle.std.specs.Prelude.{Option as Perhaps, None, Some}
use Rattle.std.specs.Option.{MatchOption, option_map}
use Rattle.std.specs.List.{list_any, range_with_len}

-- ---- a number in a range

pub range_low : (a p k : ℕ) → k < a → false ≡ mem k (count a p)
range_low a p k h = sym (is_false (mem k (count a p)) (λ t. let r = count_out k a p (mem_in k (count a p) t) in omega arith))

pub range_here : (a p k : ℕ) → a ≤ k → ltb (k - a) p ≡ mem k (count a p)
range_here a p k h =
    iff (ltb (k - a) p) (mem k (count a p))
    (λ t. let l = ltb→lt (k - a) p t in in_mem (count_in_lem k a p h (omega arith)))
    (λ t. let r = count_out k a p (mem_in k (count a p) t) in T_of (ltb (k - a) p) (lt-ltb (k - a) p (omega arith)))

-- one of so many ranges has a number as soon as some of them does
pub any_has : (starts sizes : List ℕ) (x o n : ℕ)
    → list_any (λ i. mem x (count (get_or starts i 0) (get_or sizes i 0))) (range_with_len o n) ≡ mem x (ranged_from starts sizes o n)
unfolding ranged_from
any_has starts sizes x o zero = refl
any_has starts sizes x o (suc n) =
    let here = count (get_or starts o 0) (get_or sizes o 0) in
    let later : list_any (λ i. mem x (count (get_or starts i 0) (get_or sizes i 0))) (range_with_len (o + 1) n) ≡ mem x (ranged_from starts sizes (suc o) n) =
    rw add-one (any_has starts sizes x (suc o) n) in
    ap (λ (t : Bool). mem x here || t) later ∙ sym (mem_append x here (ranged_from starts sizes (suc o) n))

-- ---- the first that fails

-- what a search over the numbers of a range found is the first that fails
pub failing_found_in : (f : ℕ → Bool) (first size : ℕ) (r : Perhaps ℕ)
    → MatchOption r ((k : ℕ) → first ≤ k → k < first + size → f k ≡ true)
    (λ b. (first ≤ b) × (b < first + size) × (f b ≡ false) × ((k : ℕ) → first ≤ k → k < b → f k ≡ true))
    → option_map (λ b. record { 0 = b }) r ≡ failing_of (failing f (count first size))
failing_found_in f first zero None all = refl
failing_found_in f first zero (Some b) (least, below, fails, pass) = absurd (omega arith)
failing_found_in f first (suc n) None all =
    rw (all first (omega arith) (omega arith)) (failing_found_in f (suc first) n None (λ k low high. all k (omega arith) (omega arith)))
failing_found_in f first (suc n) (Some b) (least, below, fails, pass) =
    go (ℕ_discrete first b)
    (λ no. failing_found_in f (suc first) n (Some b) (omega (arith, no), omega arith, fails, λ k low high. pass k (omega arith) high))
  where
    go : Dec (first ≡ b)
        → ((first ≡ b → ⊥) → ◌≡◌ {A = Failing} (Some (record { 0 = b })) (failing_of (failing f (count (suc first) n))))
        → ◌≡◌ {A = Failing} (Some (record { 0 = b })) (failing_of (failing f (count first (suc n))))
    go (yes e) later = let here : f first ≡ false = rw (← e) at fails in rw (here, e) refl
    go (no e) later = rw (pass first (omega arith) (omega (arith, e))) (later e)

-- the end of a range is below what its beginning and the bound of its numbers are below
pub range_fits : (first size most limit : ℕ) → BelowIn first size most → first < limit → most < limit → first + size < limit
range_fits first zero most limit f h l = omega arith
range_fits first (suc d) most limit f h l = omega (arith, f d (omega arith))

pub count_whole : (first size : ℕ) → count first (first + size - first) ≡ count first size
count_whole first size = let z : first + size - first ≡ size = omega arith in rw z

failing_append : (f : ℕ → Bool) (xs ys : List ℕ) → failing f xs ≡ none → failing f (xs ++ ys) ≡ failing f ys
failing_append f [] ys e = refl
failing_append f (x ∷ xs) ys e = go (f x) e (failing_append f xs ys)
  where
    go : (b : Bool) → cond b (failing f xs) (some x) ≡ none → (failing f xs ≡ none → failing f (xs ++ ys) ≡ failing f ys) → cond b (failing f (xs ++ ys)) (some x) ≡ failing f ys
    go true e ih = ih e
    go false e ih = absurd (let z : ◌≡◌ {A = ℕ} 0 1 = cc in omega arith)

failing_found : (f : ℕ → Bool) (xs ys : List ℕ) (b : ℕ) → failing f xs ≡ some b → failing f (xs ++ ys) ≡ some b
failing_found f [] ys b e = absurd (let z : ◌≡◌ {A = ℕ} 0 1 = cc in omega arith)
failing_found f (x ∷ xs) ys b e = go (f x) e (failing_found f xs ys b)
  where
    go : (t : Bool) → cond t (failing f xs) (some x) ≡ some b → (failing f xs ≡ some b → failing f (xs ++ ys) ≡ some b) → cond t (failing f (xs ++ ys)) (some x) ≡ some b
    go true e ih = ih e
    go false e ih = e

module _ (f : ℕ → Bool) (starts sizes : List ℕ) (i k : ℕ) (h : i < k) (found : Failing) (e : found ≡ failing_of (failing f (count (get_or starts i 0) (get_or sizes i 0)))) where
  pub none_found : found ≡ None → failing f (ranged_from starts sizes i (k - i)) ≡ failing f (ranged_from starts sizes (i + 1) (k - (i + 1)))
  none_found q =
      ap (failing f) (ranged_on starts sizes i k h)
      ∙ failing_append f (count (get_or starts i 0) (get_or sizes i 0)) (ranged_from starts sizes (i + 1) (k - (i + 1))) (go (failing f (count (get_or starts i 0) (get_or sizes i 0))) (sym e ∙ q))
    where
      go : (o : Option ℕ) → failing_of o ≡ None → o ≡ none
      go none p = refl
      go (some b) p = absurd (let z : ◌≡◌ {A = ℕ} 0 1 = cc in omega arith)

  pub one_found : {b : UnfoldedCondition} → found ≡ Some b → found ≡ failing_of (failing f (ranged_from starts sizes i (k - i)))
  one_found {b} q = go (failing f (count (get_or starts i 0) (get_or sizes i 0))) refl
    where
      go : (o : Option ℕ) → failing f (count (get_or starts i 0) (get_or sizes i 0)) ≡ o → found ≡ failing_of (failing f (ranged_from starts sizes i (k - i)))
      go none p = absurd (let w : found ≡ None = e ∙ ap failing_of p in let z : ◌≡◌ {A = ℕ} 0 1 = cc in omega arith)
      go (some x) p =
          e ∙ ap failing_of (p ∙ sym (ap (failing f) (ranged_on starts sizes i k h) ∙ failing_found f (count (get_or starts i 0) (get_or sizes i 0)) (ranged_from starts sizes (i + 1) (k - (i + 1))) x p))

-- ---- bytes set

module _ (v k end : ℕ) (l : List ℕ) where
  pub set_next : k < end → set_all [] v (count k (end - k)) l ≡ set_all [] v (count (k + 1) (end - (k + 1))) (set l k v)
  unfolding set_all
  set_next h = let z : end - k ≡ suc (end - (k + 1)) = omega arith in rw (z, add-one)

  pub set_done : end ≤ k → set_all [] v (count k (end - k)) l ≡ l
  unfolding set_all
  set_done h = let z : end - k ≡ 0 = omega arith in rw z

set_append : (v : ℕ) (xs ys l : List ℕ) → set_all [] v (xs ++ ys) l ≡ set_all [] v ys (set_all [] v xs l)
unfolding set_all
set_append v [] ys l = refl
set_append v (x ∷ xs) ys l = set_append v xs ys (set l x v)

module _ (starts sizes : List ℕ) (i k : ℕ) (v : ℕ) (l : List ℕ) where
  pub set_on : i < k → set_all [] v (ranged_from starts sizes i (k - i)) l ≡ set_all [] v (ranged_from starts sizes (i + 1) (k - (i + 1))) (set_all [] v (count (get_or starts i 0) (get_or sizes i 0)) l)
  set_on h = ap (λ (x : List ℕ). set_all [] v x l) (ranged_on starts sizes i k h) ∙ set_append v (count (get_or starts i 0) (get_or sizes i 0)) (ranged_from starts sizes (i + 1) (k - (i + 1))) l

  pub set_end : k ≤ i → set_all [] v (ranged_from starts sizes i (k - i)) l ≡ l
  unfolding set_all
  set_end h = rw (ranged_end starts sizes i k h)
