-- How often a number is a member: of two lists put together, of a list that ascends, and of places beside their second places.
use mathlib.Core.Path.{◌≡◌, refl, ap}
use mathlib.Core.Bool.{Bool, true, false, not, ◌&&◌, ◌||◌, cond}
use mathlib.Core.List.{List, [], ◌∷◌, ◌++◌, map}
use Prim.Native.Nat.{ℕ, suc, ◌+◌, ◌<◌}
use borrow.Author.Tests.{ne_eqb}
use lib.Dec.{T, eqb, eqb→eq, eqb_refl, leb}
use native.Mathlib.Nat.{zero-add}
use native.Mathlib.Omega.{arith}
use Rattle.lists.specs.Lists.{mem, ascending_from, ascending}
use Rattle.lists.proofs.Bools.{T_of, iff, and_right}
use Rattle.lists.proofs.Members.{mem_in, mem_keep}
use Rattle.lists.proofs.Distinct.{ascending_least, ascending_keep}
use Rattle.model.specs.Net.{Net}
use Rattle.doubled.specs.Plain.{times}
use Rattle.doubled.specs.Doubling.{without, excusing, second, token}

-- ---- lists of any kind

times_append : (k : ℕ) (a z : List ℕ) → times k (a ++ z) ≡ times k a + times k z
times_append k [] z = rw zero-add
times_append k (x ∷ a) z = go (eqb k x) (times_append k a z)
  where
    go : (c : Bool) → times k (a ++ z) ≡ times k a + times k z → cond c (suc (times k (a ++ z))) (times k (a ++ z)) ≡ cond c (suc (times k a)) (times k a) + times k z
    go true ih = omega arith
    go false ih = ih

times_none : (k : ℕ) (l : List ℕ) → (T (mem k l) → ⊥) → times k l ≡ 0
times_none k [] h = refl
times_none k (x ∷ l) h = go (eqb k x) h (times_none k l)
  where
    go : (c : Bool) → (T (c || mem k l) → ⊥) → ((T (mem k l) → ⊥) → times k l ≡ 0) → cond c (suc (times k l)) (times k l) ≡ 0
    go true h ih = absurd (h tt)
    go false h ih = ih h

-- ---- lists that ascend

-- no member stands twice
times_once : (i k : ℕ) (l : List ℕ) → T (ascending_from i l) → times k l ≡ token (mem k l)
times_once i k [] t = refl
times_once i k (x ∷ l) t = go (eqb k x) refl (times_once (suc x) k l rest)
  where
    rest : T (ascending_from (suc x) l)
    rest = and_right (leb i x) (ascending_from (suc x) l) t

    later : k ≡ x → T (mem k l) → ⊥
    later e m = let h = ascending_least (suc x) l rest k (mem_in k l m) in omega arith

    go : (c : Bool) → eqb k x ≡ c → times k l ≡ token (mem k l) → cond c (suc (times k l)) (times k l) ≡ token (c || mem k l)
    go true e ih = ap suc (times_none k l (later (eqb→eq k x (T_of (eqb k x) e))))
    go false e ih = ih

pub without_ascends : (l other : List ℕ) → T (ascending l) → T (ascending (without l other))
unfolding without
without_ascends l other t = ascending_keep (λ b. not (mem b other)) 0 l t

pub mem_without : (b : ℕ) (l other : List ℕ) → mem b (without l other) ≡ (mem b l && not (mem b other))
unfolding without
mem_without b l other = mem_keep (λ b. not (mem b other)) b l

-- without what the members of another list excuse, which those under the old rule do not
pub mem_unexcused : (n : Net) (b : ℕ) (l other : List ℕ) → mem b (without l (excusing n other)) ≡ (mem b l && not (mem b other && not (n.old b)))
unfolding excusing
mem_unexcused n b l other = rw (mem_without b l (excusing n other), mem_keep (λ b. not (n.old b)) b other)

-- ---- first places, and second places after them

module _ (n : Net) where
  second_same : (b x : ℕ) → eqb (second n b) (second n x) ≡ eqb b x
  second_same b x =
      iff (eqb (second n b) (second n x)) (eqb b x)
      (λ t. let q : second n b ≡ second n x = eqb→eq (second n b) (second n x) t in let r : b ≡ x = omega arith in rw r (eqb_refl x))
      (λ t. rw (eqb→eq b x t) (eqb_refl (second n x)))

  times_moved : (b : ℕ) (l : List ℕ) → times (second n b) (map (second n) l) ≡ times b l
  times_moved b [] = refl
  times_moved b (x ∷ l) = rw (second_same b x, times_moved b l)

  -- no first place is a second one
  times_past : (b : ℕ) (l : List ℕ) → b < n.conditions → times b (map (second n) l) ≡ 0
  times_past b [] h = refl
  times_past b (x ∷ l) h = rw (ne_eqb b (second n x) (omega arith)) (times_past b l h)

  pub first_times : (a z : List ℕ) → T (ascending a) → (b : ℕ) → b < n.conditions → times b (a ++ map (second n) z) ≡ token (mem b a)
  first_times a z t b h = omega (arith, times_append b a (map (second n) z), times_past b z h, times_once 0 b a t)

  pub second_times : (a z : List ℕ) → ((b : ℕ) → T (mem b a) → b < n.conditions) → T (ascending z)
      → (b : ℕ) → times (second n b) (a ++ map (second n) z) ≡ token (mem b z)
  second_times a z f t b =
      let none : times (second n b) a ≡ 0 = times_none (second n b) a (λ i. let h = f (second n b) i in omega arith) in
      omega (arith, times_append (second n b) a (map (second n) z), none, times_moved b z, times_once 0 b z t)
