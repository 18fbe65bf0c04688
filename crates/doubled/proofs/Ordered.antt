-- The lists of a doubled net ascend and name only places that it has, so that first places come before second ones.
use mathlib.Core.Path.{subst}
use mathlib.Core.Bool.{not}
use mathlib.Core.List.Memᴰ
use mathlib.Core.List.{List, [], ◌∷◌, ◌++◌, map}
use Prim.Native.Nat.{ℕ, suc, ◌+◌, ◌≤◌, ◌<◌}
use lib.Dec.{T, eqb, eqb_refl, leb, leb→le, le→leb}
use native.Mathlib.Omega.{arith}
use Rattle.lists.specs.Lists.{mem, ascending_from, ascending, fits, count}
use Rattle.lists.proofs.Bools.{and_left, and_right, and_both, or_left, or_right, or_cases}
use Rattle.lists.proofs.Members.{mem_in, in_mem, mem_append, count_out}
use Rattle.lists.proofs.Tests.{fits_of}
use Rattle.model.specs.Net.{Net, Sound}
use Rattle.model.specs.Unfolding.{basic}
use Rattle.model.proofs.Sets.{basic_sound}
use Rattle.doubled.specs.Doubling.{without, excusing, second, doubled}
use Rattle.lists.proofs.Distinct.{count_ascends}
use Rattle.doubled.proofs.Counting.{without_ascends, mem_without}

module _ (n : Net) where
  abbrev c : ℕ
  c = n.conditions

  seconds_ascend : (i k : ℕ) (z : List ℕ) → i ≤ c + k → T (ascending_from k z) → T (ascending_from i (map (second n) z))
  seconds_ascend i k [] h t = tt
  seconds_ascend i k (x ∷ z) h t =
      let low = leb→le k x (and_left (leb k x) (ascending_from (suc x) z) t) in
      and_both (leb i (second n x)) (ascending_from (suc (second n x)) (map (second n) z)) (le→leb i (second n x) (omega arith))
      (seconds_ascend (suc (second n x)) (suc x) z (omega arith) (and_right (leb k x) (ascending_from (suc x) z) t))

  both_ascend : (i : ℕ) (a z : List ℕ) → i ≤ c → T (ascending_from i a) → ((b : ℕ) → T (mem b a) → b < c) → T (ascending z)
      → T (ascending_from i (a ++ map (second n) z))
  both_ascend i [] z h t f g = seconds_ascend i 0 z (omega arith) g
  both_ascend i (x ∷ a) z h t f g =
      let here : x < c = f x (or_left (eqb x x) (mem x a) (eqb_refl x)) in
      and_both (leb i x) (ascending_from (suc x) (a ++ map (second n) z)) (and_left (leb i x) (ascending_from (suc x) a) t)
      (both_ascend (suc x) a z (omega arith) (and_right (leb i x) (ascending_from (suc x) a) t) (λ b j. f b (or_right (eqb b x) (mem b a) j)) g)

  -- a list of conditions, then second places of such
  both_fit : (a z : List ℕ) → T (ascending a) → ((b : ℕ) → T (mem b a) → b < c) → T (ascending z) → ((b : ℕ) → T (mem b z) → b < c)
      → T (fits (doubled n).places (a ++ map (second n) z))
  unfolding doubled
  both_fit a z t f g h =
      fits_of (c + c) (a ++ map (second n) z) (both_ascend 0 a z (omega arith) t f g)
      (λ x i. or_cases (mem x a) (mem x (map (second n) z)) (subst T (mem_append x a (map (second n) z)) i) (λ j. let l : x < c = f x j in omega arith)
      (λ j. let r = Memᴰ.of_map (second n) z (mem_in x (map (second n) z) j) in let l : r.0 < c = h r.0 (in_mem r.1) in omega (arith, r.2)))

  module _ (s : Sound n) where
    kept_in : (l other : List ℕ) → ((b : ℕ) → T (mem b l) → b < c) → (b : ℕ) → T (mem b (without l other)) → b < c
    kept_in l other f b i = f b (and_left (mem b l) (not (mem b other)) (subst T (mem_without b l other) i))

    -- the places of the arcs into a transition, and out of it
    pub inputs_fit : (e : ℕ) → e < n.events → T (fits (doubled n).places ((doubled n).inputs e))
    unfolding doubled
    inputs_fit e h =
        both_fit (n.preconditions e) (without (n.postconditions e) (excusing n (n.preconditions e))) (s.pre_ascends_lem e h) (λ b. s.pre_in e b h)
        (without_ascends (n.postconditions e) (excusing n (n.preconditions e)) (s.post_ascends_lem e h))
        (kept_in (n.postconditions e) (excusing n (n.preconditions e)) (λ b. s.post_in e b h))

    pub outputs_fit : (e : ℕ) → e < n.events → T (fits (doubled n).places ((doubled n).outputs e))
    unfolding doubled
    outputs_fit e h =
        both_fit (n.postconditions e) (without (n.preconditions e) (excusing n (n.postconditions e))) (s.post_ascends_lem e h) (λ b. s.post_in e b h)
        (without_ascends (n.preconditions e) (excusing n (n.postconditions e)) (s.pre_ascends_lem e h))
        (kept_in (n.preconditions e) (excusing n (n.postconditions e)) (λ b. s.pre_in e b h))

    -- the places that hold a token at first
    pub initial_fits : T (fits (doubled n).places (doubled n).initial)
    unfolding doubled
    initial_fits =
        both_fit n.start (without (count 0 c) n.start) s.start_ascends s.start_in
        (without_ascends (count 0 c) n.start (count_ascends 0 c))
        (kept_in (count 0 c) n.start (λ b i. omega (arith, (count_out b 0 c (mem_in b (count 0 c) i)).1)))

-- Of the net that is exported, whatever net it is of: both lists of each transition.
pub exported_fits : (n : Net) (j : ℕ) → j < (basic n).events
    → T (fits (doubled (basic n)).places ((doubled (basic n)).inputs j)) × T (fits (doubled (basic n)).places ((doubled (basic n)).outputs j))
exported_fits n j h = (inputs_fit (basic n) (basic_sound n) j h, outputs_fit (basic n) (basic_sound n) j h)
