-- How many arcs a transition has: what the sizes of its ranges add up to, not too many, and at least one.
use mathlib.Core.Path.{◌≡◌, refl, sym, ◌∙◌, ap, subst}
use mathlib.Core.Bool.{Bool, true, false, not, cond}
use mathlib.Core.Option.{Option, none, some}
use mathlib.Core.List.{List, [], ◌∷◌, ◌++◌, map}
use Prim.Native.Nat.{ℕ, suc, ◌+◌, ◌*◌, ◌≤◌, ◌<◌}
use native.Mathlib.Omega.{arith}
use native.Mathlib.Decide.{dec_le}
use lib.Dec.{T, ltb, lt→ltb}
use lib.ListN.{length, get_or, length-append, length-map}
use Rattle.lists.specs.Lists.{mem, keep, count, sum, places_from, nothing}
use Rattle.lists.proofs.Bools.{not_out}
use Rattle.lists.proofs.Members.{in_mem, count_in_lem}
use Rattle.lists.proofs.Tests.{failing_at}
use Rattle.model.specs.Net.{Net, Sound}
use Rattle.model.specs.Unfolding.{unfolded_conditions, takes, puts, origin, basic, idle}
use Rattle.model.specs.Numbering.{condition_count}
use Rattle.model.specs.Across.{within, lowest_idle, idle_or_over, unfolding_refused}
use Rattle.model.proofs.Unfolded.{colour_out, origin_in}
use Rattle.model.proofs.Counts.{count_conditions}
use Rattle.model.proofs.Idle.{touches_nothing}
use Rattle.std.specs.Prelude.{Ok}
use Rattle.table.specs.Walk.{judge_of}
use Rattle.table.specs.Decoded.{net_of}
use Rattle.table.proofs.Sound.{accepted_sound}
use Rattle.layout.specs.Laid.{Laid}
use Rattle.doubled.specs.Doubling.{without, excusing, second, doubled}
use Rattle.segments.proofs.Ranged.{ranged_length}
use Rattle.arcs.specs.Arcs.{exported, arcs_at, Arcs}

-- ---- the sizes add up

pub arcs_told : (n : Net) (j : ℕ) (starts sizes : List ℕ) → Arcs n j starts sizes → (k r : ℕ) → k ≡ n.conditions → r ≡ sum (λ i. get_or sizes i 0) (8 * k) → r ≡ arcs_at n j
unfolding arcs_at
arcs_told n j starts sizes a k r q e =
    e ∙ ap (λ (x : ℕ). sum (λ i. get_or sizes i 0) (8 * x)) q ∙ sym (ranged_length starts sizes (8 * n.conditions)) ∙ ap (λ (l : List ℕ). length l) a.all
    ∙ length-append ((exported n).inputs j) ((exported n).outputs j)

-- ---- not too many

keep_short : (t : ℕ → Bool) (l : List ℕ) → length (keep t l) ≤ length l
keep_short t [] = omega arith
keep_short t (x ∷ l) = go (t x) (keep_short t l)
  where
    go : (b : Bool) → length (keep t l) ≤ length l → length (cond b (x ∷ keep t l) (keep t l)) ≤ suc (length l)
    go true ih = omega arith
    go false ih = omega arith

places_short : {A : Type 0} (t : A → Bool) (k : ℕ) (l : List A) → length (places_from k t l) ≤ length l
places_short t k [] = omega arith
places_short t k (x ∷ l) = go (t x) (places_short t (suc k) l)
  where
    go : (b : Bool) → length (places_from (suc k) t l) ≤ length l → length (cond b (k ∷ places_from (suc k) t l) (places_from (suc k) t l)) ≤ suc (length l)
    go true ih = omega arith
    go false ih = omega arith

side_short : (n : Net) (a b other : List ℕ) → length (a ++ map (second n) (without b other)) ≤ length a + length b
unfolding without
side_short n a b other =
    omega (arith, length-append a (map (second n) (without b other)), length-map (without b other) (second n), keep_short (λ x. not (mem x other)) b)

module _ (n : Net) (j : ℕ) where
  pre_few : length ((basic n).preconditions j) ≤ condition_count n
  unfolding basic
  pre_few = omega (arith, places_short (takes n (origin n j)) 0 (unfolded_conditions n), count_conditions n)

  post_few : length ((basic n).postconditions j) ≤ condition_count n
  unfolding basic
  post_few = omega (arith, places_short (puts n (origin n j)) 0 (unfolded_conditions n), count_conditions n)

pub arcs_few : (s ms us bs : List ℕ) → Laid s ms us bs → (j : ℕ) → arcs_at (net_of s) j ≤ 262140
unfolding arcs_at exported doubled
arcs_few s ms us bs l j =
    let n = basic (net_of s) in
    omega (
      arith,
      side_short n (n.preconditions j) (n.postconditions j) (excusing n (n.preconditions j)),
      side_short n (n.postconditions j) (n.preconditions j) (excusing n (n.postconditions j)),
      pre_few (net_of s) j,
      post_few (net_of s) j,
      l.few_conditions,
    )

-- ---- at least one

nil : (l : List ℕ) → length l ≡ 0 → l ≡ []
nil [] z = refl
nil (y ∷ l) z = absurd (omega arith)

none_idle : (n : Net) → unfolding_refused n ≡ none → lowest_idle n ≡ none
unfolding unfolding_refused
none_idle n u = go (lowest_idle n) u
  where
    go : (o : Option ℕ) → idle_or_over o (within n) ≡ none → o ≡ none
    go none u = refl
    go (some e) u = absurd (let z : ◌≡◌ {A = ℕ} 0 1 = cc in omega arith)

module _ (n : Net) (x : Sound n) (u : unfolding_refused n ≡ none) (j : ℕ) (h : j < (basic n).events) where
  here : T (ltb j (basic n).events)
  here = lt→ltb j (basic n).events h

  not_idle : T (idle n (origin n j).event) → ⊥
  unfolding lowest_idle
  not_idle t =
      not_out (idle n (origin n j).event)
      (failing_at (λ e. not (idle n e)) (count 0 n.events) (subst (λ (o : Option ℕ). T (nothing o)) (sym (none_idle n u)) tt) (origin n j).event
      (in_mem (count_in_lem (origin n j).event 0 n.events (omega arith) (omega (arith, (colour_out n (origin n j) (origin_in n j here)).0))))) t

  no_arc : length ((exported n).inputs j) + length ((exported n).outputs j) ≡ 0 → ⊥
  unfolding exported doubled
  no_arc z =
      not_idle (touches_nothing n x j here
      (nil ((basic n).preconditions j) (omega (arith, length-append ((basic n).preconditions j) (map (second (basic n)) (without ((basic n).postconditions j) (excusing (basic n) ((basic n).preconditions j)))))))
      (nil ((basic n).postconditions j) (omega (arith, length-append ((basic n).postconditions j) (map (second (basic n)) (without ((basic n).preconditions j) (excusing (basic n) ((basic n).postconditions j))))))))

pub arcs_some : (s : List ℕ) (k : ℕ) → judge_of s ≡ Ok k → unfolding_refused (net_of s) ≡ none → (j : ℕ) → j < (basic (net_of s)).events → 0 < arcs_at (net_of s) j
unfolding arcs_at
arcs_some s k q u j h = go (dec_le (arcs_at (net_of s) j) 0)
  where
    go : Dec (arcs_at (net_of s) j ≤ 0) → 0 < arcs_at (net_of s) j
    go (yes z) = absurd (no_arc (net_of s) (accepted_sound s k q) u j h (omega arith))
    go (no z) = omega arith
