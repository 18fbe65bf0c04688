-- The four sides laid are the arcs of a transition.
use mathlib.Core.Path.{◌≡◌, refl, ◌∙◌, ap, ap₂, subst}
use mathlib.Core.Bool.{true, false, not}
use mathlib.Core.List.{List, [], ◌∷◌, ◌++◌, map, append-nil, append_assoc}
use Prim.Native.Nat.{ℕ, ◌+◌, ◌*◌, ◌≤◌, ◌<◌}
use native.Mathlib.Omega.{arith}
use native.Mathlib.Nat.{zero-add}
use lib.Dec.{T, eqb, eqb→eq, eqb_refl}
use lib.ListN.{length}
use Rattle.lists.specs.Lists.{mem, sum}
use Rattle.lists.proofs.Bools.{or_cases, or_left, or_right, and_left}
use Rattle.lists.proofs.Members.{mem_append, mem_keep}
use Rattle.records.specs.Records.{conditions}
use Rattle.model.specs.Net.{Net}
use Rattle.model.specs.Unfolding.{basic}
use Rattle.model.specs.Numbering.{size, condition_count}
use Rattle.model.proofs.Counts.{count_conditions}
use Rattle.table.specs.Decoded.{net_of}
use Rattle.doubled.specs.Doubling.{without, excusing, second, doubled}
use Rattle.segments.specs.Ranges.{ranged}
use Rattle.segments.proofs.Listed.{added_low}
use Rattle.arcs.specs.Arcs.{exported, Arcs}
use Rattle.arcs.proofs.Sides.{takes_all, fills_all, puts_all, empties_all}
use Rattle.arcs.proofs.Laid.{laid_places}

-- ---- every place is small

pub conditions_basic : (n : Net) → (basic n).conditions ≡ condition_count n
unfolding basic
conditions_basic n = count_conditions n

map_low : (c m : ℕ) (l : List ℕ) → ((b : ℕ) → T (mem b l) → b < m) → (x : ℕ) → T (mem x (map (λ y. c + y) l)) → x < c + m
map_low c m [] h x t = absurd t
map_low c m (y ∷ l) h x t =
    or_cases (eqb x (c + y)) (mem x (map (λ y. c + y) l)) t
    (λ a. let z = eqb→eq x (c + y) a in omega (arith, z, h y (or_left (eqb y y) (mem y l) (eqb_refl y))))
    (λ a. map_low c m l (λ b i. h b (or_right (eqb b y) (mem b l) i)) x a)

side_low : (c : ℕ) → c ≤ 65535 → (a b other : List ℕ) → ((x : ℕ) → T (mem x a) → x < 65535) → ((x : ℕ) → T (mem x b) → x < 65535)
    → (x : ℕ) → T (mem x (a ++ map (λ y. c + y) (without b other))) → x < 131070
unfolding without
side_low c f a b other p q x t =
    or_cases (mem x a) (mem x (map (λ y. c + y) (without b other))) (rw mem_append at t) (λ i. omega (arith, p x i))
    (λ i. omega (arith, map_low c 65535 (without b other) (λ y m. q y (and_left (mem y b) (not (mem y other)) (rw mem_keep at m))) x i))

-- ---- all four

map_none : (l : List ℕ) → map (λ x. 0 + x) l ≡ l
map_none [] = refl
map_none (x ∷ l) = ap₂ {C = List ℕ} (λ a b. a ∷ b) (zero-add x) (map_none l)

module _ (s : List ℕ) (e rest : ℕ) (h : e < (net_of s).events) (l : rest < size (net_of s) e) (c : conditions s ≡ (net_of s).conditions) where
  abbrev j : ℕ
  j = sum (size (net_of s)) e + rest

  abbrev n : Net
  n = basic (net_of s)

  module _ (firsts : ℕ) (f : firsts ≡ n.conditions) where
    -- the first two are the arcs into it
    two_laid : laid_places s firsts e rest 2 ≡ (exported (net_of s)).inputs j
    unfolding laid_places exported doubled
    two_laid =
        rw (c, f, takes_all (net_of s) e rest h l, fills_all (net_of s) e rest h l, append-nil, map_none)

    four_laid : laid_places s firsts e rest 4 ≡ (exported (net_of s)).inputs j ++ (exported (net_of s)).outputs j
    unfolding laid_places exported doubled
    four_laid =
        rw (c, f, takes_all (net_of s) e rest h l, fills_all (net_of s) e rest h l, puts_all (net_of s) e rest h l, empties_all (net_of s) e rest h l, append-nil, map_none (n.preconditions j), map_none (n.postconditions j), append_assoc)

    places_low : condition_count (net_of s) ≤ 65535 → (x : ℕ) → T (mem x ((exported (net_of s)).inputs j ++ (exported (net_of s)).outputs j)) → x < 131070
    unfolding exported doubled
    places_low w x t =
        or_cases (mem x ((exported (net_of s)).inputs j)) (mem x ((exported (net_of s)).outputs j)) (rw mem_append at t)
        (λ t. both (n.preconditions j) (n.postconditions j) pre_low post_low t) (λ t. both (n.postconditions j) (n.preconditions j) post_low pre_low t)
      where
        pre_low : (b : ℕ) → T (mem b (n.preconditions j)) → b < 65535
        pre_low b t = added_low (net_of s) false e rest h l w b t

        post_low : (b : ℕ) → T (mem b (n.postconditions j)) → b < 65535
        post_low b t = added_low (net_of s) true e rest h l w b t

        both : (a b : List ℕ) → ((x : ℕ) → T (mem x a) → x < 65535) → ((x : ℕ) → T (mem x b) → x < 65535)
            → T (mem x (a ++ map (second n) (without b (excusing n a)))) → x < 131070
        both a b p q t = side_low n.conditions (omega (arith, conditions_basic (net_of s), w)) a b (excusing n a) p q x t

    pub arcs_laid : condition_count (net_of s) ≤ 65535 → (starts sizes : List ℕ) (k : ℕ) → k ≡ conditions s → length starts ≡ 2048 → length sizes ≡ 2048
        → ((i : ℕ) → i ≤ 4 → ranged starts sizes (i * (2 * k)) ≡ laid_places s firsts e rest i) → Arcs (net_of s) j starts sizes
    arcs_laid w starts sizes k q a b inv =
        let x : 4 * (net_of s).conditions ≡ 2 * (2 * k) = omega (arith, c, q) in
        let y : 8 * (net_of s).conditions ≡ 4 * (2 * k) = omega (arith, c, q) in
        let all : ranged starts sizes (8 * (net_of s).conditions) ≡ (exported (net_of s)).inputs j ++ (exported (net_of s)).outputs j
        = ap (ranged starts sizes) y ∙ inv 4 (omega arith) ∙ four_laid in
        record {
          in_starts = a;
          in_sizes = b;
          into = ap (ranged starts sizes) x ∙ inv 2 (omega arith) ∙ two_laid;
          all = all;
          low = λ z t. places_low w z (subst (λ (p : List ℕ). T (mem z p)) all t);
        }
