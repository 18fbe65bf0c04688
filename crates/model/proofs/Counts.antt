-- The numbers of unfolded events and conditions in whole numbers: the counts are the sums and products of the requirements, each
-- number is the sum of what comes before it, and division takes a number apart again.
use mathlib.Core.Path.{◌≡◌, refl, sym, ◌∙◌, ap, subst}
use mathlib.Core.Bool.{Bool, true, false, cond}
use mathlib.Core.Option.{some}
use mathlib.Core.List.Memᴰ
use mathlib.Core.List.{List, [], ◌∷◌, map}
use Prim.Native.Nat.{ℕ, zero, suc, ◌+◌, ◌<◌, zero-le, suc-le-suc, ◌*◌, ◌/◌, ◌%◌}
use lib.Dec.{eqb}
use lib.ListN.{get_elem?, length, get_or, length-map}
use native.Mathlib.Nat.{not-suc-le-zero, le_of_suc-le-suc, add-zero, div-add-mod', mod-lt, div-lt_iff_lt-mul}
use native.Mathlib.Omega.{arith}
use Rattle.lists.specs.Lists.{mem, index, keep, count, sum, spread, ◌∈◌}
use Rattle.lists.proofs.Places.{in_at, at_some, index_at, number_index}
use Rattle.lists.proofs.Positions.{at_map, at_map_out, length_spread, spread_at, spread_where, length_base, base_at, base_where}
use Rattle.lists.proofs.Distinct.{Distinct, distinct_cons, distinct_map, distinct_keep}
use Rattle.lists.proofs.Products.{some_length}
use Rattle.model.specs.Net.{Net}
use Rattle.model.specs.Runs.{Marker, at_start, by_event}
use Rattle.model.specs.Unfolding.{same_marker, UnfoldedCondition, ordinary, copy, markers, users, copies, unfolded_conditions, UnfoldedEvent, reads, choices, colours, unfolded_events}
use Rattle.model.specs.Numbering.{number, condition_number, ways, radix, digits, size, width, condition_count, event_count, counted, counted_condition}
use Rattle.model.proofs.Unfolded.{same_marker_refl, same_marker_eq}
use Rattle.model.proofs.Numbers.{number_at, condition_at_lem}

-- ---- no marker and no user stands twice

pub marker_at_lem : (m : Marker) (ms : List Marker) → m ∈ ms → get_elem? ms (index (same_marker m) ms) ≡ some m
marker_at_lem m ms i = index_at (same_marker m) m (same_marker_refl m) (same_marker_eq m) ms i

pub distinct_markers : (n : Net) (b : ℕ) → Distinct (markers n b)
unfolding markers
distinct_markers n b =
    distinct_cons at_start (map by_event l) (λ h. let r = Memᴰ.of_map by_event l h in let z : ◌≡◌ {A = ℕ} 0 1 = cc in omega arith)
    (distinct_map by_event (λ x y q. cc) l (distinct_keep (λ e. mem b (n.postconditions e)) 0 n.events))
  where
    l : List ℕ
    l = keep (λ e. mem b (n.postconditions e)) (count 0 n.events)

pub distinct_users : (n : Net) (b : ℕ) → Distinct (users n b)
unfolding users
distinct_users n b = distinct_keep (λ e. mem b (n.preconditions e)) 0 n.events

marker_place : (n : Net) (b : ℕ) (m : Marker) (i : ℕ) → get_elem? (markers n b) i ≡ some m → index (same_marker m) (markers n b) ≡ i
marker_place n b m i h = distinct_markers n b m (index (same_marker m) (markers n b)) i (marker_at_lem m (markers n b) (in_at (markers n b) i h)) h

user_place : (n : Net) (b u i : ℕ) → get_elem? (users n b) i ≡ some u → index (eqb u) (users n b) ≡ i
user_place n b u i h = distinct_users n b u (index (eqb u) (users n b)) i (number_index u (users n b) (in_at (users n b) i h)) h

-- ---- colours

pub choices_length : (mss : List (List Marker)) → length (choices mss) ≡ ways mss
choices_length [] = refl
choices_length (ms ∷ mss) = length_spread (λ m. map (m ∷◌) (choices mss)) (ways mss) (λ m. length-map (choices mss) (m ∷◌) ∙ choices_length mss) ms

each_length : (mss : List (List Marker)) (m : Marker) → length (map (m ∷◌) (choices mss)) ≡ ways mss
each_length mss m = length-map (choices mss) (m ∷◌) ∙ choices_length mss

-- the colour at a place
pub digits_at : (mss : List (List Marker)) (r : ℕ) → r < ways mss → get_elem? (choices mss) r ≡ some (digits mss r)
digits_at [] zero h = refl
digits_at [] (suc r) h = absurd (not-suc-le-zero (le_of_suc-le-suc h))
digits_at (ms ∷ mss) r h =
    let l = ways mss in
    let pos = some_length (length ms) l r h in
    let small : r / l < length ms = (div-lt_iff_lt-mul pos).1 h in
    let m = get_or ms (r / l) at_start in
    let whole : r / l * l + r % l ≡ r = div-add-mod' r l in
    ap (λ (k : ℕ). get_elem? (spread (λ m. map (m ∷◌) (choices mss)) ms) k) (sym whole)
    ∙ spread_at (λ m. map (m ∷◌) (choices mss)) l (each_length mss) ms (r / l) (r % l) (at_some ms (r / l) at_start small) (mod-lt r pos)
    ∙ at_map (m ∷◌) (choices mss) (r % l) (digits_at mss (r % l) (mod-lt r pos))

-- the place of a colour
pub radix_back : (n : Net) (bs : List ℕ) (k : ℕ) (c : List Marker) → get_elem? (choices (map (markers n) bs)) k ≡ some c → radix (map (markers n) bs) c ≡ k
radix_back n [] zero c h = refl
radix_back n [] (suc k) c h = absurd (let z : ◌≡◌ {A = ℕ} 0 1 = cc in omega arith)
radix_back n (b ∷ bs) k c h =
    let mss = map (markers n) bs in
    let r = spread_where (λ m. map (m ∷◌) (choices mss)) (ways mss) (each_length mss) c (markers n b) k h in
    let m = r.value in
    let x = at_map_out (m ∷◌) (choices mss) r.rest r.at_rest in
    subst (λ (c : List Marker). radix (markers n b ∷ mss) c ≡ k) x.2
    (rw (marker_place n b m r.part r.at_part, radix_back n bs r.rest x.0 x.1) (sym r.sums))

-- ---- unfolded events

module _ (n : Net) where
  pub size_colours : (e : ℕ) → length (colours n e) ≡ size n e
  unfolding colours size
  size_colours e =
      length-map {B = UnfoldedEvent} (choices (map (markers n) (reads n e))) (λ c. record { event = e; colour = c }) ∙ choices_length (map (markers n) (reads n e))

  -- The number of unfolded events is the sum of the events' numbers of colours, each a product.
  pub count_events : length (unfolded_events n) ≡ event_count n
  unfolding unfolded_events event_count
  count_events = length_base (colours n) (size n) size_colours n.events

  -- The unfolded event at a place among those of its event.
  pub event_from : (e r : ℕ) → e < n.events → r < size n e
      → get_elem? (unfolded_events n) (sum (size n) e + r) ≡ some (record { event = e; colour = digits (map (markers n) (reads n e)) r })
  unfolding unfolded_events colours size
  event_from e r h l =
      base_at (colours n) (size n) size_colours n.events e r h l
      ∙ at_map (λ c. record { event = e; colour = c }) (choices (map (markers n) (reads n e))) r (digits_at (map (markers n) (reads n e)) r l)

  -- What stands at a number is counted to it,
  pub counted_back : (j : ℕ) (x : UnfoldedEvent) → get_elem? (unfolded_events n) j ≡ some x → counted n x ≡ j
  unfolding unfolded_events colours counted
  counted_back j x h =
      let r = base_where (colours n) (size n) size_colours x 0 n.events j h in
      let e = r.part in
      let y = at_map_out {B = UnfoldedEvent} (λ c. record { event = e; colour = c }) (choices (map (markers n) (reads n e))) r.rest r.at_rest in
      let ih = radix_back n (reads n e) r.rest y.0 y.1 in
      subst (λ (x : UnfoldedEvent). counted n x ≡ j) y.2 (omega (arith, ih, r.sums))

  -- so that the number is the count,
  pub number_counted : (x : UnfoldedEvent) → x ∈ unfolded_events n → number n x ≡ counted n x
  number_counted x i = sym (counted_back (number n x) x (number_at n x i))

  -- and what stands at a number has that number.
  pub number_back : (j : ℕ) (x : UnfoldedEvent) → get_elem? (unfolded_events n) j ≡ some x → number n x ≡ j
  number_back j x h = number_counted x (in_at (unfolded_events n) j h) ∙ counted_back j x h

  -- ---- unfolded conditions
  pub width_copies : (b : ℕ) → length (copies n b) ≡ width n b
  unfolding copies width
  width_copies b = go (n.persistent b)
    where
      go : (t : Bool) → length (cond t (spread (λ m. map (copy b m) (users n b)) (markers n b)) (ordinary b ∷ [])) ≡ cond t (length (markers n b) * length (users n b)) 1
      go true = length_spread (λ m. map (copy b m) (users n b)) (length (users n b)) (λ m. length-map (users n b) (copy b m)) (markers n b)
      go false = refl

  -- The number of unfolded conditions is the sum of markers times users, or 1.
  pub count_conditions : length (unfolded_conditions n) ≡ condition_count n
  unfolding unfolded_conditions condition_count
  count_conditions = length_base (copies n) (width n) width_copies n.conditions

  -- An ordinary condition stands after those of all conditions before it.
  pub ordinary_from : (b : ℕ) → b < n.conditions → n.persistent b ≡ false → get_elem? (unfolded_conditions n) (sum (width n) b) ≡ some (ordinary b)
  unfolding unfolded_conditions copies width
  ordinary_from b h p =
      let z : 0 < width n b = rw p (suc-le-suc zero-le) in
      (rw add-zero at (base_at (copies n) (width n) width_copies n.conditions b 0 h z)) ∙ rw p

  -- The copy at a place among those of its condition.
  pub copy_from : (b r : ℕ) → b < n.conditions → n.persistent b ≡ true → r < length (markers n b) * length (users n b)
      → get_elem? (unfolded_conditions n) (sum (width n) b + r)
      ≡ some (copy b (get_or (markers n b) (r / length (users n b)) at_start) (get_or (users n b) (r % length (users n b)) 0))
  unfolding unfolded_conditions copies width
  copy_from b r h p l =
      let c = length (users n b) in
      let pos = some_length (length (markers n b)) c r l in
      let small : r / c < length (markers n b) = (div-lt_iff_lt-mul pos).1 l in
      let whole : r / c * c + r % c ≡ r = div-add-mod' r c in
      let m = get_or (markers n b) (r / c) at_start in
      let w : r < width n b = rw p l in
      let at : get_elem? (spread (λ m. map (copy b m) (users n b)) (markers n b)) r ≡ some (copy b m (get_or (users n b) (r % c) 0))
      = ap (λ (k : ℕ). get_elem? (spread (λ m. map (copy b m) (users n b)) (markers n b)) k) (sym whole)
      ∙ spread_at (λ m. map (copy b m) (users n b)) c (λ m. length-map (users n b) (copy b m)) (markers n b) (r / c) (r % c) (at_some (markers n b) (r / c) at_start small) (mod-lt r pos)
      ∙ at_map (copy b m) (users n b) (r % c) (at_some (users n b) (r % c) 0 (mod-lt r pos)) in
      base_at (copies n) (width n) width_copies n.conditions b r h w ∙ rw p at

  pub counted_condition_back : (k : ℕ) (p : UnfoldedCondition) → get_elem? (unfolded_conditions n) k ≡ some p → counted_condition n p ≡ k
  unfolding unfolded_conditions copies counted_condition
  counted_condition_back k p h =
      let r = base_where (copies n) (width n) width_copies p 0 n.conditions k h in
      go r.part r.rest (n.persistent r.part) r.at_rest ∙ omega (arith, r.sums)
    where
      go : (b i : ℕ) (t : Bool) → get_elem? (cond t (spread (λ m. map (copy b m) (users n b)) (markers n b)) (ordinary b ∷ [])) i ≡ some p
          → counted_condition n p ≡ sum (width n) b + i
      go b i true h =
          let r = spread_where (λ m. map (copy b m) (users n b)) (length (users n b)) (λ m. length-map (users n b) (copy b m)) p (markers n b) i h in
          let m = r.value in
          let y = at_map_out (copy b m) (users n b) r.rest r.at_rest in
          subst (λ (p : UnfoldedCondition). counted_condition n p ≡ sum (width n) b + i) y.2
          (rw (marker_place n b m r.part r.at_part, user_place n b y.0 r.rest y.1) (omega (arith, r.sums)))
      go b zero false h = subst (λ (p : UnfoldedCondition). counted_condition n p ≡ sum (width n) b + 0) (let z : ordinary b ≡ p = cc in z) (sym (add-zero (sum (width n) b)))
      go b (suc i) false h = absurd (let z : ◌≡◌ {A = ℕ} 0 1 = cc in omega arith)

  pub condition_counted : (p : UnfoldedCondition) → p ∈ unfolded_conditions n → condition_number n p ≡ counted_condition n p
  condition_counted p i = sym (counted_condition_back (condition_number n p) p (condition_at_lem n p i))

  pub condition_back : (k : ℕ) (p : UnfoldedCondition) → get_elem? (unfolded_conditions n) k ≡ some p → condition_number n p ≡ k
  condition_back k p h = condition_counted p (in_at (unfolded_conditions n) k h) ∙ counted_condition_back k p h
