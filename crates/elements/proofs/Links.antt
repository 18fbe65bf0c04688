-- What an arc joins, by its spot, and which places hold a token at first.
use Prim.Native.Nat.{ℕ, zero, suc, ◌+◌, ◌*◌, ◌-◌, ◌≤◌, ◌<◌}
use mathlib.Core.Path.{◌≡◌, refl, sym, ◌∙◌, ap}
use mathlib.Core.Bool.{true, false, not, ◌||◌}
use mathlib.Core.Option.{some}
use mathlib.Core.List.{List, [], ◌∷◌, ◌++◌, map}
use lib.Dec.{eqb}
use lib.ListN.{get_elem?, length, get_or, length-map}
use borrow.Author.Tests.{lt-ltb, le-ltb, eq-eqb, ne_eqb}
use native.Mathlib.Decide.{dec_le}
use native.Mathlib.Nat.{add-zero, add-suc, suc-add}
use native.Mathlib.Omega.{arith}
use Rattle.lists.specs.Lists.{mem, count, sum}
use Rattle.lists.proofs.Bools.{is_true, is_false, or_none}
use Rattle.lists.proofs.Members.{in_mem, mem_append, mem_keep, count_in_lem, length_count}
use Rattle.lists.proofs.Places.{in_at, at_lt}
use Rattle.lists.proofs.Positions.{at_left, at_right, at_map, base_at}
use Rattle.model.specs.Net.{Net, begin}
use Rattle.model.specs.Lent.{bit}
use Rattle.model.specs.Unfolding.{basic}
use Rattle.model.proofs.Lent.{bit_one}
use Rattle.model.proofs.Sets.{basic_sound}
use Rattle.doubled.specs.Doubling.{without, second, doubled}
use Rattle.table.specs.Decoded.{net_of}
use Rattle.segments.specs.Ranges.{ranged_from, ranged}
use Rattle.pnml.specs.declared.Link.TheVariants.{Into, OutOf}
use Rattle.pnml.specs.Elements.{arcs_of}
use Rattle.arcs.specs.Arcs.{exported, arcs_at, Arcs}
use Rattle.spots.specs.declared.Spot.{Spot}
use Rattle.spots.specs.Spots.{sizes_before, Spotted}
use Rattle.spots.proofs.Ranges.{sum_most, sizes_whole, sizes_into}
use Rattle.spots.proofs.Spots.{owned_low, all_transitions}
use Rattle.export_places.specs.Needs.{held_at, link_at, Kept}
use Rattle.elements.proofs.Elements.{links, links_at}
use Rattle.layout.proofs.Counts.{sum_part}

-- ---- a number by its range and offset

count_at : (k c o : ℕ) → o < c → get_elem? (count k c) o ≡ some (k + o)
count_at k zero o h = absurd (omega arith)
count_at k (suc c) zero h = rw add-zero
count_at k (suc c) (suc o) h = rw (add-suc, ← suc-add k o) (count_at (suc k) c o (omega arith))

ranged_at : (starts sizes : List ℕ) (m r o : ℕ) → r < m → o < get_or sizes r 0 → get_elem? (ranged starts sizes m) (sizes_before sizes r + o) ≡ some (get_or starts r 0 + o)
unfolding ranged_from
ranged_at starts sizes m r o h l =
    base_at (λ i. count (get_or starts i 0) (get_or sizes i 0)) (λ i. get_or sizes i 0) (λ i. length_count (get_or starts i 0) (get_or sizes i 0)) m r o h l
    ∙ count_at (get_or starts r 0) (get_or sizes r 0) o l

-- ---- an arc at its spot

module _ {s ms us bs marks uses starts sizes : List ℕ} {p : Spot} (w : Spotted s ms us bs marks uses starts sizes p) where
  a : Arcs (net_of s) p.transition starts sizes
  a = w.opened.arcs

  here_all : get_elem? ((exported (net_of s)).inputs p.transition ++ (exported (net_of s)).outputs p.transition) (sizes_before sizes p.range + p.offset) ≡ some (get_or starts p.range 0 + p.offset)
  here_all =
      ap (λ (l : List ℕ). get_elem? l (sizes_before sizes p.range + p.offset)) (sym a.all)
      ∙ ranged_at starts sizes (8 * (net_of s).conditions) p.range p.offset w.here w.inside

  pub spot_kept : Kept starts p
  spot_kept =
      record {
        here = omega (arith, w.here, a.in_starts, w.opened.owned.laid.counted.marked.limits.few_conditions);
        low = a.low (get_or starts p.range 0 + p.offset)
            (in_mem (in_at (ranged starts sizes (8 * (net_of s).conditions)) (sizes_before sizes p.range + p.offset)
            (ranged_at starts sizes (8 * (net_of s).conditions) p.range p.offset w.here w.inside)));
      }

  link_into : p.range < 4 * (net_of s).conditions → get_elem? (arcs_of (exported (net_of s)) p.transition) (sizes_before sizes p.range + p.offset) ≡ some (Into (get_or starts p.range 0 + p.offset) p.transition)
  unfolding arcs_of
  link_into h =
      let k : ℕ = sizes_before sizes p.range + p.offset in
      let x : ℕ = get_or starts p.range 0 + p.offset in
      let ins : List ℕ = (exported (net_of s)).inputs p.transition in
      let q : get_elem? ins k ≡ some x = ap (λ (l : List ℕ). get_elem? l k) (sym a.into) ∙ ranged_at starts sizes (4 * (net_of s).conditions) p.range p.offset h w.inside in
      let mapped = at_map (λ (y : ℕ). Into y p.transition) ins k q in
      at_left (map (λ (y : ℕ). Into y p.transition) ins) (map (λ (y : ℕ). OutOf p.transition y) ((exported (net_of s)).outputs p.transition)) k
      (at_lt (map (λ (y : ℕ). Into y p.transition) ins) k mapped)
      ∙ mapped

  link_out : 4 * (net_of s).conditions ≤ p.range → get_elem? (arcs_of (exported (net_of s)) p.transition) (sizes_before sizes p.range + p.offset) ≡ some (OutOf p.transition (get_or starts p.range 0 + p.offset))
  unfolding arcs_of
  link_out h =
      let k : ℕ = sizes_before sizes p.range + p.offset in
      let x : ℕ = get_or starts p.range 0 + p.offset in
      let ins : List ℕ = (exported (net_of s)).inputs p.transition in
      let outs : List ℕ = (exported (net_of s)).outputs p.transition in
      let past : length ins ≤ k = omega (arith, sizes_into (net_of s) p.transition starts sizes a, sum_most (λ i. get_or sizes i 0) (4 * (net_of s).conditions) p.range h) in
      let rest : ℕ = k - length ins in
      let split : length ins + rest ≡ k = omega arith in
      let q : get_elem? outs rest ≡ some x = sym (at_right ins outs rest) ∙ ap (λ (i : ℕ). get_elem? (ins ++ outs) i) split ∙ here_all in
      let mapped = at_map (λ (y : ℕ). OutOf p.transition y) outs rest q in
      let long : length (map (λ (y : ℕ). Into y p.transition) ins) + rest ≡ k = ap (λ (i : ℕ). i + rest) (length-map ins (λ (y : ℕ). Into y p.transition)) ∙ split in
      ap (λ (i : ℕ). get_elem? (map (λ (y : ℕ). Into y p.transition) ins ++ map (λ (y : ℕ). OutOf p.transition y) outs) i) (sym long)
      ∙ at_right (map (λ (y : ℕ). Into y p.transition) ins) (map (λ (y : ℕ). OutOf p.transition y) outs) rest
      ∙ mapped

  here_link : (half : ℕ) → half ≡ 4 * (net_of s).conditions → get_elem? (arcs_of (exported (net_of s)) p.transition) (sizes_before sizes p.range + p.offset) ≡ some (link_at starts half p)
  here_link half e = go (dec_le half p.range)
    where
      go : Dec (half ≤ p.range) → get_elem? (arcs_of (exported (net_of s)) p.transition) (sizes_before sizes p.range + p.offset) ≡ some (link_at starts half p)
      go (yes h) = link_out (omega arith) ∙ rw (le-ltb p.range half h)
      go (no h) = let l : p.range < half = omega arith in link_into (omega arith) ∙ rw (lt-ltb p.range half l)

  -- among all arcs it stands at its number
  pub link_is : (half : ℕ) → half ≡ 4 * (net_of s).conditions → get_elem? (links (exported (net_of s))) p.number ≡ some (link_at starts half p)
  link_is half e =
      let o = w.opened in
      let k : ℕ = sizes_before sizes p.range + p.offset in
      let below : k < arcs_at (net_of s) p.transition = omega (arith, w.inside, sum_part (λ i. get_or sizes i 0) (8 * (net_of s).conditions) p.range w.here, sizes_whole (net_of s) p.transition starts sizes a) in
      let low : p.transition < (exported (net_of s)).transitions = omega (arith, o.told, owned_low o.owned, all_transitions (net_of s)) in
      let z : p.number ≡ sum (arcs_at (net_of s)) p.transition + k = omega (arith, w.counted, o.counted) in
      ap (λ (i : ℕ). get_elem? (links (exported (net_of s))) i) z
      ∙ base_at (arcs_of (exported (net_of s))) (arcs_at (net_of s)) (links_at (net_of s)) (exported (net_of s)).transitions p.transition k low below
      ∙ here_link half e

-- ---- the tokens at first

mem_shifted : (c b : ℕ) (l : List ℕ) → mem (c + b) (map (λ x. c + x) l) ≡ mem b l
mem_shifted c b [] = refl
mem_shifted c b (x ∷ l) = go (mem_shifted c b l) (dec_le b x) (dec_le x b)
  where
    go : mem (c + b) (map (λ y. c + y) l) ≡ mem b l → Dec (b ≤ x) → Dec (x ≤ b) → (eqb (c + b) (c + x) || mem (c + b) (map (λ y. c + y) l)) ≡ (eqb b x || mem b l)
    go ih (yes h) (yes k) = let z : b ≡ x = omega arith in rw (eq-eqb b x z, eq-eqb (c + b) (c + x) (ap (λ (y : ℕ). c + y) z))
    go ih (yes h) (no k) = rw (ne_eqb b x (λ z. omega arith), ne_eqb (c + b) (c + x) (λ z. omega arith)) ih
    go ih (no h) d = rw (ne_eqb b x (λ z. omega arith), ne_eqb (c + b) (c + x) (λ z. omega arith)) ih

none_below : (c x : ℕ) (l : List ℕ) → x < c → mem x (map (λ y. c + y) l) ≡ false
none_below c x [] h = refl
none_below c x (y ∷ l) h = rw (ne_eqb x (c + y) (λ z. omega arith)) (none_below c x l h)

module _ (n : Net) where
  first_held : (x : ℕ) → x < (basic n).conditions → mem x (exported n).initial ≡ mem x (basic n).start
  unfolding exported doubled
  first_held x h =
      mem_append x (basic n).start (map (second (basic n)) (without (count 0 (basic n).conditions) (basic n).start))
      ∙ rw (none_below (basic n).conditions x (without (count 0 (basic n).conditions) (basic n).start) h) (or_none (mem x (basic n).start))

  second_held : (b : ℕ) → b < (basic n).conditions → mem ((basic n).conditions + b) (exported n).initial ≡ not (mem b (basic n).start)
  unfolding exported doubled without
  second_held b h =
      let c : ℕ = (basic n).conditions in
      let later : mem (c + b) (basic n).start ≡ false = is_false (mem (c + b) (basic n).start) (λ t. let l = (basic_sound n).start_in (c + b) t in omega arith) in
      let there : mem b (count 0 c) ≡ true = is_true (mem b (count 0 c)) (in_mem (count_in_lem b 0 c (omega arith) (omega arith))) in
      mem_append (c + b) (basic n).start (map (second (basic n)) (without (count 0 c) (basic n).start))
      ∙ rw later
      (mem_shifted c b (without (count 0 c) (basic n).start) ∙ mem_keep (λ y. not (mem y (basic n).start)) b (count 0 c) ∙ rw there)

  -- bytes of the start tell of every place whether it holds a token
  pub held_is : (start : List ℕ) (c : ℕ) → c ≡ (basic n).conditions → ((b : ℕ) → b < c → get_or start b 0 ≡ bit (begin (basic n) b)) → (x : ℕ) → x < c + c
      → held_at start c x ≡ mem x (exported n).initial
  unfolding begin
  held_is start c q e x h = go (dec_le c x)
    where
      told : (b : ℕ) → b < c → eqb (get_or start b 0) 1 ≡ mem b (basic n).start
      told b l = ap (λ (y : ℕ). eqb y 1) (e b l) ∙ bit_one (mem b (basic n).start)

      go : Dec (c ≤ x) → held_at start c x ≡ mem x (exported n).initial
      go (yes k) =
          let z : (basic n).conditions + (x - c) ≡ x = omega arith in
          rw (le-ltb x c k) (ap not (told (x - c) (omega arith)) ∙ sym (second_held (x - c) (omega arith)) ∙ ap (λ (y : ℕ). mem y (exported n).initial) z)
      go (no k) =
          let l : x < c = omega arith in
          rw (lt-ltb x c l) (told x l ∙ sym (first_held x (omega arith)))
