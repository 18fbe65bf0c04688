-- The places of first markers, counted event by event.
use Prim.Native.Nat.{ℕ, zero, suc, ◌+◌, ◌-◌, ◌≤◌, ◌<◌}
use native.Mathlib.Omega.{arith}
use native.Mathlib.Decide.{dec_le, ℕ_discrete}
use mathlib.Core.Path.{◌≡◌, refl, sym, ap, ◌∙◌, subst}
use mathlib.Core.Bool.{Bool, true, false, ◌&&◌, ◌||◌, and-false, cond}
use mathlib.Core.Option.{Option, none, some}
use mathlib.Core.List.Memᴰ
use mathlib.Core.List.{List, [], ◌∷◌, map}
use mathlib.Core.Logic.{◌⊎◌, inl, inr}
use lib.Dec.{T, eqb, eqb_refl, leb, ltb}
use lib.ListN.{length, get_or, set, length-set, get_or-eq_default}
use lib.Seq.{get_or-set_same, get_or-set_other}
use borrow.Author.Tests.{eq-eqb, ne_eqb, lt-ltb, le-ltb}
use Rattle.lists.specs.Lists.{mem, ascending_from, index, keep, count, ◌∈◌}
use Rattle.lists.proofs.Bools.{or_left, or_right, is_true, is_false, and_right}
use Rattle.lists.proofs.Members.{mem_in, keep_out, count_out}
use Rattle.lists.proofs.Distinct.{ascending_least}
use Rattle.words.specs.Words.{words}
use Rattle.model.specs.Net.{Net}
use Rattle.model.specs.Runs.{Marker, at_start, by_event}
use Rattle.model.specs.Unfolding.{same_marker, markers}
use Rattle.model.specs.Across.{or_start}
use Rattle.table.specs.Walk.{offset_of}
use Rattle.table.specs.Decoded.{net_of}
use Rattle.tally.specs.Having.{list_part, Room}
use Rattle.tally.proofs.Lists.{one, words_long, ascending_short}
use Rattle.tally.proofs.Tallies.{keep_more, keep_few}
use Rattle.tally.proofs.Events.{within_limits, list_read, list_ascends, list_inside}
use Rattle.layout.specs.Laid.{Low}
use Rattle.unfolding.proofs.Places.{place_event, place_start}
use Rattle.firsts.specs.Firsts.{Slot, first_at}
use Rattle.places.specs.Places.{place_begun, place_more, placed_all, Begun, Marking, Placed}

-- ---- one list of conditions

more_few : (o : Option Marker) (e : ℕ) → place_more o e ≤ 1
more_few none e = omega arith
more_few (some at_start) e = omega arith
more_few (some (by_event x)) e = go (ltb e x)
  where
    go : (t : Bool) → cond t 1 0 ≤ 1
    go true = omega arith
    go false = omega arith

-- what a list adds to the place of one condition
abbrev adds : Bool → ℕ → ℕ
adds true k = k
adds false k = 0

pub placed_length : (slots : List Slot) (e : ℕ) (places l : List ℕ) → length (placed_all slots e places l) ≡ length places
unfolding placed_all
placed_length slots e places [] = refl
placed_length slots e places (b ∷ l) =
    let k = get_or places b 0 + place_more (first_at slots b) e in
    placed_length slots e (set places b k) l ∙ length-set places b k

placed_at : (slots : List Slot) (e k : ℕ) (places l : List ℕ) → T (ascending_from k l) → ((b : ℕ) → T (mem b l) → b < length places) → (b : ℕ)
    → get_or (placed_all slots e places l) b 0 ≡ get_or places b 0 + adds (mem b l) (place_more (first_at slots b) e)
unfolding placed_all
placed_at slots e k places [] a f b = omega arith
placed_at slots e k places (x ∷ l) a f b =
    go (ℕ_discrete b x)
    (placed_at slots e (suc x) (set places x v) l (and_right (leb k x) (ascending_from (suc x) l) a)
    (λ y t. rw (length-set places x v) (f y (or_right (eqb y x) (mem y l) t))) b)
  where
    v : ℕ
    v = get_or places x 0 + place_more (first_at slots x) e

    low : x < length places
    low = f x (or_left (eqb x x) (mem x l) (eqb_refl x))

    past : mem x l ≡ false
    past = is_false (mem x l) (λ t. let z = ascending_least (suc x) l (and_right (leb k x) (ascending_from (suc x) l) a) x (mem_in x l t) in omega arith)

    go : Dec (b ≡ x) → get_or (placed_all slots e (set places x v) l) b 0 ≡ get_or (set places x v) b 0 + adds (mem b l) (place_more (first_at slots b) e)
        → get_or (placed_all slots e (set places x v) l) b 0 ≡ get_or places b 0 + adds (eqb b x || mem b l) (place_more (first_at slots b) e)
    go (yes z) ih = ih ∙ rw (z, eq-eqb x x refl, past, get_or-set_same places x v 0 low) (omega arith)
    go (no z) ih = ih ∙ rw (ne_eqb b x z, get_or-set_other places x b v 0 z)

-- ---- one number at a time

pub more_low : (places : List ℕ) (i m k : ℕ) → m ≤ 1 → ((b : ℕ) → get_or places b 0 ≤ k) → (b : ℕ) → get_or (set places i (get_or places i 0 + m)) b 0 ≤ k + 1
more_low places i m k s h b = go (ℕ_discrete b i) (dec_le (length places) i)
  where
    go : Dec (b ≡ i) → Dec (length places ≤ i) → get_or (set places i (get_or places i 0 + m)) b 0 ≤ k + 1
    go (no z) d = rw (get_or-set_other places i b (get_or places i 0 + m) 0 z) (omega (arith, h b))
    go (yes z) (no d) = rw (z, get_or-set_same places i (get_or places i 0 + m) 0 (omega (arith, d))) (omega (arith, h i))
    go (yes z) (yes d) = rw (get_or-eq_default (set places i (get_or places i 0 + m)) 0 {n = b} (omega (arith, length-set places i (get_or places i 0 + m), z))) (omega arith)

pub more_one : (o : Option Marker) (e : ℕ) {r : ℕ} → r ≡ place_more o e → r ≤ 1
more_one o e q = omega (arith, q, more_few o e)

-- what is left of a list, of which w is the first number
module _ (w : ℕ) (rest left : List ℕ) (first : left ≡ w ∷ rest) where
  pub more_first : (places : List ℕ) (m k : ℕ) → m ≤ 1 → ((b : ℕ) → get_or places b 0 + length left ≤ k)
      → (b : ℕ) → get_or (set places w (get_or places w 0 + m)) b 0 + length rest ≤ k
  more_first places m k s h b =
      let long : length left ≡ length rest + 1 = ap length first ∙ omega arith in
      omega (arith, h b, more_low places w m (k - length left) s (λ x. omega (arith, h x)) b)

  pub placed_first : (slots : List Slot) (e : ℕ) (places : List ℕ) {m : ℕ} → m ≡ place_more (first_at slots w) e
      → placed_all slots e (set places w (get_or places w 0 + m)) rest ≡ placed_all slots e places left
  unfolding placed_all
  placed_first slots e places q = rw (first, q)

pub placed_none : (slots : List Slot) (e : ℕ) (places left : List ℕ) → left ≡ [] → placed_all slots e places left ≡ places
unfolding placed_all
placed_none slots e places left q = rw q

-- ---- the events so far

-- the place of a first marker, counted among the first k events
unfoldable pub place_up_to : Net → Option Marker → ℕ → ℕ → ℕ
place_up_to n none b k = 0
place_up_to n (some at_start) b k = 0
place_up_to n (some (by_event x)) b k = 1 + length (keep (λ e. mem b (n.postconditions e) && ltb e x) (count 0 k))

up_none : (n : Net) (o : Option Marker) (b : ℕ) → place_begun o ≡ place_up_to n o b 0
unfolding place_up_to
up_none n none b = refl
up_none n (some at_start) b = refl
up_none n (some (by_event x)) b = refl

up_more : (n : Net) (o : Option Marker) (b k : ℕ) → place_up_to n o b (k + 1) ≡ place_up_to n o b k + adds (mem b (n.postconditions k)) (place_more o k)
unfolding place_up_to
up_more n none b k = go (mem b (n.postconditions k))
  where
    go : (t : Bool) → 0 ≡ 0 + adds t 0
    go true = refl
    go false = refl
up_more n (some at_start) b k = go (mem b (n.postconditions k))
  where
    go : (t : Bool) → 0 ≡ 0 + adds t 0
    go true = refl
    go false = refl
up_more n (some (by_event x)) b k =
    let t : ℕ → Bool = λ e. mem b (n.postconditions e) && ltb e x in
    omega (arith, keep_more t k, go (mem b (n.postconditions k)) (ltb k x))
  where
    go : (t u : Bool) → one (t && u) ≡ adds t (cond u 1 0)
    go true true = refl
    go true false = refl
    go false true = refl
    go false false = refl

up_few : (n : Net) (o : Option Marker) (b k : ℕ) → place_up_to n o b k ≤ 1 + k
unfolding place_up_to
up_few n none b k = omega arith
up_few n (some at_start) b k = omega arith
up_few n (some (by_event x)) b k = omega (arith, keep_few (λ e. mem b (n.postconditions e) && ltb e x) 0 k)

-- ---- the walk

pub record Counting (n : Net) (slots : List Slot) (k : ℕ) (places : List ℕ) : Type 0 where
  pub size : length places ≡ 256
  pub each : (b : ℕ) → b < 256 → get_or places b 0 ≡ place_up_to n (first_at slots b) b k

pub counting_none : (n : Net) (slots : List Slot) (places : List ℕ) → Begun slots places → Counting n slots 0 places
counting_none n slots places g = record { size = g.size; each = λ b h. g.each b h ∙ up_none n (first_at slots b) b }

counting_low : (n : Net) (slots : List Slot) (k : ℕ) (places : List ℕ) → k ≤ 256 → Counting n slots k places → Low places
counting_low n slots k places h g b = go (dec_le 256 b)
  where
    go : Dec (256 ≤ b) → get_or places b 0 ≤ 1000
    go (yes z) = rw (get_or-eq_default places 0 {n = b} (omega (arith, g.size))) (omega arith)
    go (no z) = omega (arith, g.each b (omega arith), up_few n (first_at slots b) b k)

module _ (s : List ℕ) (slots : List Slot) (k : ℕ) (places : List ℕ) (h : k < (net_of s).events) (g : Counting (net_of s) slots k places) (at : ℕ) (q : at ≡ offset_of s k) (l : List ℕ) (p : l ≡ list_part true s at) where
  post_is : words l ≡ (net_of s).postconditions k
  post_is = rw (p, q) (list_read s k h true)

  inside : (b : ℕ) → T (mem b ((net_of s).postconditions k)) → b < length places
  inside b t = omega (arith, g.size, list_inside s k h true b t)

  pub counting_room : Room places l
  counting_room =
      record {
        inside = λ b t. inside b (rw post_is at t);
        low = counting_low (net_of s) slots k places (omega (arith, (within_limits s k h).few_events)) g;
        few = omega (arith, words_long l, ap (λ (x : List ℕ). length x) post_is, ascending_short 256 0 ((net_of s).postconditions k) (omega arith) (list_ascends s k h true) (list_inside s k h true));
      }

  pub counting_next : Counting (net_of s) slots (k + 1) (placed_all slots k places (words l))
  counting_next =
      rw post_is
      (record {
        size = placed_length slots k places ((net_of s).postconditions k) ∙ g.size;
        each = λ b t. placed_at slots k 0 places ((net_of s).postconditions k) (list_ascends s k h true) inside b
            ∙ ap (λ (x : ℕ). x + adds (mem b ((net_of s).postconditions k)) (place_more (first_at slots b) k)) (g.each b t)
            ∙ sym (up_more (net_of s) (first_at slots b) b k);
      })

-- ---- the place

-- among numbers that ascend, the place of one is how many stand before it
none_before : (t : ℕ → Bool) (x i k : ℕ) → x ≤ i → length (keep (λ e. t e && ltb e x) (count i k)) ≡ 0
none_before t x i zero h = refl
none_before t x i (suc k) h = rw (le-ltb i x h, and-false) (none_before t x (suc i) k (omega arith))

before_place : (t : ℕ → Bool) (x i k : ℕ) → i ≤ x → x < i + k → t x ≡ true → length (keep (λ e. t e && ltb e x) (count i k)) ≡ index (eqb x) (keep t (count i k))
before_place t x i zero h l p = absurd (omega arith)
before_place t x i (suc k) h l p = go (ℕ_discrete x i) (t i) refl (λ g. before_place t x (suc i) k g (omega arith) p)
  where
    go : Dec (x ≡ i) → (u : Bool) → t i ≡ u → (suc i ≤ x → length (keep (λ e. t e && ltb e x) (count (suc i) k)) ≡ index (eqb x) (keep t (count (suc i) k)))
        → length (cond (u && ltb i x) (i ∷ keep (λ e. t e && ltb e x) (count (suc i) k)) (keep (λ e. t e && ltb e x) (count (suc i) k))) ≡ index (eqb x) (cond u (i ∷ keep t (count (suc i) k)) (keep t (count (suc i) k)))
    go (yes z) true e ih = rw (le-ltb i x (omega arith), eq-eqb x i z) (none_before t x (suc i) k (omega arith))
    go (yes z) false e ih = absurd (let y : true ≡ false = sym p ∙ ap t z ∙ e in let w : ◌≡◌ {A = ℕ} 0 1 = cc in omega arith)
    go (no z) true e ih = rw (lt-ltb i x (omega (arith, z)), ne_eqb x i z) (ap suc (ih (omega (arith, z))))
    go (no z) false e ih = ih (omega (arith, z))

place_is : (n : Net) (o : Option Marker) (b : ℕ) → or_start o ∈ markers n b → place_up_to n o b n.events ≡ index (same_marker (or_start o)) (markers n b)
unfolding place_up_to markers
place_is n none b i = sym (place_start n b)
place_is n (some at_start) b i = sym (place_start n b)
place_is n (some (by_event x)) b i = go (Memᴰ.cases_cons i)
  where
    go : (by_event x ≡ at_start) ⊎ (by_event x ∈ map by_event (keep (λ e. mem b (n.postconditions e)) (count 0 n.events)))
        → 1 + length (keep (λ e. mem b (n.postconditions e) && ltb e x) (count 0 n.events)) ≡ index (same_marker (by_event x)) (markers n b)
    go (inl z) = absurd (let w : ◌≡◌ {A = ℕ} 0 1 = cc in omega arith)
    go (inr m) =
        let r = Memᴰ.of_map by_event (keep (λ e. mem b (n.postconditions e)) (count 0 n.events)) m in
        let z : r.0 ≡ x = let w = r.2 in cc in
        let k = keep_out (λ e. mem b (n.postconditions e)) (count 0 n.events) r.1 in
        let c = count_out r.0 0 n.events k.0 in
        let t : mem b (n.postconditions x) ≡ true = is_true (mem b (n.postconditions x)) (subst (λ (y : ℕ). T (mem b (n.postconditions y))) z k.1) in
        omega (arith, before_place (λ e. mem b (n.postconditions e)) x 0 n.events (omega arith) (omega (arith, z)) t, place_event n b x n.events refl)

pub counting_end : (n : Net) (slots : List Slot) (k : ℕ) (places : List ℕ) → k ≡ n.events → n.events ≤ 256 → Marking n slots → Counting n slots k places → Placed n slots places
counting_end n slots k places q f m g =
    record {
      size = g.size;
      low = counting_low n slots k places (omega arith) g;
      each = λ b h p. g.each b h ∙ ap (λ (x : ℕ). place_up_to n (first_at slots b) b x) q ∙ place_is n (first_at slots b) b (m b h p);
    }
