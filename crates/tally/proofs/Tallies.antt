-- One event more of those that have a condition in a list: how the count, the place and the n-th of them go on.
use Prim.Native.Nat.{ℕ, zero, suc, ◌+◌, ◌-◌, ◌≤◌, ◌<◌}
use native.Mathlib.Omega.{arith}
use native.Mathlib.Numerals.{add-one, sub-one}
use native.Mathlib.Decide.{dec_le}
use native.Mathlib.Nat.{zero-add}
use mathlib.Core.Path.{◌≡◌, refl, ap, ◌∙◌}
use mathlib.Core.List.{List, [], ◌∷◌}
use mathlib.Core.Bool.{Bool, true, false, cond}
use lib.Dec.{T, eqb, eqb→eq}
use lib.ListN.{length, get_or, length-append, get_or-eq_default}
use borrow.Author.Tests.{eq-eqb, ne_eqb}
use Rattle.lists.specs.Lists.{mem, all, index, keep, count}
use Rattle.lists.proofs.Bools.{and_left, and_right}
use Rattle.lists.proofs.Positions.{count_split}
use Rattle.lists.proofs.Members.{keep_append}
use Rattle.model.specs.Net.{Net}
use Rattle.words.specs.Words.{words}
use Rattle.table.specs.Decoded.{net_of}
use Rattle.table.specs.Walk.{offset_of}
use Rattle.tally.specs.Having.{list_of, list_part, having_from, having, raised, Room, Listed, Members, Tally}
use Rattle.tally.proofs.Lists.{one, raised_length, raised_at, words_long, ascending_short}
use Rattle.tally.proofs.Events.{within_limits, list_read, list_ascends, list_inside}

-- ---- what is kept, from the end

pub keep_more : (t : ℕ → Bool) (k : ℕ) → length (keep t (count 0 (k + 1))) ≡ length (keep t (count 0 k)) + one (t k)
keep_more t k =
    ap (λ (l : List ℕ). length (keep t l)) (rw zero-add at (count_split 0 k 1))
    ∙ ap (λ (l : List ℕ). length l) (keep_append t (count 0 k) (k ∷ []))
    ∙ length-append (keep t (count 0 k)) (keep t (k ∷ []))
    ∙ ap (λ (x : ℕ). length (keep t (count 0 k)) + x) (go (t k))
  where
    go : (c : Bool) → length (cond c (k ∷ []) []) ≡ one c
    go true = refl
    go false = refl

pub keep_few : (t : ℕ → Bool) (i k : ℕ) → length (keep t (count i k)) ≤ k
keep_few t i zero = omega arith
keep_few t i (suc k) = go (t i) (keep_few t (suc i) k)
  where
    go : (c : Bool) → length (keep t (count (suc i) k)) ≤ k → length (cond c (i ∷ keep t (count (suc i) k)) (keep t (count (suc i) k))) ≤ suc k
    go true h = omega arith
    go false h = omega arith

-- ---- the tally

module _ (s : List ℕ) (post : Bool) (first k : ℕ) (counts : List ℕ) (small : first ≤ 1) (h : k < (net_of s).events) (t : Tally (net_of s) post first k counts) where
  low : (b : ℕ) → get_or counts b 0 ≤ 1000
  low b = go (dec_le 256 b)
    where
      go : Dec (256 ≤ b) → get_or counts b 0 ≤ 1000
      go (yes g) = rw (get_or-eq_default counts 0 {n = b} (omega (arith, t.size))) (omega arith)
      go (no g) =
          omega (arith, t.at b (omega arith), keep_few (λ e. mem b (list_of (net_of s) post e)) 0 k, (within_limits s k h).few_events)

  inside : (b : ℕ) → T (mem b (list_of (net_of s) post k)) → b < length counts
  inside b m = omega (arith, t.size, list_inside s k h post b m)

  short : length (list_part post s (offset_of s k)) ≤ 513
  short =
      let l = list_of (net_of s) post k in
      omega (arith, words_long (list_part post s (offset_of s k)), ap (λ (l : List ℕ). length l) (list_read s k h post), ascending_short 256 0 l (omega arith) (list_ascends s k h post) (list_inside s k h post))

  pub tally_room : (at : ℕ) (l : List ℕ) → at ≡ offset_of s k → l ≡ list_part post s at → Room counts l
  tally_room at l q e = rw (e, q) (record { inside = λ b m. inside b (rw (list_read s k h post) at m); low = low; few = short })

  pub tally_next : (at : ℕ) (l : List ℕ) → at ≡ offset_of s k → l ≡ list_part post s at → Tally (net_of s) post first (k + 1) (raised counts (words l))
  tally_next at l q e =
      rw (e, q, list_read s k h post)
      (record {
        size = raised_length counts (list_of (net_of s) post k) ∙ t.size;
        at = λ b l. omega (arith, raised_at 0 counts (list_of (net_of s) post k) (list_ascends s k h post) inside b, t.at b l, keep_more (λ e. mem b (list_of (net_of s) post e)) k);
      })

-- ---- the members of a list

all_zero : (l : List ℕ) → T (all (λ x. eqb x 0) l) → (b : ℕ) → get_or l b 0 ≡ 0
all_zero [] t b = refl
all_zero (x ∷ l) t zero = eqb→eq x 0 (and_left (eqb x 0) (all (λ x. eqb x 0) l) t)
all_zero (x ∷ l) t (suc b) = all_zero l (and_right (eqb x 0) (all (λ x. eqb x 0) l) t) b

module _ (list zs : List ℕ) (l : Listed list) (size : length zs ≡ 256) (t : T (all (λ x. eqb x 0) zs)) where
  pub members_room : Room zs list
  members_room =
      record {
        inside = λ b m. omega (arith, l.inside b m);
        low = λ b. omega (arith, all_zero zs t b);
        few = omega (arith, words_long list, ascending_short 256 0 (words list) (omega arith) l.ascends l.inside);
      }

  pub members_one : (counts : List ℕ) → counts ≡ raised zs (words list) → Members (words list) counts
  members_one counts e b =
      let x : get_or (raised zs (words list)) b 0 ≡ one (mem b (words list))
      = omega (arith, raised_at 0 zs (words list) l.ascends (λ y m. omega (arith, l.inside y m)) b, all_zero zs t b) in
      rw (e, x) (go (mem b (words list)))
    where
      go : (t : Bool) → eqb (one t) 1 ≡ t
      go true = refl
      go false = refl

-- ---- the n-th and the place, at event i of so many

pub having_all : (n : Net) (post : Bool) (b upto : ℕ) → having_from n post b 0 (upto - 0) ≡ having n post b upto
having_all n post b upto =
    let z : upto - 0 ≡ upto = omega arith in
    rw z

module _ (n : Net) (post : Bool) (b i upto : ℕ) (h : i < upto) where
  left : upto - i ≡ suc (upto - (i + 1))
  left = omega arith

  having_here : mem b (list_of n post i) ≡ true → having_from n post b i (upto - i) ≡ i ∷ having_from n post b (i + 1) (upto - (i + 1))
  having_here m = rw (left, m, add-one)

  having_later : mem b (list_of n post i) ≡ false → having_from n post b i (upto - i) ≡ having_from n post b (i + 1) (upto - (i + 1))
  having_later m = rw (left, m, add-one)

  pub nth_here : mem b (list_of n post i) ≡ true → (k : ℕ) → k ≡ 0 → get_or (having_from n post b i (upto - i)) k 0 ≡ i
  nth_here m k z = rw (having_here m, z)

  pub nth_later : mem b (list_of n post i) ≡ true → (k : ℕ) → (k ≡ 0 → ⊥)
      → get_or (having_from n post b i (upto - i)) k 0 ≡ get_or (having_from n post b (i + 1) (upto - (i + 1))) (k - 1) 0
  nth_later m zero z = absurd (z refl)
  nth_later m (suc k) z = rw (having_here m, sub-one)

  pub place_here : mem b (list_of n post i) ≡ true → (e : ℕ) → e ≡ i → index (eqb e) (having_from n post b i (upto - i)) ≡ 0
  place_here m e z = rw (having_here m, eq-eqb e i z)

  pub place_later : mem b (list_of n post i) ≡ true → (e : ℕ) → (e ≡ i → ⊥)
      → index (eqb e) (having_from n post b i (upto - i)) ≡ suc (index (eqb e) (having_from n post b (i + 1) (upto - (i + 1))))
  place_later m e z = rw (having_here m, ne_eqb e i z)

  -- an event that does not have it is passed over
  pub nth_past : mem b (list_of n post i) ≡ false → (k : ℕ)
      → get_or (having_from n post b i (upto - i)) k 0 ≡ get_or (having_from n post b (i + 1) (upto - (i + 1))) k 0
  nth_past m k = rw (having_later m)

  pub place_past : mem b (list_of n post i) ≡ false → (e : ℕ)
      → index (eqb e) (having_from n post b i (upto - i)) ≡ index (eqb e) (having_from n post b (i + 1) (upto - (i + 1)))
  place_past m e = rw (having_later m)

pub having_end : (n : Net) (post : Bool) (b i upto : ℕ) → upto ≤ i → having_from n post b i (upto - i) ≡ []
having_end n post b i upto h =
    let z : upto - i ≡ 0 = omega arith in
    rw z
