-- The whole marking of the unfolding: what the bytes are once all is written, at the start, and after a run.
use Prim.Native.Nat.{ℕ, ◌+◌, ◌-◌, ◌≤◌, ◌<◌}
use native.Mathlib.Omega.{arith}
use native.Mathlib.Decide.{dec_le}
use native.Mathlib.Nat.{lt_of_not-le}
use mathlib.Core.Path.{◌≡◌, refl, sym, ◌∙◌, ap}
use mathlib.Core.Bool.{Bool, false}
use mathlib.Core.Option.{some}
use mathlib.Core.List.{List, ◌++◌}
use lib.Dec.{T, ltb}
use lib.ListN.{length, get_or, get_elem?, drop, length-map, length-append, length-drop, get_or-append}
use lib.Seq.{ext_get_or, get_or-append-add, get_or-drop}
use borrow.Author.Tests.{lt-ltb}
use Rattle.lists.specs.Lists.{mem}
use Rattle.lists.proofs.Bools.{T_of}
use Rattle.lists.proofs.Places.{at_some, at_get_d}
use Rattle.lists.proofs.Positions.{at_map}
use Rattle.model.specs.Net.{Net, Sound, Marking, begin}
use Rattle.model.specs.Lent.{bit, bytes}
use Rattle.model.specs.Runs.{runs, end, at_start, by_event}
use Rattle.model.specs.Unfolding.{UnfoldedCondition, ordinary, copy, unfolded_conditions, begins, basic}
use Rattle.model.specs.Across.{read_back}
use Rattle.model.specs.Demands.{holds_after}
use Rattle.model.proofs.Lent.{bytes_are}
use Rattle.model.proofs.Unfolded.{begins_at}
use Rattle.model.proofs.Demands.{unfolded_marking}
use Rattle.copies.specs.Copies.{holds_by, copies_of}
use Rattle.copies.specs.Writing.{Right, marked_below}
use Rattle.copies.proofs.Where.{copy_marker, event_marking}

-- ---- the bytes one by one

pub copies_length : (n : Net) (m : Marking) (seen : ℕ → Bool) → length (copies_of n m seen) ≡ (basic n).conditions
unfolding copies_of basic
copies_length n m seen = length-map (unfolded_conditions n) (λ p. bit (holds_by n m seen p))

pub copies_at : (n : Net) (m : Marking) (seen : ℕ → Bool) (k : ℕ) (p : UnfoldedCondition) → get_elem? (unfolded_conditions n) k ≡ some p → get_or (copies_of n m seen) k 0 ≡ bit (holds_by n m seen p)
unfolding copies_of
copies_at n m seen k p h = at_get_d (copies_of n m seen) k 0 (at_map (λ p. bit (holds_by n m seen p)) (unfolded_conditions n) k h)

-- the unfolded condition at a number
there : (n : Net) (k : ℕ) → k < (basic n).conditions → (p : UnfoldedCondition) × (get_elem? (unfolded_conditions n) k ≡ some p)
unfolding basic
there n k h = (get_or (unfolded_conditions n) k (ordinary 0), at_some (unfolded_conditions n) k (ordinary 0) h)

-- ---- all is written

pub right_all : (n : Net) (m : Marking) (seen : ℕ → Bool) (before after : List ℕ) → (basic n).conditions ≤ length before → Right n m seen (marked_below n.events) before after
    → after ≡ copies_of n m seen ++ drop (basic n).conditions before
unfolding basic
right_all n m seen before after room r =
    ext_get_or 0 after (copies_of n m seen ++ drop (basic n).conditions before)
    (r.same ∙ omega (arith, length-append (copies_of n m seen) (drop (basic n).conditions before), copies_length n m seen, length-drop (basic n).conditions before))
    (λ k l. go k (dec_le (basic n).conditions k))
  where
    every : (k : ℕ) (p : UnfoldedCondition) → get_elem? (unfolded_conditions n) k ≡ some p → T (marked_below n.events p)
    every k (ordinary b) h = tt
    every k (copy b at_start v) h = tt
    every k (copy b (by_event e) v) h = T_of (ltb e n.events) (lt-ltb e n.events (event_marking n k b e (copy_marker n k b (by_event e) v h)).0)

    go : (k : ℕ) → Dec ((basic n).conditions ≤ k) → get_or after k 0 ≡ get_or (copies_of n m seen ++ drop (basic n).conditions before) k 0
    go k (yes c) =
        let z : length (copies_of n m seen) + (k - (basic n).conditions) ≡ k = omega (arith, copies_length n m seen) in
        let y : (basic n).conditions + (k - (basic n).conditions) ≡ k = omega arith in
        r.rest k c ∙ sym (ap (λ (x : ℕ). get_or (copies_of n m seen ++ drop (basic n).conditions before) x 0) (sym z)
        ∙ get_or-append-add (copies_of n m seen) (drop (basic n).conditions before) (k - (basic n).conditions) 0
        ∙ get_or-drop (basic n).conditions before (k - (basic n).conditions) 0
        ∙ ap (λ (x : ℕ). get_or before x 0) y)
    go k (no c) =
        let x = there n k (lt_of_not-le c) in
        r.right k x.0 x.1 (every k x.0 x.1) ∙ sym (copies_at n m seen k x.0 x.1)
        ∙ sym (get_or-append (copies_of n m seen) (drop (basic n).conditions before) 0 k (omega (arith, copies_length n m seen, lt_of_not-le c)))

-- ---- what the bytes are

-- Bytes written from a marking of the table are those of a marking of the unfolding that tells the same of each unfolded condition.
pub copies_are : (n : Net) (m : Marking) (seen : ℕ → Bool) (u : Marking) → ((k : ℕ) (p : UnfoldedCondition) → get_elem? (unfolded_conditions n) k ≡ some p → u k ≡ holds_by n m seen p)
    → copies_of n m seen ≡ bytes (basic n).conditions u
copies_are n m seen u h =
    bytes_are (copies_of n m seen) (basic n).conditions u (copies_length n m seen)
    (λ k l. let x = there n k l in copies_at n m seen k x.0 x.1 ∙ ap bit (sym (h k x.0 x.1)))

-- At the start of the table the bytes are the start of the unfolding.
pub copies_begin : (n : Net) → copies_of n (begin n) (λ e. false) ≡ bytes (basic n).conditions (begin (basic n))
unfolding holds_by begins begin
copies_begin n = copies_are n (begin n) (λ e. false) (begin (basic n)) (λ k p h. begins_at n k p h ∙ go p)
  where
    go : (p : UnfoldedCondition) → begins n p ≡ holds_by n (begin n) (λ e. false) p
    go (ordinary b) = refl
    go (copy b at_start v) = refl
    go (copy b (by_event e) v) = refl

-- After a run of the unfolding that reads back as a run of the table, the bytes are the end of the unfolded run.
pub copies_end : (n : Net) → Sound n → (w r : List ℕ) → T (runs (basic n) (begin (basic n)) w) → read_back n w ≡ r
    → copies_of n (end n (begin n) r) (λ e. mem e r) ≡ bytes (basic n).conditions (end (basic n) (begin (basic n)) w)
unfolding holds_by holds_after
copies_end n d w r t q =
    copies_are n (end n (begin n) r) (λ e. mem e r) (end (basic n) (begin (basic n)) w)
    (λ k p h. unfolded_marking n d w t k p h ∙ ap (λ (x : List ℕ). holds_after n x p) q ∙ go p)
  where
    go : (p : UnfoldedCondition) → holds_after n r p ≡ holds_by n (end n (begin n) r) (λ e. mem e r) p
    go (ordinary b) = refl
    go (copy b at_start v) = refl
    go (copy b (by_event e) v) = refl
