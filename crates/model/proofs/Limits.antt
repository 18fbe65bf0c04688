-- Refusals 13 and 14: given exactly if an event touches nothing once unfolded, at the lowest such event, or a count passes its
-- limit.
use mathlib.Core.Path.{◌≡◌, refl, sym, ap, subst}
use mathlib.Core.Bool.{Bool, true, false, not}
use mathlib.Core.Logic.{◌↔◌}
use mathlib.Core.Option.{Option, none, some}
use mathlib.Core.List.{List, [], ◌∷◌, map}
use Prim.Native.Nat.{ℕ, ◌≤◌, ◌<◌, zero-le}
use borrow.Author.Tests.{le-leb, leb-true}
use lib.Dec.{T, ltb, lt→ltb, leb}
use lib.ListN.{length}
use native.Mathlib.Decide.{dec_le}
use native.Mathlib.Omega.{arith}
use Rattle.lists.specs.Lists.{ascending, nothing, count}
use Rattle.lists.proofs.Bools.{is_true, T_of, not-true, not_out, not_in, not_not, and_left, and_right, and_both}
use Rattle.lists.proofs.Members.{mem_in, in_mem, count_in_lem, count_out}
use Rattle.lists.proofs.Tests.{failing_at}
use Rattle.lists.proofs.Places.{at_lt, at_get_d}
use Rattle.lists.proofs.Distinct.{count_ascends}
use Rattle.lists.proofs.Lowest.{failing_lowest, lowest_failing}
use Rattle.model.specs.Net.{Net, Sound}
use Rattle.model.specs.Runs.{at_start}
use Rattle.model.specs.Unfolding.{markers, UnfoldedEvent, reads, unfolded_events, origin, basic, idle}
use Rattle.model.specs.Numbering.{number, condition_count, event_count}
use Rattle.model.specs.Across.{other, most_unfolded, within, lowest_idle, idle_or_over, unfolding_refused}
use Rattle.model.proofs.Unfolded.{Each, start_marks, event_in}
use Rattle.model.proofs.Numbers.{number_at}
use Rattle.model.proofs.Counts.{count_events, count_conditions}
use Rattle.model.proofs.Idle.{idle_exactly}

-- ---- which event is meant

-- event e touches nothing once unfolded, and no event below it does
pub record Idlest (n : Net) (e : ℕ) : Type 0 where
  pub event : e < n.events
  pub idle_here : T (idle n e)
  pub lowest : (f : ℕ) → f < e → T (idle n f) → ⊥

module _ (n : Net) where
  abbrev touching : ℕ → Bool
  touching e = not (idle n e)

  all_events : T (ascending (count 0 n.events))
  all_events = count_ascends 0 n.events

  lowest_found : (e : ℕ) → lowest_idle n ≡ some e → Idlest n e
  unfolding lowest_idle
  lowest_found e h =
      let l = failing_lowest touching (count 0 n.events) all_events e h in
      let r = count_out e 0 n.events (mem_in e (count 0 n.events) l.inside) in
      record {
        event = omega arith;
        idle_here = not_not (idle n e) (λ f. not-true (touching e) l.fails (not_in (idle n e) f));
        lowest = λ f h t. let low = l.least f (in_mem (count_in_lem f 0 n.events zero-le (omega arith))) (ap not (is_true (idle n f) t)) in omega arith;
      }

  found_lowest : (e : ℕ) → Idlest n e → lowest_idle n ≡ some e
  unfolding lowest_idle
  found_lowest e i =
      lowest_failing touching (count 0 n.events) all_events e
      (record {
        inside = in_mem (count_in_lem e 0 n.events zero-le (omega (arith, i.event)));
        fails = ap not (is_true (idle n e) i.idle_here);
        least = λ f t q. not_below f q (dec_le e f);
      })
    where
      not_below : (f : ℕ) → touching f ≡ false → Dec (e ≤ f) → e ≤ f
      not_below f q (yes h) = h
      not_below f q (no h) = absurd (i.lowest f (omega arith) (not_not (idle n f) (λ g. not-true (touching f) q (not_in (idle n f) g))))

  -- each event touches something once unfolded
  abbrev pub Touching : Type 0
  Touching = (e : ℕ) → e < n.events → T (idle n e) → ⊥

  none_found : lowest_idle n ≡ none → Touching
  unfolding lowest_idle
  none_found q e h t =
      not_out (idle n e)
      (failing_at touching (count 0 n.events) (subst (λ (o : Option ℕ). T (nothing o)) (sym q) tt) e (in_mem (count_in_lem e 0 n.events zero-le (omega arith)))) t

  found_none : Touching → lowest_idle n ≡ none
  found_none h = go (lowest_idle n) refl
    where
      go : (o : Option ℕ) → lowest_idle n ≡ o → o ≡ none
      go none q = refl
      go (some x) q = let i = lowest_found x q in absurd (h x i.event i.idle_here)

  -- 13 is given exactly at the lowest event that touches nothing.
  pub refused_13 : (e : ℕ) → (unfolding_refused n ≡ some (other 13 e)) ↔ Idlest n e
  unfolding unfolding_refused
  refused_13 e = (λ h. lowest_found e (told (lowest_idle n) (within n) h), λ i. rw (found_lowest e i))
    where
      told : (o : Option ℕ) (b : Bool) → idle_or_over o b ≡ some (other 13 e) → o ≡ some e
      told (some x) b h = let z : x ≡ e = cc in ap some z
      told none true h = absurd (let z : ◌≡◌ {A = ℕ} 0 1 = cc in omega arith)
      told none false h = absurd (let z : ◌≡◌ {A = ℕ} 14 13 = cc in omega arith)

  -- 14 is given exactly if each event touches something and a count passes its limit.
  pub refused_14 : (unfolding_refused n ≡ some (other 14 0)) ↔ (Touching × (within n ≡ false))
  unfolding unfolding_refused
  refused_14 = (λ h. let r = told (lowest_idle n) (within n) h in (none_found r.0, r.1), λ h. rw (found_none h.0, h.1))
    where
      told : (o : Option ℕ) (b : Bool) → idle_or_over o b ≡ some (other 14 0) → (o ≡ none) × (b ≡ false)
      told (some x) b h = absurd (let z : ◌≡◌ {A = ℕ} 13 14 = cc in omega arith)
      told none true h = absurd (let z : ◌≡◌ {A = ℕ} 0 1 = cc in omega arith)
      told none false h = (refl, refl)

  -- A table unfolds exactly if each of its events touches something and both counts are within the limits.
  pub unfolds_exactly : (unfolding_refused n ≡ none) ↔ (Touching × T (within n))
  unfolding unfolding_refused
  unfolds_exactly = (
    λ h. let r = told (lowest_idle n) (within n) h in (none_found r.0, T_of (within n) r.1),
    λ h. rw (found_none h.0, is_true (within n) h.1),
  )
    where
      told : (o : Option ℕ) (b : Bool) → idle_or_over o b ≡ none → (o ≡ none) × (b ≡ true)
      told (some x) b h = absurd (let z : ◌≡◌ {A = ℕ} 0 1 = cc in omega arith)
      told none true h = (refl, refl)
      told none false h = absurd (let z : ◌≡◌ {A = ℕ} 0 1 = cc in omega arith)

-- The counts are those of the unfolded net.
pub within_exactly : (n : Net) → T (within n) ↔ (((basic n).conditions ≤ most_unfolded) × ((basic n).events ≤ most_unfolded))
unfolding within basic
within_exactly n = (
  λ t. (
    rw (count_conditions n) (leb-true (condition_count n) most_unfolded (is_true (leb (condition_count n) most_unfolded) (and_left (leb (condition_count n) most_unfolded) (leb (event_count n) most_unfolded) t))),
    rw (count_events n) (leb-true (event_count n) most_unfolded (is_true (leb (event_count n) most_unfolded) (and_right (leb (condition_count n) most_unfolded) (leb (event_count n) most_unfolded) t))),
  ),
  λ h.
      and_both (leb (condition_count n) most_unfolded) (leb (event_count n) most_unfolded)
      (T_of (leb (condition_count n) most_unfolded) (le-leb (condition_count n) most_unfolded (rw (count_conditions n) at h.0)))
      (T_of (leb (event_count n) most_unfolded) (le-leb (event_count n) most_unfolded (rw (count_events n) at h.1))),
)

-- ---- every event has an unfolded event, so that idle events are told by the lists of the unfolded net

pub some_colour : (n : Net) (e : ℕ) → e < n.events → (j : ℕ) × T (ltb j (basic n).events) × ((origin n j).event ≡ e)
unfolding basic origin
some_colour n e h =
    let x : UnfoldedEvent = record { event = e; colour = map (λ b. at_start) (reads n e) } in
    let at = number_at n x (event_in n x h (starts (reads n e))) in
    let j = number n x in
    (j, lt→ltb j (length (unfolded_events n)) (at_lt (unfolded_events n) j at), ap (λ (y : UnfoldedEvent). y.event) (at_get_d (unfolded_events n) j (record { event = 0; colour = [] }) at))
  where
    starts : (bs : List ℕ) → Each (map (λ b. at_start) bs) (map (markers n) bs)
    starts [] = tt
    starts (b ∷ bs) = (start_marks n b, starts bs)

-- An event is idle exactly if its unfolded events have both lists empty.
pub idle_unfolded : (n : Net) → Sound n → (e : ℕ) → e < n.events
    → T (idle n e) ↔ ((j : ℕ) → T (ltb j (basic n).events) → (origin n j).event ≡ e → ((basic n).preconditions j ≡ []) × ((basic n).postconditions j ≡ []))
idle_unfolded n s e h = (
  λ t j l q. (idle_exactly n s j l).1 (subst (λ (x : ℕ). T (idle n x)) (sym q) t),
  λ f. let c = some_colour n e h in subst (λ (x : ℕ). T (idle n x)) c.2 ((idle_exactly n s c.0 c.1).0 (f c.0 c.1 c.2)),
)
