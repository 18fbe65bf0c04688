-- The walk over a table: one turn of it, and what a fine walk has passed.
use Prim.Native.Nat.{ℕ, zero, suc, ◌+◌, ◌-◌, ◌≤◌, ◌<◌}
use native.Mathlib.Omega.{arith}
use mathlib.Core.Path.{◌≡◌, refl, sym, subst}
use mathlib.Core.List.{List}
use mathlib.Core.Bool.{Bool, true, false, cond}
use lib.ListN.{length}
use Rattle.words.specs.Words.{word_at}
use Rattle.std.specs.Prelude.{Ok}
use Rattle.refusal.specs.Answer.{refused_at, and_then}
use Rattle.refusal.proofs.Chain.{never_both, then_fine}
use Rattle.records.specs.Records.{header_of, front, conditions}
use Rattle.rules.specs.Rules.{rule_of, conditions_of, marking_of}
use Rattle.event_rules.specs.EventRules.{event_of}
use Rattle.rules.proofs.Fine.{rule_fine, ConditionsFine, conditions_fine_lem, MarkingFine, marking_fine}
use Rattle.event_rules.proofs.Fine.{EventFine, event_fine}
use Rattle.table.specs.Walk.{kind_is, last_of, events_from, judge_of, offset_from, offset_of}

pub judge_starts : (s : List ℕ) → judge_of s ≡ and_then (rule_of s) (λ at. and_then (conditions_of s at) (events_from 256 s))
unfolding judge_of
judge_starts s = refl

-- one turn, at an Event record
module _ (s : List ℕ) (at : ℕ) (is : kind_is 2 (header_of s at) ≡ true) where
  pub events_full : events_from 0 s at ≡ refused_at 6 at
  unfolding events_from
  events_full = simp is

  pub events_event : (left : ℕ) → (left ≡ 0 → ⊥) → events_from left s at ≡ and_then (event_of s at) (events_from (left - 1) s)
  unfolding events_from
  events_event zero h = absurd (h refl)
  events_event (suc left) h =
      let e : suc left - 1 ≡ left = omega arith in
      simp (is, e)

-- one turn, at any other
pub events_last : (s : List ℕ) (at left : ℕ) → kind_is 2 (header_of s at) ≡ false → events_from left s at ≡ last_of left s at
unfolding events_from
events_last s at zero other = simp other
events_last s at (suc left) other = simp other

-- one record further along the lengths
pub offset_next : (left : ℕ) (s : List ℕ) (at : ℕ) → 0 < left → offset_from left s at ≡ offset_from (left - 1) s (at + 4 + word_at s at)
unfolding offset_from
offset_next zero s at h = absurd (omega arith)
offset_next (suc left) s at h =
    let e : suc left - 1 ≡ left = omega arith in
    rw e

pub offset_none : (s : List ℕ) (at : ℕ) → offset_from 0 s at ≡ at
unfolding offset_from
offset_none s at = refl

-- What a fine walk from an offset on has passed: so many events, then the Marking record.
pub record Walked (left : ℕ) (s : List ℕ) (at n : ℕ) : Type 0 where
  pub count : ℕ
  pub fits : count ≤ left
  pub total : n + left ≡ 256 + count
  pub event : (j : ℕ) → j < count → EventFine s (offset_from j s at) (offset_from (suc j) s at)
  pub marking : MarkingFine s (offset_from count s at) (length s)

walked_last : (left : ℕ) (s : List ℕ) (at n : ℕ) → left ≤ 256 → last_of left s at ≡ Ok n → Walked left s at n
unfolding offset_from
walked_last left s at n h e =
    let (next, t, f) = then_fine (marking_of s at) (λ _. Ok (256 - left)) n e in
    let q : 256 - left ≡ n = cc in
    let m = marking_fine s at next t in
    record { count = 0; fits = omega arith; total = omega arith; event = λ j p. absurd (omega arith); marking = rw m.ends at m }

walked_event : (left : ℕ) (s : List ℕ) (at n : ℕ) (next : ℕ) → event_of s at ≡ Ok next → Walked left s next n → Walked (suc left) s at n
unfolding offset_from
walked_event left s at n next t w =
    let f = event_fine s at next t in
    record {
      count = suc w.count;
      fits = omega (arith, w.fits);
      total = omega (arith, w.total);
      event = elim [ zero ↦ λ p. rw (← f.next_is) f | suc j ↦ λ p. rw f.next_is at (w.event j (omega arith)) ];
      marking = rw f.next_is at w.marking;
    }

walked_if : (left : ℕ) (s : List ℕ) (at n : ℕ) (b : Bool) → suc left ≤ 256 → ((next : ℕ) → events_from left s next ≡ Ok n → Walked left s next n)
    → cond b (and_then (event_of s at) (events_from left s)) (last_of (suc left) s at) ≡ Ok n → Walked (suc left) s at n
walked_if left s at n true h ih e =
    let (next, t, r) = then_fine (event_of s at) (events_from left s) n e in
    walked_event left s at n next t (ih next r)
walked_if left s at n false h ih e = walked_last (suc left) s at n h e

walked_full : (s : List ℕ) (at n : ℕ) (b : Bool) → cond b (refused_at 6 at) (last_of 0 s at) ≡ Ok n → Walked 0 s at n
walked_full s at n true e = never_both (sym e)
walked_full s at n false e = walked_last 0 s at n (omega arith) e

pub walked : (left : ℕ) (s : List ℕ) (at n : ℕ) → left ≤ 256 → events_from left s at ≡ Ok n → Walked left s at n
unfolding events_from
walked zero s at n h e = walked_full s at n (kind_is 2 (header_of s at)) e
walked (suc left) s at n h e = walked_if left s at n (kind_is 2 (header_of s at)) h (λ next. walked left s next n (omega arith)) e

-- What an accepted table of n events is, record by record.
pub record Accepted (s : List ℕ) (n : ℕ) : Type 0 where
  pub conditions_fine : ConditionsFine s (front s) (front s + 4 + conditions s)
  pub few : n ≤ 256
  pub event : (e : ℕ) → e < n → EventFine s (offset_of s e) (offset_of s (suc e))
  pub marking : MarkingFine s (offset_of s n) (length s)

accepted_from : (s : List ℕ) (n start : ℕ) → ConditionsFine s (front s) start → Walked 256 s start n → Accepted s n
accepted_from s n start k w =
    let total : w.count ≡ n = omega (arith, w.total) in
    record {
      conditions_fine = rw k.next_is at k;
      few = omega (arith, w.fits);
      event = λ e h. rw k.next_is at (w.event e (omega arith));
      marking = rw (k.next_is, total) at w.marking;
    }

pub accepted : (s : List ℕ) (n : ℕ) → judge_of s ≡ Ok n → Accepted s n
unfolding judge_of
accepted s n j =
    let (at, h, i) = then_fine (rule_of s) (λ at. and_then (conditions_of s at) (events_from 256 s)) n j in
    let (start, c, r) = then_fine (conditions_of s at) (events_from 256 s) n i in
    accepted_from s n start (subst (λ (at : ℕ). ConditionsFine s at start) (rule_fine s at h) (conditions_fine_lem s at start c)) (walked 256 s start n (omega arith) r)
