-- The reader's walk is the judge's: moved from record to record it comes to the same answer.
use Prim.Native.Nat.{ℕ, zero, suc, ◌+◌, ◌-◌, ◌≤◌, ◌<◌}
use native.Mathlib.Omega.{arith}
use mathlib.Core.Path.{◌≡◌, refl, sym, ap, ◌∙◌}
use mathlib.Core.List.{List}
use mathlib.Core.Bool.{Bool, true, false, cond}
use borrow.Author.Tests.{eq-eqb, ne_eqb, eqb-false, lt-ltb, le-ltb}
use Rattle.words.specs.Words.{word_at}
use Rattle.refusal.specs.declared.Refusal.{Refusal}
use Rattle.refusal.specs.Answer.{Judged, refused_at, need, and_then}
use Rattle.std.specs.Prelude.{Ok, Err}
use Rattle.refusal.proofs.Chain.{never_both}
use Rattle.records.specs.Records.{header_of, ruled, front, conditions}
use Rattle.rules.specs.Rules.{rule_of, conditions_of, marking_of}
use Rattle.event_rules.specs.EventRules.{event_of}
use Rattle.rules.proofs.Fine.{rule_fine, conditions_fine_lem, marking_fine}
use Rattle.rules.proofs.Made.{rule_none}
use Rattle.event_rules.proofs.Fine.{event_fine}
use Rattle.table.specs.Walk.{kind_is, events_from, judge_of, offset_from, offset_of}
use Rattle.table.proofs.Ruled.{plain_front}
use Rattle.table.proofs.Walk.{judge_starts, events_full, events_event, events_last, offset_none}
use Rattle.reader.specs.Read.{record_of, next_if, next_of, place_after, ComesTo}

-- offsets add up and rise
offset_add : (j k : ℕ) (s : List ℕ) (at : ℕ) → offset_from (j + k) s at ≡ offset_from k s (offset_from j s at)
unfolding offset_from
offset_add zero k s at = let e : zero + k ≡ k = omega arith in ap (λ (i : ℕ). offset_from i s at) e
offset_add (suc j) k s at =
    let e : suc j + k ≡ suc (j + k) = omega arith in
    ap (λ (i : ℕ). offset_from i s at) e ∙ offset_add j k s (at + 4 + word_at s at)

offset_one : (s : List ℕ) (at : ℕ) → offset_from 1 s at ≡ at + 4 + word_at s at
unfolding offset_from
offset_one s at = refl

offset_rises : (k : ℕ) (s : List ℕ) (at : ℕ) → at + k ≤ offset_from k s at
unfolding offset_from
offset_rises zero s at = omega arith
offset_rises (suc k) s at = let h = offset_rises k s (at + 4 + word_at s at) in omega arith

-- which record stands at a place past the Conditions record
module _ (s : List ℕ) (at : ℕ) (past : front s < at) where
  record_event : kind_is 2 (header_of s at) ≡ true → at < offset_of s 256 → record_of s at ≡ event_of s at
  unfolding record_of need
  record_event is h =
      simp (ne_eqb at (front s) (λ z. absurd (omega arith)), ne_eqb at 0 (λ z. absurd (omega arith)), is, lt-ltb at (offset_of s 256) h)

  record_full : kind_is 2 (header_of s at) ≡ true → offset_of s 256 ≤ at → record_of s at ≡ refused_at 6 at
  unfolding record_of need
  record_full is h =
      simp (ne_eqb at (front s) (λ z. absurd (omega arith)), ne_eqb at 0 (λ z. absurd (omega arith)), is, le-ltb at (offset_of s 256) h)

  record_last : kind_is 2 (header_of s at) ≡ false → record_of s at ≡ marking_of s at
  unfolding record_of
  record_last other = simp (ne_eqb at (front s) (λ z. absurd (omega arith)), ne_eqb at 0 (λ z. absurd (omega arith)), other)

-- the Conditions record, and the Rule record before it
record_conditions : (s : List ℕ) (at : ℕ) → at ≡ front s → record_of s at ≡ conditions_of s at
unfolding record_of
record_conditions s at h = simp (eq-eqb at (front s) h)

record_rule : (s : List ℕ) → ruled s ≡ true → record_of s 0 ≡ rule_of s
unfolding record_of front
record_rule s h = simp h

-- the moves that lead to the Conditions record
abbrev lead : List ℕ → ℕ
lead s = cond (ruled s) 1 0

-- a reader at a fine record moves past it
moved_to : (s : List ℕ) (k at next : ℕ) → place_after k s ≡ at → record_of s at ≡ Ok next → place_after (suc k) s ≡ next
unfolding place_after next_of
moved_to s k at next p r = ap (next_of s) p ∙ ap (λ (j : Judged). next_if j at) r

later : (s : List ℕ) (j at next : ℕ) → place_after (lead s + j) s ≡ at → record_of s at ≡ Ok next → place_after (lead s + suc j) s ≡ next
later s j at next p r =
    let one : lead s + suc j ≡ suc (lead s + j) = omega arith in
    ap (λ (k : ℕ). place_after k s) one ∙ moved_to s (lead s + j) at next p r

-- a reader at the last record
comes_last : (s : List ℕ) (j at left : ℕ) → place_after (lead s + suc j) s ≡ at → j + left ≡ 256 → record_of s at ≡ marking_of s at
    → (m : Judged) → marking_of s at ≡ m → ComesTo s (and_then m (λ _. Ok (256 - left)))
comes_last s j at left p sum r (Ok next) e =
    let count : 256 - left ≡ j = omega arith in
    ap (λ (k : ℕ). place_after (lead s + suc (suc k)) s) count ∙ later s (suc j) at next p (r ∙ e) ∙ (marking_fine s at next e).ends
comes_last s j at left p sum r (Err refusal) e = (lead s + suc j, ap (record_of s) p ∙ r ∙ e)

-- a reader past the Conditions record, after j events, with so many still allowed
comes_from : (left j : ℕ) (s : List ℕ) (at : ℕ) → place_after (lead s + suc j) s ≡ at → at ≡ offset_of s j → front s < at → j + left ≡ 256
    → ComesTo s (events_from left s at)
comes_from zero j s at p o past sum = go (kind_is 2 (header_of s at)) refl
  where
    go : (b : Bool) → kind_is 2 (header_of s at) ≡ b → ComesTo s (events_from 0 s at)
    go true is =
        let full : offset_of s 256 ≤ at = rw (o, (let e : 256 ≡ j = omega arith in e)) (omega arith) in
        rw (events_full s at is) (lead s + suc j, ap (record_of s) p ∙ record_full s at past is full)
    go false other = rw (events_last s at 0 other) (comes_last s j at 0 p sum (record_last s at past other) (marking_of s at) refl)
comes_from (suc left) j s at p o past sum = go (comes_from left (suc j) s) (kind_is 2 (header_of s at)) refl
  where
    sooner : at < offset_of s 256
    sooner =
        let e : 256 ≡ j + suc left = omega arith in
        let add = ap (offset_of s) e ∙ offset_add j (suc left) s (front s + 4 + conditions s) ∙ ap (offset_from (suc left) s) (sym o) in
        let rise = offset_rises (suc left) s at in
        omega arith

    event : ((at : ℕ) → place_after (lead s + suc (suc j)) s ≡ at → at ≡ offset_of s (suc j) → front s < at → suc j + left ≡ 256 → ComesTo s (events_from left s at))
        → record_of s at ≡ event_of s at → (x : Judged) → event_of s at ≡ x → ComesTo s (and_then x (events_from left s))
    event ih r (Ok next) e =
        let f = event_fine s at next e in
        let one : suc j ≡ j + 1 = omega arith in
        let last = ap (offset_of s) one ∙ offset_add j 1 s (front s + 4 + conditions s) ∙ ap (offset_from 1 s) (sym o) ∙ offset_one s at in
        ih next (later s (suc j) at next p (r ∙ e)) (f.next_is ∙ sym last) (omega (arith, f.next_is)) (omega arith)
    event ih r (Err refusal) e = (lead s + suc j, ap (record_of s) p ∙ r ∙ e)

    go : ((at : ℕ) → place_after (lead s + suc (suc j)) s ≡ at → at ≡ offset_of s (suc j) → front s < at → suc j + left ≡ 256 → ComesTo s (events_from left s at))
        → (b : Bool) → kind_is 2 (header_of s at) ≡ b → ComesTo s (events_from (suc left) s at)
    go ih true is =
        let e : suc left - 1 ≡ left = omega arith in
        rw (events_event s at is (suc left) (λ z. absurd (omega arith)), e) (event ih (record_event s at past is sooner) (event_of s at) refl)
    go ih false other = rw (events_last s at (suc left) other) (comes_last s j at (suc left) p sum (record_last s at past other) (marking_of s at) refl)

-- a reader at the Conditions record
comes_front : (s : List ℕ) (at : ℕ) → place_after (lead s + 0) s ≡ at → at ≡ front s → (x : Judged) → conditions_of s at ≡ x
    → ComesTo s (and_then x (events_from 256 s))
comes_front s at p o (Ok next) e =
    let f = conditions_fine_lem s at next e in
    let first = f.next_is ∙ ap (λ (a : ℕ). a + 4 + word_at s a) o ∙ sym (offset_none s (front s + 4 + conditions s)) in
    comes_from 256 0 s next (later s 0 at next p (record_conditions s at o ∙ e)) first (omega (arith, f.next_is)) (omega arith)
comes_front s at p o (Err refusal) e = (lead s + 0, ap (record_of s) p ∙ record_conditions s at o ∙ e)

-- a reader at the start, where a Rule record is moved past
led : (s : List ℕ) (at : ℕ) → rule_of s ≡ Ok at → place_after (lead s + 0) s ≡ at
unfolding place_after
led s at e = go (ruled s) refl
  where
    go : (b : Bool) → ruled s ≡ b → place_after (cond b 1 0 + 0) s ≡ at
    go true h = moved_to s 0 0 at refl (record_rule s h ∙ e)
    go false h = sym (rule_fine s at e ∙ plain_front s h)

refused_rule : (s : List ℕ) (refusal : Refusal) → rule_of s ≡ Err refusal → record_of s 0 ≡ Err refusal
refused_rule s refusal e = go (ruled s) refl
  where
    go : (b : Bool) → ruled s ≡ b → record_of s 0 ≡ Err refusal
    go true h = record_rule s h ∙ e
    go false h = never_both (sym (rule_none s (eqb-false (word_at s 2) 6 h)) ∙ e)

-- The reader comes to the judge's answer, on every table.
pub reader_comes : (s : List ℕ) → ComesTo s (judge_of s)
unfolding place_after
reader_comes s = rw (judge_starts s) (go (rule_of s) refl)
  where
    go : (x : Judged) → rule_of s ≡ x → ComesTo s (and_then x (λ at. and_then (conditions_of s at) (events_from 256 s)))
    go (Ok at) e = comes_front s at (led s at e) (rule_fine s at e) (conditions_of s at) refl
    go (Err refusal) e = (0, refused_rule s refusal e)
