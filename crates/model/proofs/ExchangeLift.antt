-- Demand 3 on lifted runs: a step beside an event that reads only what holds, and the exchange of two steps.
use mathlib.Core.Path.{◌≡◌, refl, sym, ◌∙◌, ap, subst, fun_ext}
use mathlib.Core.Bool.{Bool, true, false}
use mathlib.Core.Logic.{◌↔◌}
use mathlib.Core.Option.{Option, none, some}
use mathlib.Core.List.{List, [], ◌∷◌}
use Prim.Native.Nat.{ℕ, zero, suc, ◌<◌}
use borrow.Author.Tests.{ne_eqb}
use lib.Dec.{T, eqb}
use lib.ListN.{length}
use native.Mathlib.Nat.{not-suc-le-zero, le_of_suc-le-suc}
use Rattle.lists.specs.Lists.{mem}
use Rattle.lists.proofs.Bools.{is_true, T_of, not-true, or_swap}
use Rattle.lists.proofs.Members.{in_mem, keep_out, map_same}
use Rattle.model.specs.Net.{Net, can, fire}
use Rattle.model.specs.Runs.{runs, end, Marker, by_event, State, marker, or_else, step, after}
use Rattle.model.specs.Unfolding.{UnfoldedEvent, reads}
use Rattle.model.specs.Numbering.{number}
use Rattle.model.specs.Exchange.{apart, apart_step, exchanged}
use Rattle.model.specs.Across.{Lifting, coloured, lifted, repeated}
use Rattle.model.proofs.Firing.{runs_first, runs_rest, can_concession, pre_holds}
use Rattle.model.proofs.Laws.{First, Reached, Plain}
use Rattle.model.proofs.Copies.{reached_step, state_same}
use Rattle.model.proofs.Repeats.{repeated_cons, repeated_build}
use Rattle.model.proofs.Exchange.{Apart, apart_parts, swap_end}

-- ---- a step beside an event that reads only what holds

module _ (n : Net) (l : Lifting) (law : Plain n l) (s : State) (i : Reached n s) (e f : ℕ) (d : f ≡ e → ⊥) where
  seen_still : (step n s e).seen f ≡ s.seen f
  unfolding step
  seen_still = rw (ne_eqb f e d)

  -- a persistent condition that holds keeps its first marker
  pub first_still : (b : ℕ) → n.persistent b ≡ true → T (s.marking b) → (step n s e).first b ≡ s.first b
  unfolding step
  first_still b p h = go (s.first b) (i.first b p)
    where
      go : (o : Option Marker) → First n s b o → or_else o (marker (n.persistent b) (mem b (n.postconditions e)) (by_event e)) ≡ o
      go none q = absurd (not-true (s.marking b) q h)
      go (some k) q = refl

  pub repeats_still : l.repeats (step n s e) f ≡ l.repeats s f
  repeats_still = law.repeats_from (step n s e) s f seen_still

  pub colour_still : ((b : ℕ) → T (mem b (n.preconditions f)) → T (n.persistent b) → T (s.marking b)) → coloured n l (step n s e) f ≡ coloured n l s f
  unfolding coloured reads
  colour_still h =
      ap {B = UnfoldedEvent} (λ z. record { event = f; colour = z })
      (map_same (l.pick (step n s e) f) (l.pick s f) (reads n f)
      (λ b j. let q = keep_out n.persistent (n.preconditions f) j in
      law.pick_from (step n s e) s f b (first_still b (is_true (n.persistent b) q.1) (h b (in_mem q.0) q.1)) seen_still))

-- ---- the two steps

module _ (n : Net) (s : State) (i : Reached n s) (e f : ℕ) (c : T (can n s.marking e)) (d : T (can n (fire n s.marking e) f)) (a : T (apart n s.marking e f)) where
  abbrev t : Apart n s.marking e f
  t = apart_parts n s.marking e f a

  -- a condition with no marker yet is not marked by both
  not_both : (b : ℕ) → n.persistent b ≡ true → s.first b ≡ none → T (mem b (n.postconditions e)) → T (mem b (n.postconditions f)) → ⊥
  not_both b p h x y =
      not-true (s.marking b) (subst (λ (o : Option Marker). First n s b o) h (i.first b p)) (t.once b x (T_of (n.persistent b) p) y)

  pub step_swap : step n (step n s e) f ≡ step n (step n s f) e
  unfolding step
  step_swap =
      state_same (step n (step n s e) f) (step n (step n s f) e)
      (sym (swap_end n s.marking e f (can_concession n s.marking e c) (can_concession n (fire n s.marking e) f d) a))
      (fun_ext (λ b. firsts b (s.first b) refl)) (fun_ext (λ x. or_swap (eqb x e) (eqb x f) (s.seen x)))
    where
      both : (b : ℕ) (p x y : Bool) → n.persistent b ≡ p → mem b (n.postconditions e) ≡ x → mem b (n.postconditions f) ≡ y → s.first b ≡ none
          → or_else (marker p x (by_event e)) (marker p y (by_event f)) ≡ or_else (marker p y (by_event f)) (marker p x (by_event e))
      both b true true true k p q h = absurd (not_both b k h (T_of (mem b (n.postconditions e)) p) (T_of (mem b (n.postconditions f)) q))
      both b true true false k p q h = refl
      both b true false true k p q h = refl
      both b true false false k p q h = refl
      both b false x y k p q h = refl

      firsts : (b : ℕ) (o : Option Marker) → s.first b ≡ o
          → or_else (or_else o (marker (n.persistent b) (mem b (n.postconditions e)) (by_event e))) (marker (n.persistent b) (mem b (n.postconditions f)) (by_event f))
          ≡ or_else (or_else o (marker (n.persistent b) (mem b (n.postconditions f)) (by_event f))) (marker (n.persistent b) (mem b (n.postconditions e)) (by_event e))
      firsts b none h = both b (n.persistent b) (mem b (n.postconditions e)) (mem b (n.postconditions f)) refl refl refl h
      firsts b (some k) h = refl

-- ---- in a run

pub record Swapped (n : Net) (l : Lifting) (s : State) (k i : ℕ) (r : List ℕ) : Type 0 where
  pub same_state : after n s (exchanged k r) ≡ after n s r
  pub repeat : (repeated n l i s r ≡ none) ↔ (repeated n l i s (exchanged k r) ≡ none)
  pub exchange : lifted n l s (exchanged k r) ≡ exchanged k (lifted n l s r)

pub swapped : (n : Net) (l : Lifting) → Plain n l → (s : State) → Reached n s → (r : List ℕ) (k i : ℕ) → suc k < length r
    → T (runs n s.marking r) → T (apart_step n s.marking r k) → Swapped n l s k i r
unfolding apart_step end lifted after step
swapped n l law s v [] zero i h r t = absurd (not-suc-le-zero h)
swapped n l law s v (e ∷ []) zero i h r t = absurd (not-suc-le-zero (le_of_suc-le-suc h))
swapped n l law s v (e ∷ f ∷ q) zero i h r t =
    let c = runs_first n s.marking e (f ∷ q) r in
    let d = runs_first n (fire n s.marking e) f q (runs_rest n s.marking e (f ∷ q) r) in
    let a = apart_parts n s.marking e f t in
    let m = step_swap n s v e f c d t in
    let ne : f ≡ e → ⊥ = λ x. a.differ (sym x) in
    let re = repeats_still n l law s v f e a.differ in
    let rf = repeats_still n l law s v e f ne in
    record {
      same_state = ap (λ (z : State). after n z q) (sym m);
      repeat = (
        λ o.
            let x = repeated_cons n l i s e (f ∷ q) o in
            let y = repeated_cons n l (suc i) (step n s e) f q x.1 in
            repeated_build n l i s f (e ∷ q) (sym rf ∙ y.0) (repeated_build n l (suc i) (step n s f) e q (re ∙ x.0) (subst (λ (z : State). repeated n l (suc (suc i)) z q ≡ none) m y.1)),
        λ o.
            let x = repeated_cons n l i s f (e ∷ q) o in
            let y = repeated_cons n l (suc i) (step n s f) e q x.1 in
            repeated_build n l i s e (f ∷ q) (sym re ∙ y.0) (repeated_build n l (suc i) (step n s e) f q (rf ∙ x.0) (subst (λ (z : State). repeated n l (suc (suc i)) z q ≡ none) (sym m) y.1)),
      );
      exchange = trade n l s e f q m
          (colour_still n l law s v f e a.differ (λ b x p. pre_holds n s.marking e (can_concession n s.marking e c) b x))
          (colour_still n l law s v e f ne (λ b x p. a.held b x p));
    }
  where
    trade : (n : Net) (l : Lifting) (s : State) (e f : ℕ) (q : List ℕ) → step n (step n s e) f ≡ step n (step n s f) e
        → coloured n l (step n s f) e ≡ coloured n l s e → coloured n l (step n s e) f ≡ coloured n l s f
        → number n (coloured n l s f) ∷ number n (coloured n l (step n s f) e) ∷ lifted n l (step n (step n s f) e) q
        ≡ number n (coloured n l (step n s e) f) ∷ number n (coloured n l s e) ∷ lifted n l (step n (step n s e) f) q
    trade n l s e f q m x y = cc
swapped n l law s v [] (suc k) i h r t = absurd (not-suc-le-zero h)
swapped n l law s v (x ∷ p) (suc k) i h r t =
    let c = runs_first n s.marking x p r in
    let z = swapped n l law (step n s x) (reached_step n s v x c) p k (suc i) (le_of_suc-le-suc h) (runs_rest n s.marking x p r) t in
    record {
      same_state = z.same_state;
      repeat = (
        λ o. let a = repeated_cons n l i s x p o in repeated_build n l i s x (exchanged k p) a.0 (z.repeat.0 a.1),
        λ o. let a = repeated_cons n l i s x (exchanged k p) o in repeated_build n l i s x p a.0 (z.repeat.1 a.1),
      );
      exchange = ap {B = List ℕ} (λ w. number n (coloured n l s x) ∷ w) z.exchange;
    }
