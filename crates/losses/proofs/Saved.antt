-- Where no event is lossy, a step at which an event that marks for another comes again changes nothing, so that it can be left out.
use mathlib.Core.Path.{◌≡◌, refl, sym, ◌∙◌, ap, subst, fun_ext}
use mathlib.Core.Bool.{Bool, true, false, not, ◌&&◌, ◌||◌}
use mathlib.Core.Logic.{inl, inr}
use mathlib.Core.Option.{none}
use mathlib.Core.List.{List, [], ◌∷◌}
use Prim.Native.Nat.{ℕ, suc, ◌<◌}
use lib.Dec.{T, eqb, eqb→eq, ltb→lt}
use native.Mathlib.Omega.{arith}
use Rattle.lists.specs.Lists.{mem, empty}
use Rattle.lists.proofs.Bools.{is_true, is_false, T_of, not-true, not_out, not_in, not_not, and_left, and_right, and_both, or_cases}
use Rattle.lists.proofs.Members.{in_mem, empty_nil, keep_in, count_in_lem}
use Rattle.lists.proofs.Tests.{all_at, any_out}
use Rattle.model.specs.Net.{Net, Marking, begin, can, fire}
use Rattle.model.specs.Runs.{runs, end, State, opening, step}
use Rattle.model.specs.Unfolding.{basic}
use Rattle.model.specs.Across.{marks_for_others, own_or_earliest, lifted, repeated}
use Rattle.model.specs.Demands.{Correspond}
use Rattle.model.proofs.Firing.{runs_first, runs_rest, runs_cons, can_event, can_concession, pre_holds, fire_stays, fire_puts, fire_none}
use Rattle.model.proofs.Repeats.{repeated_build}
use Rattle.model.proofs.Own.{own_lawful}
use Rattle.model.proofs.Demands.{lawful_lifts}
use Rattle.losses.specs.Losses.{ordinary_in, steady, putters, spent, spends, recurs, lossy}
use Rattle.losses.specs.Saved.{Lossless, LeavesOut, Trimmed, Saved}

module _ (n : Net) where
  -- ---- what the tests tell

  ordinary_at : (l k : List ℕ) → T (ordinary_in n l k) → (b : ℕ) → T (mem b l) → n.persistent b ≡ false → T (mem b k)
  unfolding ordinary_in
  ordinary_at l k t b h p =
      let either = all_at (λ b. n.persistent b || mem b k) l t b h in
      subst (λ (x : Bool). T (x || mem b k)) p either

  -- what is spent is ordinary, and no event puts it
  spent_ordinary : (b : ℕ) → T (spent n b) → n.persistent b ≡ false
  unfolding spent
  spent_ordinary b t = is_false (n.persistent b) (not_out (n.persistent b) (and_left (not (n.persistent b)) (empty (putters n b)) t))

  spent_unput : (b : ℕ) → T (spent n b) → (e : ℕ) → e < n.events → mem b (n.postconditions e) ≡ false
  unfolding spent putters
  spent_unput b t e h = is_false (mem b (n.postconditions e)) (λ put. absurd (subst (λ (l : List ℕ). T (mem e l)) bare (among put)))
    where
      bare : putters n b ≡ []
      bare = empty_nil (putters n b) (and_right (not (n.persistent b)) (empty (putters n b)) t)

      among : T (mem b (n.postconditions e)) → T (mem e (putters n b))
      among put = in_mem (keep_in (λ x. mem b (n.postconditions x)) (count_in_lem e 0 n.events (omega arith) (omega arith)) put)

  -- an event that marks for others and is not lossy is steady or spends
  not_lossy : (e : ℕ) → T (marks_for_others n e) → lossy n e ≡ false → (T (spends n e) → ⊥) → T (steady n e)
  unfolding lossy recurs
  not_lossy e marks l once =
      not_not (steady n e) (λ moves.
      let again = and_both (not (steady n e)) (not (spends n e)) (not_in (steady n e) moves) (not_in (spends n e) once) in
      not-true (marks_for_others n e && recurs n e) l (and_both (marks_for_others n e) (recurs n e) marks again))

  -- ---- what holds along a run of the events that have occurred

  -- what such an event marked holds, and what it spent does not
  record Past (s : State) : Type 0 where
    pub marked : (e b : ℕ) → T (s.seen e) → T (mem b (n.postconditions e)) → n.persistent b ≡ true → T (s.marking b)
    pub gone : (e b : ℕ) → T (s.seen e) → T (mem b (n.preconditions e)) → T (spent n b) → s.marking b ≡ false

  past_opening : Past (opening n)
  unfolding opening
  past_opening = record { marked = λ e b t. absurd t; gone = λ e b t. absurd t }

  -- firing takes what is spent
  fire_spends : (m : Marking) (e b : ℕ) → mem b (n.postconditions e) ≡ false → n.persistent b ≡ false → T (mem b (n.preconditions e))
      → fire n m e b ≡ false
  unfolding fire
  fire_spends m e b unput p taken = rw (unput, p, is_true (mem b (n.preconditions e)) taken) (go (m b))
    where
      go : (x : Bool) → (x && false) ≡ false
      go true = refl
      go false = refl

  past_step : (s : State) → Past s → (x : ℕ) → T (can n s.marking x) → Past (step n s x)
  unfolding step
  past_step s p x c =
      record {
        marked = λ e b t put persists. or_cases (eqb e x) (s.seen e) t
            (λ now. fire_puts n s.marking x b (subst (λ (y : ℕ). T (mem b (n.postconditions y))) (eqb→eq e x now) put))
            (λ before. fire_stays n s.marking x b persists (p.marked e b before put persists));
        gone = λ e b t taken over. or_cases (eqb e x) (s.seen e) t
            (λ now.
            let here = subst (λ (y : ℕ). T (mem b (n.preconditions y))) (eqb→eq e x now) taken in
            fire_spends s.marking x b (unput b over) (spent_ordinary b over) here)
            (λ before. fire_none n s.marking x b (unput b over) (p.gone e b before taken over));
      }
    where
      unput : (b : ℕ) → T (spent n b) → mem b (n.postconditions x) ≡ false
      unput b over = spent_unput b over x (ltb→lt x n.events (can_event n s.marking x c))

  -- ---- an event that has occurred and can fire again

  module _ (s : State) (p : Past s) (e : ℕ) (seen : T (s.seen e)) (c : T (can n s.marking e)) where
    holds : (b : ℕ) → T (mem b (n.preconditions e)) → T (s.marking b)
    holds b taken = pre_holds n s.marking e (can_concession n s.marking e c) b taken

    never_spends : T (spends n e) → ⊥
    unfolding spends
    never_spends t =
        let (b, taken, over) = any_out (spent n) (n.preconditions e) t in
        not-true (s.marking b) (p.gone e b seen taken over) (holds b taken)

    steady_same : T (steady n e) → fire n s.marking e ≡ s.marking
    unfolding steady fire
    steady_same t = fun_ext (λ b. same (mem b (n.postconditions e)) (s.marking b) (n.persistent b) (mem b (n.preconditions e)) (put_holds b) (taken_put b))
      where
        back : T (ordinary_in n (n.preconditions e) (n.postconditions e))
        back = and_left (ordinary_in n (n.preconditions e) (n.postconditions e)) (ordinary_in n (n.postconditions e) (n.preconditions e)) t

        forth : T (ordinary_in n (n.postconditions e) (n.preconditions e))
        forth = and_right (ordinary_in n (n.preconditions e) (n.postconditions e)) (ordinary_in n (n.postconditions e) (n.preconditions e)) t

        put_holds : (b : ℕ) → T (mem b (n.postconditions e)) → T (s.marking b)
        put_holds b put = go (n.persistent b) refl
          where
            go : (x : Bool) → n.persistent b ≡ x → T (s.marking b)
            go true q = p.marked e b seen put q
            go false q = holds b (ordinary_at (n.postconditions e) (n.preconditions e) forth b put q)

        taken_put : (b : ℕ) → T (mem b (n.preconditions e)) → n.persistent b ≡ false → T (mem b (n.postconditions e))
        taken_put b = ordinary_at (n.preconditions e) (n.postconditions e) back b

        same : (put held persists taken : Bool) → (T put → T held) → (T taken → persists ≡ false → T put) → (put || held && (persists || not taken)) ≡ held
        same true held persists taken f g = sym (is_true held (f tt))
        same false true true taken f g = refl
        same false true false true f g = absurd (g tt refl)
        same false true false false f g = refl
        same false false persists taken f g = refl

  -- ---- the run without its repeats

  -- a run from a state on, with steps left out
  record From (s : State) (r : List ℕ) : Type 0 where
    pub kept : List ℕ
    pub leaves_out : LeavesOut n s.marking r kept
    pub run : T (runs n s.marking kept)
    pub same_end : end n s.marking kept ≡ end n s.marking r
    pub no_repeat : (k : ℕ) → repeated n (own_or_earliest n) k s kept ≡ none

  module _ (lossless : Lossless n) where
    -- a repeat changes nothing
    repeat_same : (s : State) → Past s → (e : ℕ) → (own_or_earliest n).repeats s e ≡ true → T (can n s.marking e) → fire n s.marking e ≡ s.marking
    unfolding own_or_earliest
    repeat_same s p e q c =
        let twice = T_of (marks_for_others n e && s.seen e) q in
        let marks = and_left (marks_for_others n e) (s.seen e) twice in
        let seen = and_right (marks_for_others n e) (s.seen e) twice in
        let here = ltb→lt e n.events (can_event n s.marking e c) in
        steady_same s p e seen c (not_lossy e marks (lossless e here) (never_spends s p e seen c))

    trim : (s : State) → Past s → (r : List ℕ) → T (runs n s.marking r) → From s r
    unfolding step end repeated runs
    trim s p [] t = record { kept = []; leaves_out = refl; run = tt; same_end = refl; no_repeat = λ k. refl }
    trim s p (e ∷ r) t =
        go ((own_or_earliest n).repeats s e) refl (λ u. trim s p r u) (trim (step n s e) (past_step s p e first) r (runs_rest n s.marking e r t))
      where
        first : T (can n s.marking e)
        first = runs_first n s.marking e r t

        go : (x : Bool) → (own_or_earliest n).repeats s e ≡ x → (T (runs n s.marking r) → From s r) → From (step n s e) r → From s (e ∷ r)
        go true q without on =
            let same = repeat_same s p e q first in
            let left = without (subst (λ (m : Marking). T (runs n m r)) same (runs_rest n s.marking e r t)) in
            record {
              kept = left.kept;
              leaves_out = inl (same, left.leaves_out);
              run = left.run;
              same_end = left.same_end ∙ sym (ap (λ (m : Marking). end n m r) same);
              no_repeat = left.no_repeat;
            }
        go false q without on =
            record {
              kept = e ∷ on.kept;
              leaves_out = inr (on.kept, refl, on.leaves_out);
              run = runs_cons n s.marking e on.kept first on.run;
              same_end = on.same_end;
              no_repeat = λ k. repeated_build n (own_or_earliest n) k s e on.kept q (on.no_repeat (suc k));
            }

    -- Where no event is lossy, every run ends as one does that no lift turns away, and that is the run without steps that change nothing.
    pub run_trimmed : (r : List ℕ) → T (runs n (begin n) r) → Trimmed n r
    unfolding opening
    run_trimmed r t =
        let from = trim (opening n) past_opening r t in
        record {
          kept = from.kept;
          leaves_out = from.leaves_out;
          run = from.run;
          same_end = from.same_end;
          no_repeat = from.no_repeat 0;
        }

    -- Then the unfolded net has a run that ends in the corresponding marking.
    pub run_saved : (r : List ℕ) → T (runs n (begin n) r) → Saved n r
    run_saved r t =
        let trimmed = run_trimmed r t in
        let lifts = lawful_lifts n (own_or_earliest n) (own_lawful n) trimmed.kept trimmed.run trimmed.no_repeat in
        let over = end (basic n) (begin (basic n)) (lifted n (own_or_earliest n) (opening n) trimmed.kept) in
        record {
          trimmed = trimmed;
          reading = record { unfolded = lifted n (own_or_earliest n) (opening n) trimmed.kept; run = lifts.run; back = lifts.back };
          ends = subst (λ (m : Marking). Correspond n m over) trimmed.same_end lifts.ends;
        }
