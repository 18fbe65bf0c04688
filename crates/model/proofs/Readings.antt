-- Which runs of the table some run of the unfolded net reads back as: exactly those without a repeat, and on a later occurrence the
-- pick is forced.
use mathlib.Core.Path.{◌≡◌, refl, sym, subst}
use mathlib.Core.Bool.{Bool, true, false, ◌&&◌}
use mathlib.Core.Logic.{◌↔◌}
use mathlib.Core.Option.{none, some}
use mathlib.Core.List.{List, [], ◌∷◌, ◌++◌}
use Prim.Native.Nat.{ℕ, suc, ◌<◌}
use lib.Dec.{T, eqb, eqb→eq, eqb_refl}
use native.Mathlib.Omega.{arith}
use Rattle.lists.specs.Lists.{mem, ◌∈◌}
use Rattle.lists.proofs.Bools.{is_true, is_false, T_of, not-true, and_left, and_right, and_both, or_left, or_right}
use Rattle.lists.proofs.Members.{in_mem, keep_out}
use Rattle.lists.proofs.Places.{place_of}
use Rattle.model.specs.Net.{Net, Sound, Marking, begin, can, fire}
use Rattle.model.specs.Runs.{runs, end, by_event, State, opening, step, after}
use Rattle.model.specs.Unfolding.{same_marker, copy, users, reads, picked, takes, puts, origin, basic}
use Rattle.model.specs.Across.{marks_for_others, own_or_earliest, lifted, repeated, read_back}
use Rattle.model.specs.Readings.{Reading, Unread, Forced}
use Rattle.model.proofs.Firing.{runs_first, runs_rest, runs_snoc, runs_before, runs_after, can_event, can_concession, free_pre, unblocked}
use Rattle.model.proofs.Unfolded.{event_marks, event_uses, copy_in, colour_out, takes_at, puts_at, origin_in}
use Rattle.model.proofs.Laws.{marked}
use Rattle.model.proofs.Copies.{status, Copies, copies_opening, seen_after}
use Rattle.model.proofs.Project.{back_step, project_from}
use Rattle.model.proofs.Repeats.{repeated_build, Repeat, repeated_first, first_repeated, none_repeats, repeated_snoc}
use Rattle.model.proofs.Lift.{lifting_runs}
use Rattle.model.proofs.Own.{for_another, own_lawful}

-- ---- one step of the unfolded net

module _ (n : Net) (d : Sound n) (s : State) (u : Marking) (i : Copies n s u) (j : ℕ) (c : T (can (basic n) u j)) where
  abbrev e : ℕ
  e = (origin n j).event

  here : e < n.events
  here = (colour_out n (origin n j) (origin_in n j (can_event (basic n) u j c))).0

  -- what its event has marked before, for any user, it puts and it still holds, so that it must take it
  taken_back : T (s.seen e) → (b v : ℕ) → n.persistent b ≡ true → T (mem b (n.postconditions e)) → v ∈ users n b
      → T (eqb v e && picked (reads n e) (origin n j).colour b (by_event e))
  unfolding takes puts status marked basic
  taken_back h b v p z m =
      let twin = copy b (by_event e) v in
      let q = place_of (copy_in n b (by_event e) v (d.post_in e b here z) p (event_marks n b e here z) m) in
      let held : T (u q.0) = subst T (sym (i.holding q.0 twin q.1)) (and_both (s.seen e) (mem b (n.postconditions e)) h z) in
      let put : T (mem q.0 ((basic n).postconditions j)) = subst T (sym (puts_at n j q.0 twin q.1))
      (or_right (takes n (origin n j) twin) (same_marker (by_event e) (by_event e) && mem b (n.postconditions e)) (and_both (eqb e e) (mem b (n.postconditions e)) (eqb_refl e) z)) in
      subst T (takes_at n j q.0 twin q.1) (free_pre (basic n) j q.0 refl (unblocked (basic n) u j (can_concession (basic n) u j c) q.0 put held))

  -- so an event that marks for another does not fire again
  not_again : T (marks_for_others n e) → T (s.seen e) → ⊥
  not_again t h =
      let o = for_another n e t in
      let b = o.condition in
      o.other (eqb→eq o.user e (and_left (eqb o.user e) (picked (reads n e) (origin n j).colour b (by_event e))
      (taken_back h b o.user (is_true (n.persistent b) o.persists) o.marks o.uses)))

  -- and one that does picks itself for what it marks
  picks_itself : T (s.seen e) → (b : ℕ) → b ∈ reads n e → T (mem b (n.postconditions e)) → T (picked (reads n e) (origin n j).colour b (by_event e))
  unfolding reads
  picks_itself h b r z =
      let q = keep_out n.persistent (n.preconditions e) r in
      and_right (eqb e e) (picked (reads n e) (origin n j).colour b (by_event e))
      (taken_back h b e (is_true (n.persistent b) q.1) z (event_uses n b e here (in_mem q.0)))

-- what a run of the unfolded net reads back as has no repeat
no_repeat : (n : Net) → Sound n → (s : State) (u : Marking) → Copies n s u → (k : ℕ) (w : List ℕ) → T (runs (basic n) u w)
    → repeated n (own_or_earliest n) k s (read_back n w) ≡ none
unfolding repeated read_back own_or_earliest
no_repeat n d s u i k [] t = refl
no_repeat n d s u i k (j ∷ w) t =
    let c = runs_first (basic n) u j w t in
    let e = (origin n j).event in
    repeated_build n (own_or_earliest n) k s e (read_back n w)
    (is_false (marks_for_others n e && s.seen e) (λ q.
    not_again n d s u i j c (and_left (marks_for_others n e) (s.seen e) q) (and_right (marks_for_others n e) (s.seen e) q)))
    (no_repeat n d (step n s e) (fire (basic n) u j) (back_step n d s u i j c) (suc k) w (runs_rest (basic n) u j w t))

-- In every run of the unfolded net a later occurrence picks itself: no other choice fires.
pub forced : (n : Net) → Sound n → (w : List ℕ) → T (runs (basic n) (begin (basic n)) w) → Forced n w
unfolding opening
forced n d w t a j z q x b =
    let all_run : T (runs (basic n) (begin (basic n)) (a ++ j ∷ z)) = subst (λ (w : List ℕ). T (runs (basic n) (begin (basic n)) w)) q t in
    let i = (project_from n d (opening n) (begin (basic n)) (copies_opening n) a (runs_before (basic n) (begin (basic n)) a (j ∷ z) all_run)).1 in
    let seen : T ((after n (opening n) (read_back n a)).seen (origin n j).event)
    = subst T (sym (seen_after n (opening n) (read_back n a) (origin n j).event)) (or_left (mem (origin n j).event (read_back n a)) false x) in
    picks_itself n d (after n (opening n) (read_back n a)) (end (basic n) (begin (basic n)) a) i j
    (runs_first (basic n) (end (basic n) (begin (basic n)) a) j z (runs_after (basic n) (begin (basic n)) a (j ∷ z) all_run)) seen b

-- ---- readings

module _ (n : Net) (d : Sound n) where
  pub reading_keeps : (r : List ℕ) → Reading n r → repeated n (own_or_earliest n) 0 (opening n) r ≡ none
  reading_keeps r w =
      subst (λ (r : List ℕ). repeated n (own_or_earliest n) 0 (opening n) r ≡ none) w.back
      (no_repeat n d (opening n) (begin (basic n)) (copies_opening n) 0 w.unfolded w.run)

  -- what has a reading is a run of the table
  pub reading_runs : (r : List ℕ) → Reading n r → T (runs n (begin n) r)
  unfolding opening
  reading_runs r w =
      subst (λ (r : List ℕ). T (runs n (begin n) r)) w.back
      (project_from n d (opening n) (begin (basic n)) (copies_opening n) w.unfolded w.run).0

pub keeps_reading : (n : Net) (r : List ℕ) → T (runs n (begin n) r) → repeated n (own_or_earliest n) 0 (opening n) r ≡ none → Reading n r
keeps_reading n r t o =
    let l = lifting_runs n (own_or_earliest n) (own_lawful n) r t o in
    record { unfolded = lifted n (own_or_earliest n) (opening n) r; run = l.run; back = l.back }

-- ---- the first step that no reading goes past

module _ (n : Net) (d : Sound n) (r : List ℕ) (t : T (runs n (begin n) r)) (i : ℕ) where
  repeat_unread : Repeat n (own_or_earliest n) 0 (opening n) r i → Unread n r i
  repeat_unread p =
      let b : List ℕ = p.before in
      let e : ℕ = p.event in
      record {
        before = b;
        event = e;
        rest = p.rest;
        splits = p.splits;
        place = omega (arith, p.place);
        read = keeps_reading n b (runs_before n (begin n) b (e ∷ p.rest) (subst (λ (r : List ℕ). T (runs n (begin n) r)) p.splits t)) p.first;
        broken = λ w.
            not-true ((own_or_earliest n).repeats (after n (opening n) b) e)
            (none_repeats n (own_or_earliest n) 0 (opening n) b e [] (reading_keeps n d (b ++ e ∷ []) w))
            (T_of ((own_or_earliest n).repeats (after n (opening n) b) e) p.repeat);
      }

  unread_repeat : Unread n r i → Repeat n (own_or_earliest n) 0 (opening n) r i
  unread_repeat x =
      record {
        before = x.before;
        event = x.event;
        rest = x.rest;
        splits = x.splits;
        place = omega (arith, x.place);
        repeat = go ((own_or_earliest n).repeats (after n (opening n) x.before) x.event) refl;
        first = reading_keeps n d x.before x.read;
      }
    where
      -- the steps up to this one are a run
      upto : T (runs n (begin n) (x.before ++ x.event ∷ []))
      upto =
          let whole : T (runs n (begin n) (x.before ++ x.event ∷ x.rest)) = subst (λ (r : List ℕ). T (runs n (begin n) r)) x.splits t in
          runs_snoc n (begin n) x.before x.event (runs_before n (begin n) x.before (x.event ∷ x.rest) whole)
          (runs_first n (end n (begin n) x.before) x.event x.rest (runs_after n (begin n) x.before (x.event ∷ x.rest) whole))

      go : (y : Bool) → (own_or_earliest n).repeats (after n (opening n) x.before) x.event ≡ y
          → (own_or_earliest n).repeats (after n (opening n) x.before) x.event ≡ true
      go true q = q
      go false q =
          absurd (x.broken (keeps_reading n (x.before ++ x.event ∷ []) upto
          (repeated_snoc n (own_or_earliest n) 0 (opening n) x.before x.event (reading_keeps n d x.before x.read) q)))

  -- The first repeat of a run of the table is the first step that no reading goes past.
  pub repeated_unread : (repeated n (own_or_earliest n) 0 (opening n) r ≡ some i) ↔ Unread n r i
  repeated_unread = (
    λ o. repeat_unread (repeated_first n (own_or_earliest n) 0 (opening n) r i o),
    λ x. first_repeated n (own_or_earliest n) 0 (opening n) r i (unread_repeat x),
  )
