-- Demands 2 and 3 as promises of the calls lift, project and exchange: read these statements after the definitions.
use mathlib.Core.Path.{◌≡◌, refl, sym, ◌∙◌, ap, subst}
use mathlib.Core.Bool.{false}
use mathlib.Core.Logic.{◌↔◌}
use mathlib.Core.Option.{Option, none, some}
use mathlib.Core.List.{List}
use Prim.Native.Nat.{ℕ, suc, ◌≤◌, ◌<◌}
use lib.Dec.{T}
use lib.ListN.{get_elem?, length}
use native.Mathlib.Omega.{arith}
use Rattle.model.specs.Net.{Net, Sound, Marking, begin, Stop}
use Rattle.model.specs.Runs.{runs, end, opening, after}
use Rattle.model.specs.Unfolding.{UnfoldedCondition, unfolded_conditions, basic}
use Rattle.model.specs.Exchange.{apart_step, exchanged}
use Rattle.model.specs.Across.{of_table, of_unfolding, stopped, other, run, refusal, unless, most_steps, too_long, unfolding_refused, Lifting, own_or_earliest, lifted, repeated, lifting, lift, read_back, projecting, project, exchanging, exchange}
use Rattle.model.specs.Demands.{Stops, Correspond, Lifts, Projects, holds_after, Exchanged}
use Rattle.model.specs.Readings.{Again, FirstAgain, Reading, Unread}
use Rattle.model.proofs.Laws.{Lawful, Plain}
use Rattle.model.proofs.Copies.{reached_opening, copies_opening, correspond, determined, marking_after, status_after}
use Rattle.model.proofs.Project.{project_from, projection, length_back}
use Rattle.model.proofs.Lift.{lifting_runs}
use Rattle.model.proofs.Answers.{unless_run, lifting_run, run_lifting, lifting_again, lifting_stopped, projecting_run, run_projecting, projecting_stopped, exchanging_run, run_exchanging, exchanging_no_step, exchanging_not_apart, exchanging_stopped, short_length, length_short}
use Rattle.model.proofs.Exchange.{exchange_runs, exchanged_twice, exchanged_short}
use Rattle.model.proofs.ExchangeLift.{swapped}
use Rattle.model.proofs.Own.{own_lawful, own_plain, none_again, again_none, repeated_exactly}
use Rattle.model.proofs.Readings.{reading_keeps, reading_runs, keeps_reading, repeated_unread}

-- ---- demand 2, forth: for any rule of lifting that keeps the laws

module _ (n : Net) (l : Lifting) (law : Lawful n l) where
  -- A run without a repeat lifts.
  pub lawful_lifts : (r : List ℕ) → T (runs n (begin n) r) → repeated n l 0 (opening n) r ≡ none → Lifts n r (lifted n l (opening n) r)
  unfolding opening
  lawful_lifts r t o =
      let h = lifting_runs n l law r t o in
      let u = end (basic n) (begin (basic n)) (lifted n l (opening n) r) in
      record {
        run = h.run;
        back = h.back;
        ends = subst (λ (m : Marking). Correspond n m u) (marking_after n (opening n) r) (correspond n (after n (opening n) r) u h.reach);
      }

  -- Steps that may change places: demand 3 in full.
  pub lawful_exchanged : Plain n l → (r : List ℕ) (k : ℕ) → suc k < length r → T (runs n (begin n) r) → T (apart_step n (begin n) r k) → Exchanged n l r k
  unfolding opening
  lawful_exchanged plain r k h t a =
      let x = exchange_runs n (begin n) r k h t a in
      let y = swapped n l plain (opening n) (reached_opening n) r k 0 h t a in
      record {
        run = x.0;
        same_end = x.1;
        both_lift = y.repeat;
        swapped = y.exchange;
        lifted_end = λ o.
            let p = (lifting_runs n l law r t o).reach in
            let q = (lifting_runs n l law (exchanged k r) x.0 (y.repeat.0 o)).reach in
            determined n (after n (opening n) r) (end (basic n) (begin (basic n)) (lifted n l (opening n) (exchanged k r))) (end (basic n) (begin (basic n)) (lifted n l (opening n) r))
            (rw y.same_state at q) p;
      }

-- ---- demand 2 for the call lift

-- What lift answers is a run of the unfolded net that reads back as the run, and the ends correspond.
pub lift_lifts : (n : Net) (r w : List ℕ) → lift n r ≡ run w → Lifts n r w
unfolding lift opening
lift_lifts n r w h =
    let x = unless_run (too_long r) (unless (unfolding_refused n) (lifting n (own_or_earliest n) 0 (opening n) r)) w h in
    let y = unless_run (unfolding_refused n) (lifting n (own_or_earliest n) 0 (opening n) r) w x.1 in
    let z = lifting_run n (own_or_earliest n) 0 (opening n) r w y.1 in
    subst (λ (q : List ℕ). Lifts n r q) (sym z.2) (lawful_lifts n (own_or_earliest n) (own_lawful n) r z.0 z.1)

-- A lift has a number for each step, and no more than a run may have steps.
pub lift_length : (n : Net) (r w : List ℕ) → Lifts n r w → length w ≡ length r
lift_length n r w l = sym (length_back n w) ∙ ap length l.back

pub lift_most : (n : Net) (r w : List ℕ) → lift n r ≡ run w → length w ≤ most_steps
unfolding lift
lift_most n r w h =
    let x = unless_run (too_long r) (unless (unfolding_refused n) (lifting n (own_or_earliest n) 0 (opening n) r)) w h in
    rw (lift_length n r w (lift_lifts n r w h)) (short_length r x.0)

-- Where the table unfolds and the run is not too long, lift is the lifting of the run's steps.
module _ (n : Net) (r : List ℕ) (short : too_long r ≡ none) (unfolds : unfolding_refused n ≡ none) where
  lift_is : lift n r ≡ lifting n (own_or_earliest n) 0 (opening n) r
  unfolding lift
  lift_is = rw (short, unfolds)

  -- Lift answers with a run exactly if it was given a run in which no event that marks for another comes twice.
  pub lift_exactly : ((w : List ℕ) × (lift n r ≡ run w)) ↔ (T (runs n (begin n) r) × ((i : ℕ) → Again n r i → ⊥))
  unfolding opening
  lift_exactly = (
    λ h. let z = lifting_run n (own_or_earliest n) 0 (opening n) r h.0 (sym lift_is ∙ h.1) in (z.0, none_again n r z.1),
    λ h. (lifted n (own_or_earliest n) (opening n) r, lift_is ∙ run_lifting n (own_or_earliest n) 0 (opening n) r h.0 (again_none n r h.1)),
  )

  -- Lift refuses with 15 exactly if an event that marks for another comes twice, at the first such second occurrence.
  pub lift_again : (i : ℕ) → (lift n r ≡ refusal (other 15 i)) ↔ (T (runs n (begin n) r) × FirstAgain n r i)
  unfolding opening
  lift_again i = (
    λ h. let z = (lifting_again n (own_or_earliest n) 0 (opening n) r i).0 (sym lift_is ∙ h) in (z.0, (repeated_exactly n r i).0 z.1),
    λ h. lift_is ∙ (lifting_again n (own_or_earliest n) 0 (opening n) r i).1 (h.0, (repeated_exactly n r i).1 h.1),
  )

  module _ (sound : Sound n) where
    -- Lift answers with a run exactly if some run of the unfolded net reads back as the one it was given.
    pub lift_read : ((w : List ℕ) × (lift n r ≡ run w)) ↔ Reading n r
    unfolding opening
    lift_read = (
      λ h. let z = lifting_run n (own_or_earliest n) 0 (opening n) r h.0 (sym lift_is ∙ h.1) in keeps_reading n r z.0 z.1,
      λ w. (lifted n (own_or_earliest n) (opening n) r, lift_is ∙ run_lifting n (own_or_earliest n) 0 (opening n) r (reading_runs n sound r w) (reading_keeps n sound r w)),
    )

    -- Lift refuses with 15 exactly if none reads back as the run that it was given,
    pub lift_unread : ((i : ℕ) × (lift n r ≡ refusal (other 15 i))) ↔ (T (runs n (begin n) r) × (Reading n r → ⊥))
    unfolding opening
    lift_unread = (
      λ h.
          let z = (lifting_again n (own_or_earliest n) 0 (opening n) r h.0).0 (sym lift_is ∙ h.1) in
          (z.0, λ w. none_some (sym (reading_keeps n sound r w) ∙ z.1)),
      λ h. go (repeated n (own_or_earliest n) 0 (opening n) r) refl h.0 h.1,
    )
      where
        none_some : {i : ℕ} → none ≡ some i → ⊥
        none_some q = let z : ◌≡◌ {A = ℕ} 0 1 = cc in omega arith

        go : (o : Option ℕ) → repeated n (own_or_earliest n) 0 (opening n) r ≡ o → T (runs n (begin n) r) → (Reading n r → ⊥) → (i : ℕ) × (lift n r ≡ refusal (other 15 i))
        go none q t h = absurd (h (keeps_reading n r t q))
        go (some i) q t h = (i, lift_is ∙ (lifting_again n (own_or_earliest n) 0 (opening n) r i).1 (t, q))

    -- and its place is the first step that no reading goes past.
    pub lift_unread_at : (i : ℕ) → (lift n r ≡ refusal (other 15 i)) ↔ (T (runs n (begin n) r) × Unread n r i)
    unfolding opening
    lift_unread_at i = (
      λ h. let z = (lifting_again n (own_or_earliest n) 0 (opening n) r i).0 (sym lift_is ∙ h) in (z.0, (repeated_unread n sound r z.0 i).0 z.1),
      λ h. lift_is ∙ (lifting_again n (own_or_earliest n) 0 (opening n) r i).1 (h.0, (repeated_unread n sound r h.0 i).1 h.1),
    )

  -- Lift refuses with 10, 11 or 12 exactly where a step stops.
  pub lift_stopped : (v : Stop) (i : ℕ) → (lift n r ≡ refusal (stopped of_table v i)) ↔ Stops n 0 (opening n) r v i
  lift_stopped v i = (
    λ h. (lifting_stopped n (own_or_earliest n) 0 (opening n) r v i).0 (sym lift_is ∙ h),
    λ p. lift_is ∙ (lifting_stopped n (own_or_earliest n) 0 (opening n) r v i).1 p,
  )

-- ---- demand 2 for the call project

module _ (n : Net) (w : List ℕ) (short : too_long w ≡ none) (unfolds : unfolding_refused n ≡ none) where
  project_is : project n w ≡ projecting n w
  unfolding project
  project_is = rw (short, unfolds)

  -- Project answers with a run exactly if it was given a run of the unfolded net from its start.
  pub project_exactly : ((r : List ℕ) × (project n w ≡ run r)) ↔ T (runs (basic n) (begin (basic n)) w)
  project_exactly = (λ h. (projecting_run n w h.0 (sym project_is ∙ h.1)).0, λ t. (read_back n w, project_is ∙ run_projecting n w t))

  -- Project refuses with 10, 11 or 12 exactly where a step stops in the unfolded net.
  pub project_stopped : (v : Stop) (i : ℕ) → (project n w ≡ refusal (stopped of_unfolding v i)) ↔ Stops (basic n) 0 (opening (basic n)) w v i
  project_stopped v i = (λ h. (projecting_stopped n w v i).0 (sym project_is ∙ h), λ p. project_is ∙ (projecting_stopped n w v i).1 p)

-- What project answers is a run of the table, read back from a run of the unfolded net, and the ends correspond.
pub project_projects : (n : Net) → Sound n → (w r : List ℕ) → project n w ≡ run r → Projects n w r
unfolding project
project_projects n s w r h =
    let x = unless_run (too_long w) (unless (unfolding_refused n) (projecting n w)) r h in
    let y = unless_run (unfolding_refused n) (projecting n w) r x.1 in
    let z = projecting_run n w r y.1 in
    let p = projection n s w z.0 in
    record {
      unfolded = z.0;
      back = z.1;
      run = subst (λ (x : List ℕ). T (runs n (begin n) x)) z.1 p.0;
      ends = subst (λ (x : List ℕ). Correspond n (end n (begin n) x) (end (basic n) (begin (basic n)) w)) z.1 p.1;
    }

-- What lift answers, project takes back to the run.
pub lift_project : (n : Net) (r w : List ℕ) → lift n r ≡ run w → project n w ≡ run r
unfolding lift project
lift_project n r w h =
    let x = unless_run (too_long r) (unless (unfolding_refused n) (lifting n (own_or_earliest n) 0 (opening n) r)) w h in
    let y = unless_run (unfolding_refused n) (lifting n (own_or_earliest n) 0 (opening n) r) w x.1 in
    let l = lift_lifts n r w h in
    rw (length_short w (lift_most n r w h), y.0) (run_projecting n w l.run ∙ ap run l.back)

-- The unfolded marking that a run of the unfolded net reaches is told by the run that it reads back as.
pub unfolded_marking : (n : Net) → Sound n → (w : List ℕ) → T (runs (basic n) (begin (basic n)) w)
    → (k : ℕ) (p : UnfoldedCondition) → get_elem? (unfolded_conditions n) k ≡ some p → end (basic n) (begin (basic n)) w k ≡ holds_after n (read_back n w) p
unfolding opening
unfolded_marking n d w t k p h =
    (project_from n d (opening n) (begin (basic n)) (copies_opening n) w t).1.holding k p h ∙ status_after n (read_back n w) p

-- ---- demand 3 for the call exchange

-- What exchange answers is the run with the two steps exchanged, and demand 3 holds of it.
pub exchange_exchanged : (n : Net) (r : List ℕ) (k : ℕ) (q : List ℕ) → exchange n r k ≡ run q → (q ≡ exchanged k r) × Exchanged n (own_or_earliest n) r k
unfolding exchange
exchange_exchanged n r k q h =
    let x = unless_run (too_long r) (exchanging n r k) q h in
    let y = exchanging_run n r k q x.1 in
    (y.3, lawful_exchanged n (own_or_earliest n) (own_lawful n) (own_plain n) r k y.1 y.0 y.2)

module _ (n : Net) (r : List ℕ) (k : ℕ) (short : too_long r ≡ none) where
  exchange_is : exchange n r k ≡ exchanging n r k
  unfolding exchange
  exchange_is = rw short

  -- Exchange is made exactly if it was given a run whose steps k and k + 1 are there and may change places.
  pub exchange_exactly : (exchange n r k ≡ run (exchanged k r)) ↔ (T (runs n (begin n) r) × (suc k < length r) × T (apart_step n (begin n) r k))
  exchange_exactly = (
    λ h. let y = exchanging_run n r k (exchanged k r) (sym exchange_is ∙ h) in (y.0, y.1, y.2),
    λ h. exchange_is ∙ run_exchanging n r k h.0 h.1 h.2,
  )

  -- Exchange refuses with 10 at k exactly if it was given a run that has no step k + 1,
  pub exchange_no_step : (exchange n r k ≡ refusal (other 10 k)) ↔ (T (runs n (begin n) r) × (suc k < length r → ⊥))
  exchange_no_step = (λ h. (exchanging_no_step n r k).0 (sym exchange_is ∙ h), λ h. exchange_is ∙ (exchanging_no_step n r k).1 h)

  -- with 17 at k exactly if the two steps are there and may not change places,
  pub exchange_not_apart : (exchange n r k ≡ refusal (other 17 k)) ↔ (T (runs n (begin n) r) × (suc k < length r) × (apart_step n (begin n) r k ≡ false))
  exchange_not_apart = (λ h. (exchanging_not_apart n r k).0 (sym exchange_is ∙ h), λ h. exchange_is ∙ (exchanging_not_apart n r k).1 h)

  -- and with 10, 11 or 12 at a step exactly where that step stops.
  pub exchange_stopped : (v : Stop) (i : ℕ) → (exchange n r k ≡ refusal (stopped of_table v i)) ↔ Stops n 0 (opening n) r v i
  exchange_stopped v i = (λ h. (exchanging_stopped n r k v i).0 (sym exchange_is ∙ h), λ p. exchange_is ∙ (exchanging_stopped n r k v i).1 p)

-- One run lifts exactly if the other does, and the lifts differ by the same exchange alone.
pub exchange_lifts : (n : Net) (r : List ℕ) (k : ℕ) (q : List ℕ) → exchange n r k ≡ run q → (w : List ℕ) → (lift n r ≡ run w) ↔ (lift n q ≡ run (exchanged k w))
unfolding lift opening exchange
exchange_lifts n r k q h w =
    let x = exchange_exchanged n r k q h in
    let d = x.1 in
    let short = (unless_run (too_long r) (exchanging n r k) q h).0 in
    let runs-r = (exchanging_run n r k q (unless_run (too_long r) (exchanging n r k) q h).1).0 in
    subst (λ (p : List ℕ). (lift n r ≡ run w) ↔ (lift n p ≡ run (exchanged k w))) (sym x.0) (
      λ a.
          let y = unless_run (unfolding_refused n) (lifting n (own_or_earliest n) 0 (opening n) r) w (unless_run (too_long r) (unless (unfolding_refused n) (lifting n (own_or_earliest n) 0 (opening n) r)) w a).1 in
          let z = lifting_run n (own_or_earliest n) 0 (opening n) r w y.1 in
          rw (exchanged_short k r short, y.0)
          (run_lifting n (own_or_earliest n) 0 (opening n) (exchanged k r) d.run (d.both_lift.0 z.1) ∙ ap run (d.swapped ∙ ap (exchanged k) (sym z.2))),
      λ a.
          let y = unless_run (unfolding_refused n) (lifting n (own_or_earliest n) 0 (opening n) (exchanged k r)) (exchanged k w)
          (unless_run (too_long (exchanged k r)) (unless (unfolding_refused n) (lifting n (own_or_earliest n) 0 (opening n) (exchanged k r))) (exchanged k w) a).1 in
          let z = lifting_run n (own_or_earliest n) 0 (opening n) (exchanged k r) (exchanged k w) y.1 in
          let back : w ≡ lifted n (own_or_earliest n) (opening n) r
          = sym (exchanged_twice k w) ∙ ap (exchanged k) (z.2 ∙ d.swapped) ∙ exchanged_twice k (lifted n (own_or_earliest n) (opening n) r) in
          rw (short, y.0) (run_lifting n (own_or_earliest n) 0 (opening n) r runs-r (d.both_lift.1 z.1) ∙ ap run (sym back)),
    )

-- Both runs end alike, and so do their lifts.
pub exchange_ends : (n : Net) (r : List ℕ) (k : ℕ) (q : List ℕ) → exchange n r k ≡ run q → (w : List ℕ) → lift n r ≡ run w
    → (end n (begin n) q ≡ end n (begin n) r) × (end (basic n) (begin (basic n)) (exchanged k w) ≡ end (basic n) (begin (basic n)) w)
unfolding lift
exchange_ends n r k q h w a =
    let x = exchange_exchanged n r k q h in
    let d = x.1 in
    let y = unless_run (unfolding_refused n) (lifting n (own_or_earliest n) 0 (opening n) r) w (unless_run (too_long r) (unless (unfolding_refused n) (lifting n (own_or_earliest n) 0 (opening n) r)) w a).1 in
    let z = lifting_run n (own_or_earliest n) 0 (opening n) r w y.1 in (
      ap (end n (begin n)) x.0 ∙ d.same_end,
      ap (λ (p : List ℕ). end (basic n) (begin (basic n)) (exchanged k p)) z.2
          ∙ ap (end (basic n) (begin (basic n))) (sym d.swapped)
          ∙ d.lifted_end z.1
          ∙ ap (end (basic n) (begin (basic n))) (sym z.2),
    )
