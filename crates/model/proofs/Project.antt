-- Demand 2, back: every run of the unfolded net from its start reads back as a run of the table.
use mathlib.Core.Path.{◌≡◌, refl, sym, subst}
use mathlib.Core.Bool.{Bool, true, false}
use mathlib.Core.List.{List, [], ◌∷◌}
use Prim.Native.Nat.{ℕ, ◌<◌}
use lib.Dec.{T, eqb, eqb_refl, lt→ltb}
use lib.ListN.{length, length-map}
use Rattle.lists.specs.Lists.{mem, ◌∈◌}
use Rattle.lists.proofs.Bools.{T_of, and_both}
use Rattle.lists.proofs.Places.{place_of}
use Rattle.model.specs.Net.{Net, Sound, Marking, begin, free, can, fire}
use Rattle.model.specs.Runs.{runs, end, State, opening, step, after}
use Rattle.model.specs.Unfolding.{ordinary, copy, reads, unfolded_events, picked, takes, puts, origin, basic}
use Rattle.model.specs.Across.{read_back}
use Rattle.model.specs.Demands.{Correspond}
use Rattle.model.proofs.Firing.{runs_first, runs_rest, runs_cons, can_event, can_concession, can_of, unblocked, concession_intro}
use Rattle.model.proofs.Unfolded.{event_uses, ordinary_in_lem, copy_in, colour_out, colour_picks, puts_at, free_ordinary, origin_in}
use Rattle.model.proofs.Copies.{status, Copies, copies_opening, takes_held, copies_step, correspond, marking_after}

-- a run read back has as many steps
pub length_back : (n : Net) (w : List ℕ) → length (read_back n w) ≡ length w
unfolding read_back
length_back n w = length-map w (λ j. (origin n j).event)

-- a step of the unfolded net reads back as a step of the table
module _ (n : Net) (d : Sound n) (s : State) (u : Marking) (i : Copies n s u) (j : ℕ) (c : T (can (basic n) u j)) where
  -- the table's event
  abbrev e : ℕ
  e = (origin n j).event

  there : origin n j ∈ unfolded_events n
  there = origin_in n j (can_event (basic n) u j c)

  here : e < n.events
  here = (colour_out n (origin n j) there).0

  back_pre : (b : ℕ) → T (mem b (n.preconditions e)) → T (s.marking b)
  unfolding takes status
  back_pre b t = go (n.persistent b) refl
    where
      go : (x : Bool) → n.persistent b ≡ x → T (s.marking b)
      go false p =
          let q = place_of (ordinary_in_lem n b (d.pre_in e b here t) p) in
          takes_held n s u i j c q.0 (ordinary b) q.1 t
      go true p =
          let r = colour_picks n (origin n j) there b (T_of (n.persistent b) p) t in
          let q = place_of (copy_in n b r.0 e (d.pre_in e b here t) p r.1 (event_uses n b e here t)) in
          i.reached.held b p r.0
          (takes_held n s u i j c q.0 (copy b r.0 e) q.1 (and_both (eqb e e) (picked (reads n e) (origin n j).colour b r.0) (eqb_refl e) r.2))

  back_post : (b : ℕ) → T (mem b (n.postconditions e)) → n.persistent b ≡ false → T (s.marking b) → T (free n e b)
  unfolding puts status
  back_post b t p h =
      let q = place_of (ordinary_in_lem n b (d.post_in e b here t) p) in
      subst T (free_ordinary n j q.0 b q.1 p)
      (unblocked (basic n) u j (can_concession (basic n) u j c) q.0 (subst T (sym (puts_at n j q.0 (ordinary b) q.1)) t)
      (subst T (sym (i.holding q.0 (ordinary b) q.1)) h))

  pub back_can : T (can n s.marking e)
  back_can = can_of n s.marking e (lt→ltb e n.events here) (concession_intro n s.marking e back_pre back_post)

  pub back_step : Copies n (step n s e) (fire (basic n) u j)
  back_step = copies_step n s u i j c back_can

pub project_from : (n : Net) → Sound n → (s : State) (u : Marking) → Copies n s u → (w : List ℕ) → T (runs (basic n) u w)
    → T (runs n s.marking (read_back n w)) × Copies n (after n s (read_back n w)) (end (basic n) u w)
unfolding end runs read_back after step
project_from n d s u i [] t = (tt, i)
project_from n d s u i (j ∷ w) t =
    let c = runs_first (basic n) u j w t in
    let e = (origin n j).event in
    let r = project_from n d (step n s e) (fire (basic n) u j) (back_step n d s u i j c) w (runs_rest (basic n) u j w t) in
    (runs_cons n s.marking e (read_back n w) (back_can n d s u i j c) r.0, r.1)

-- Every run of the unfolded net from its start reads back as a run of the table from its start, and the ends correspond.
pub projection : (n : Net) → Sound n → (w : List ℕ) → T (runs (basic n) (begin (basic n)) w)
    → T (runs n (begin n) (read_back n w)) × Correspond n (end n (begin n) (read_back n w)) (end (basic n) (begin (basic n)) w)
unfolding opening
projection n d w t =
    let r = project_from n d (opening n) (begin (basic n)) (copies_opening n) w t in (
      r.0,
      subst (λ (m : Marking). Correspond n m (end (basic n) (begin (basic n)) w)) (marking_after n (opening n) (read_back n w))
          (correspond n (after n (opening n) (read_back n w)) (end (basic n) (begin (basic n)) w) r.1),
    )
