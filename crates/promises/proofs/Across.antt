-- Demands 2 and 3 for the calls: what lift wrote, project takes back; what project wrote, replay accepts; what project takes; 15 exactly
-- when; and the exchange, lifts included.
use mathlib.Core.Path.{◌≡◌, refl, sym, ap, ◌∙◌, subst}
use mathlib.Core.Logic.{◌↔◌}
use mathlib.Core.Bool.{Bool, true, false}
use mathlib.Core.Option.{none}
use mathlib.Core.List.{List, [], ◌∷◌, ◌++◌}
use Prim.Native.Nat.{ℕ, zero, suc, ◌≤◌, ◌<◌}
use native.Mathlib.Omega.{arith}
use lib.Dec.{T, leb}
use lib.ListN.{length, take, drop}
use Rattle.model.specs.Net.{Net, Marking, begin, unknown, lacks, meets}
use Rattle.model.specs.Runs.{runs, end, opening, replay}
use Rattle.model.specs.Unfolding.{basic}
use Rattle.model.specs.Lent.{bytes}
use Rattle.model.specs.Exchange.{exchanged}
use Rattle.model.specs.Across.{Answer, run, refusal, of_table, stopped, other, unless, stuck, most_steps, too_long, unfolding_refused, lift, read_back, projecting, project, exchanging, exchange}
use Rattle.model.specs.Demands.{Correspond, Projects}
use Rattle.model.proofs.Answers.{unless_run, not_stuck, stuck_none, exchanging_run, short_length, length_short}
use Rattle.model.proofs.Exchange.{exchanged_twice, length_exchanged}
use Rattle.model.proofs.Demands.{lift_lifts, lift_project, lift_exactly, lift_again, lift_read, lift_unread, lift_unread_at, project_projects, project_exactly, exchange_exchanged, exchange_lifts, exchange_ends, lift_length}
use Rattle.model.proofs.Project.{length_back}
use Rattle.model.proofs.Readings.{forced}
use Rattle.refusal.specs.Answer.{Judged, refused_at, need, fitting, written}
use Rattle.std.specs.Prelude.{Ok}
use Rattle.refusal.specs.Answer as refused
use Rattle.refusal.proofs.Chain.{never_both, then_fine, fitting_room, written_front}
use Rattle.table.specs.Walk.{judge_of}
use Rattle.table.specs.Decoded.{net_of}
use Rattle.table.proofs.Sound.{accepted_sound}
use Rattle.table.proofs.Links.{link_fine}
use Rattle.game.specs.Calls.{leaves}
use Rattle.replay.specs.Calls.{played_of, replay_of}
use Rattle.exchange.specs.Calls.{swapping, exchange_of, exchanged_of}
use Rattle.across.specs.Calls.{fitted, numbers_of, ended}
use Rattle.across.proofs.Prefix.{fitted_fine, ended_fine}
use Rattle.lift.specs.Calls.{lift_of, lifted_of}
use Rattle.ends.specs.Calls.{lift_end_of, lift_ended_of, unfolded_replay_of, unfolded_replayed_of}
use Rattle.project.specs.Calls.{project_of, projected_of}
use Rattle.promises.specs.Across.{lift_on, project_on, TakenBack, ReadBack, TakenExactly, TurnedAway, LiftedAlike}
use Rattle.promises.specs.Former.{former_lift, former_lift_of}
use Rattle.promises.proofs.Former.{none_new}
use Rattle.promises.proofs.Game.{swapping_fine}

-- ---- the calls on a judged table, by the model's answers

module _ (s : List ℕ) (n : ℕ) (j : judge_of s ≡ Ok n) where
  pub lift_by : (r : List ℕ) (room : ℕ) → lift_of s r room ≡ fitted (lift (net_of s) r) room
  unfolding lift_of
  lift_by r room = rw j

  pub lift_end_by : (r : List ℕ) (room : ℕ) → lift_end_of s r room ≡ ended (lift (net_of s) r) (basic (net_of s)).conditions room
  unfolding lift_end_of
  lift_end_by r room = rw j

  pub project_by : (w : List ℕ) (room : ℕ) → project_of s w room ≡ fitted (project (net_of s) w) room
  unfolding project_of
  project_by w room = rw j

  pub unfolded_replay_by : (w : List ℕ) (room : ℕ) → unfolded_replay_of s w room ≡ ended (project (net_of s) w) (basic (net_of s)).conditions room
  unfolding unfolded_replay_of
  unfolded_replay_by w room = rw j

  -- a lift or a projection that is a run, given room
  pub lift_given : (r w : List ℕ) (room : ℕ) → lift (net_of s) r ≡ run w → length w ≤ room → lift_of s r room ≡ Ok (length w)
  unfolding fitted
  lift_given r w room a h = lift_by r room ∙ ap (λ (x : Answer). fitted x room) a ∙ fitting_room (length w) room h

  pub project_given : (w r : List ℕ) (room : ℕ) → project (net_of s) w ≡ run r → length r ≤ room → project_of s w room ≡ Ok (length r)
  unfolding fitted
  project_given w r room a h = project_by w room ∙ ap (λ (x : Answer). fitted x room) a ∙ fitting_room (length r) room h

  pub lift_end_given : (r w : List ℕ) (room : ℕ) → lift (net_of s) r ≡ run w → (basic (net_of s)).conditions ≤ room → lift_end_of s r room ≡ Ok (basic (net_of s)).conditions
  unfolding ended
  lift_end_given r w room a h = lift_end_by r room ∙ ap (λ (x : Answer). ended x (basic (net_of s)).conditions room) a ∙ fitting_room (basic (net_of s)).conditions room h

  -- a run that is replayed, given room
  pub replay_given : (r : List ℕ) (room : ℕ) → length r ≤ most_steps → T (runs (net_of s) (begin (net_of s)) r) → (net_of s).conditions ≤ room → replay_of s r room ≡ Ok (net_of s).conditions
  unfolding replay_of played_of opening
  replay_given r room short t h =
      rw (j, length_short r short, stuck_none of_table (net_of s) 0 (opening (net_of s)) r t) (fitting_room (net_of s).conditions room h)

-- what is read back has as many steps
pub project_length : (n : Net) (w r : List ℕ) → Projects n w r → length r ≡ length w
project_length n w r p = ap length (sym p.back) ∙ length_back n w

-- ---- demand 2

-- What lift wrote is a run of the unfolded net with the corresponding end, and project takes it back to the run.
pub lift_taken_back : (s r out : List ℕ) (c : ℕ) → lift_of s r (length out) ≡ Ok c → (run_out end_out : List ℕ) → TakenBack s r out run_out end_out
unfolding lift_of lifted_of projected_of lift_ended_of unfolded_replayed_of ended
lift_taken_back s r out c h run_out end_out =
    let (n, j, f) = then_fine (judge_of s) (λ _. fitted (lift (net_of s) r) (length out)) c h in
    let (w, a, e, room) = fitted_fine (lift (net_of s) r) (length out) c f in
    let p = lift_project (net_of s) r w a in
    let l = lift_lifts (net_of s) r w a in
    let long = lift_length (net_of s) r w l in
    let on : lift_on s r out ≡ w
    = ap (λ (k : ℕ). take k (lifted_of s r out)) (sym long)
    ∙ ap (λ (x : List ℕ). take (length w) (written (lift_of s r (length out)) x out)) (ap numbers_of a)
    ∙ written_front (lift_of s r (length out)) c w out h in
    let same : unfolded_replay_of s w (length end_out) ≡ lift_end_of s r (length end_out)
    = unfolded_replay_by s n j w (length end_out) ∙ ap (λ (x : Answer). ended x (basic (net_of s)).conditions (length end_out)) p
    ∙ sym (lift_end_by s n j r (length end_out) ∙ ap (λ (x : Answer). ended x (basic (net_of s)).conditions (length end_out)) a) in
    record {
      unfolded = subst (λ (x : List ℕ). T (runs (basic (net_of s)) (begin (basic (net_of s))) x)) (sym on) l.run;
      back = ap (read_back (net_of s)) on ∙ l.back;
      ends = subst (λ (x : List ℕ). Correspond (net_of s) (end (net_of s) (begin (net_of s)) r) (end (basic (net_of s)) (begin (basic (net_of s))) x)) (sym on) l.ends;
      answer = λ g. ap (λ (x : List ℕ). project_of s x (length run_out)) on ∙ project_given s n j w r (length run_out) p g;
      run = λ g.
          ap (λ (x : List ℕ). project_on s x run_out) on
          ∙ ap (λ (k : ℕ). take k (projected_of s w run_out)) long
          ∙ ap (λ (x : List ℕ). take (length r) (written (project_of s w (length run_out)) x run_out)) (ap numbers_of p)
          ∙ written_front (project_of s w (length run_out)) (length r) r run_out (project_given s n j w r (length run_out) p g);
      end_answer = ap (λ (x : List ℕ). unfolded_replay_of s x (length end_out)) on ∙ same;
      same_end = ap (λ (x : List ℕ). unfolded_replayed_of s x end_out) on ∙ told s r w end_out same a;
    }
  where
    told : (s r w out : List ℕ) → unfolded_replay_of s w (length out) ≡ lift_end_of s r (length out) → lift (net_of s) r ≡ run w → unfolded_replayed_of s w out ≡ lift_ended_of s r out
    told s r w out e a = rw (e, a)

-- What project wrote is a run of the table with the corresponding end, and replay accepts it.
pub project_read_back : (s w out : List ℕ) (c : ℕ) → project_of s w (length out) ≡ Ok c → (end_out : List ℕ) → ReadBack s w out end_out
unfolding project_of projected_of project
project_read_back s w out c h end_out =
    let (n, j, f) = then_fine (judge_of s) (λ _. fitted (project (net_of s) w) (length out)) c h in
    let (r, a, e, room) = fitted_fine (project (net_of s) w) (length out) c f in
    let p = project_projects (net_of s) (accepted_sound s n j) w r a in
    let long = project_length (net_of s) w r p in
    let short = short_length w (unless_run (too_long w) (unless (unfolding_refused (net_of s)) (projecting (net_of s) w)) r a).0 in
    let on : project_on s w out ≡ r
    = ap (λ (k : ℕ). take k (projected_of s w out)) (sym long)
    ∙ ap (λ (x : List ℕ). take (length r) (written (project_of s w (length out)) x out)) (ap numbers_of a)
    ∙ written_front (project_of s w (length out)) c r out h in
    record {
      unfolded = p.unfolded;
      back = on ∙ sym p.back;
      run = subst (λ (x : List ℕ). T (runs (net_of s) (begin (net_of s)) x)) (sym on) p.run;
      ends = subst (λ (x : List ℕ). Correspond (net_of s) (end (net_of s) (begin (net_of s)) x) (end (basic (net_of s)) (begin (basic (net_of s))) w)) (sym on) p.ends;
      answer = λ g. ap (λ (x : List ℕ). replay_of s x (length end_out)) on ∙ replay_given s n j r (length end_out) (subst (λ (k : ℕ). k ≤ most_steps) (sym long) short) p.run g;
      forced = forced (net_of s) (accepted_sound s n j) w p.unfolded;
    }

-- Project takes every run of the unfolded net from its start, and nothing else.
pub taken_exactly : (s w : List ℕ) (n : ℕ) → judge_of s ≡ Ok n → unfolding_refused (net_of s) ≡ none → length w ≤ most_steps → (room : ℕ) → TakenExactly s w room
taken_exactly s w n j unfolds short room =
    record {
      taking = λ g. (
        λ e.
            let (r, a, u, v) = fitted_fine (project (net_of s) w) room (length w) (sym (project_by s n j w room) ∙ e) in
            (project_exactly (net_of s) w (length_short w short) unfolds).0 (r, a),
        λ t.
            let (r, a) = (project_exactly (net_of s) w (length_short w short) unfolds).1 t in
            let long = project_length (net_of s) w r (project_projects (net_of s) (accepted_sound s n j) w r a) in
            project_given s n j w r room a (omega (arith, g, long)) ∙ ap Ok long,
      );
    }

-- ---- 15 exactly when

-- an answer that is refused with 15 is the model's
fitted_fifteen : (a : Answer) (room i : ℕ) → fitted a room ≡ refused_at 15 i → a ≡ refusal (other 15 i)
unfolding fitted fitting need
fitted_fifteen (run w) room i e = absurd (go (leb (length w) room) e)
  where
    go : (b : Bool) → need b 16 (length w) (Ok (length w)) ≡ refused_at 15 i → ⊥
    go true e = never_both e
    go false e = let z : ◌≡◌ {A = ℕ} 16 15 = ap refused.number_of e in omega arith
fitted_fifteen (refusal (stopped w unknown k)) room i e = absurd (let z : ◌≡◌ {A = ℕ} 10 15 = ap refused.number_of e in omega arith)
fitted_fifteen (refusal (stopped w (lacks b) k)) room i e = absurd (let z : ◌≡◌ {A = ℕ} 11 15 = ap refused.number_of e in omega arith)
fitted_fifteen (refusal (stopped w (meets b) k)) room i e = absurd (let z : ◌≡◌ {A = ℕ} 12 15 = ap refused.number_of e in omega arith)
fitted_fifteen (refusal (other x k)) room i e =
    let z : x ≡ 15 = ap refused.number_of e in
    let y : k ≡ i = ap refused.place_of e in
    rw (z, y)

-- what replay accepts is a run that is not too long
pub accepted : (n : Net) (r : List ℕ) (room c : ℕ) → played_of n (opening n) r room ≡ Ok c → (too_long r ≡ none) × T (runs n (begin n) r)
unfolding played_of opening
accepted n r room c e =
    let x = link_fine (too_long r) _ c e in
    let y = link_fine (stuck of_table (replay n 0 (opening n) r)) _ c x.1 in
    (x.0, not_stuck of_table n 0 (opening n) r y.0)

-- A run that replay accepts is turned away with 15 exactly where no run of the unfolded net reads back as it.
pub turned_away : (s r end : List ℕ) (c : ℕ) → replay_of s r (length end) ≡ Ok c → unfolding_refused (net_of s) ≡ none → (room : ℕ) → TurnedAway s r room
unfolding replay_of played_of fitted opening former_lift_of
turned_away s r end c h unfolds room =
    let (n, j, f) = then_fine (judge_of s) _ c h in
    let (short, t) = accepted (net_of s) r (length end) c f in
    let sound = accepted_sound s n j in
    let told : (i : ℕ) → lift_of s r room ≡ refused_at 15 i → lift (net_of s) r ≡ refusal (other 15 i)
    = λ i e. fitted_fifteen (lift (net_of s) r) room i (sym (lift_by s n j r room) ∙ e) in
    let tells : (i : ℕ) → lift (net_of s) r ≡ refusal (other 15 i) → lift_of s r room ≡ refused_at 15 i
    = λ i a. lift_by s n j r room ∙ ap (λ (x : Answer). fitted x room) a in
    let lifts : lift_of s r room ≡ Ok (length r) → (w : List ℕ) × (lift (net_of s) r ≡ run w)
    = λ e. let (w, a, u, v) = fitted_fine (lift (net_of s) r) room (length r) (sym (lift_by s n j r room) ∙ e) in (w, a) in
    let fits : length r ≤ room → (w : List ℕ) × (lift (net_of s) r ≡ run w) → lift_of s r room ≡ Ok (length r)
    = λ g x.
    let long = lift_length (net_of s) r x.0 (lift_lifts (net_of s) r x.0 x.1) in
    lift_given s n j r x.0 room x.1 (omega (arith, g, long)) ∙ ap Ok long in
    record {
      refusing = (
        λ e. ((lift_unread (net_of s) r short unfolds sound).0 (e.0, told e.0 e.1)).1,
        λ q. let a = (lift_unread (net_of s) r short unfolds sound).1 (t, q) in (a.0, tells a.0 a.1),
      );
      unread = λ i. (
        λ e. ((lift_unread_at (net_of s) r short unfolds sound i).0 (told i e)).1,
        λ g. tells i ((lift_unread_at (net_of s) r short unfolds sound i).1 (t, g)),
      );
      repeating = λ i. (
        λ e. ((lift_again (net_of s) r short unfolds i).0 (told i e)).1,
        λ g. tells i ((lift_again (net_of s) r short unfolds i).1 (t, g)),
      );
      sooner = λ i e. let a = none_new (net_of s) r short unfolds i (told i e) in (a.0, a.1, former s r n a.0 room j a.2);
      reading = λ g. (
        λ e. (lift_read (net_of s) r short unfolds sound).0 (lifts e),
        λ w. fits g ((lift_read (net_of s) r short unfolds sound).1 w),
      );
      lifting = λ g. (
        λ e. ((lift_exactly (net_of s) r short unfolds).0 (lifts e)).1,
        λ q. fits g ((lift_exactly (net_of s) r short unfolds).1 (t, q)),
      );
    }
  where
    former : (s r : List ℕ) (n k room : ℕ) → judge_of s ≡ Ok n → former_lift (net_of s) r ≡ refusal (other 15 k) → former_lift_of s r room ≡ refused_at 15 k
    former s r n k room j a = rw (j, a)

-- ---- demand 3

-- two steps exchanged before something else
exchanged_before : (k : ℕ) (w rest : List ℕ) → suc k < length w → exchanged k (w ++ rest) ≡ exchanged k w ++ rest
exchanged_before k [] rest h = absurd (omega arith)
exchanged_before zero (x ∷ []) rest h = absurd (omega arith)
exchanged_before zero (x ∷ y ∷ w) rest h = refl
exchanged_before (suc k) (x ∷ w) rest h = ap {B = List ℕ} (λ z. x ∷ z) (exchanged_before k w rest (omega arith))

-- what is written of a lift that is w
lifted_as : (s r out w : List ℕ) (c : ℕ) → lift_of s r (length out) ≡ Ok c → lift (net_of s) r ≡ run w → lifted_of s r out ≡ w ++ drop (length w) out
unfolding lifted_of
lifted_as s r out w c e a = rw (e, a)

ended_as : (s r out w : List ℕ) (c : ℕ) → lift_end_of s r (length out) ≡ Ok c → lift (net_of s) r ≡ run w
    → lift_ended_of s r out ≡ written (Ok c) (bytes (basic (net_of s)).conditions (end (basic (net_of s)) (begin (basic (net_of s))) w)) out
unfolding lift_ended_of
ended_as s r out w c e a = rw (e, a)

-- a run r and the run q that the model's exchange makes of it
module _ (s r : List ℕ) (k n : ℕ) (j : judge_of s ≡ Ok n) (q : List ℕ) (a : exchange (net_of s) r k ≡ run q) where
  forth : (w : List ℕ) → lift (net_of s) r ≡ run w → lift (net_of s) q ≡ run (exchanged k w)
  forth w = (exchange_lifts (net_of s) r k q a w).0

  back : (v : List ℕ) → lift (net_of s) q ≡ run v → lift (net_of s) r ≡ run (exchanged k v)
  back v e = (exchange_lifts (net_of s) r k q a (exchanged k v)).1 (e ∙ ap run (sym (exchanged_twice k v)))

  both_lift : (room c : ℕ) → (lift_of s r room ≡ Ok c) ↔ (lift_of s q room ≡ Ok c)
  both_lift room c = (
    λ e.
        let (w, b, u, v) = fitted_fine (lift (net_of s) r) room c (sym (lift_by s n j r room) ∙ e) in
        let same = length_exchanged k w in
        lift_given s n j q (exchanged k w) room (forth w b) (omega (arith, same, v)) ∙ ap Ok (same ∙ sym u),
    λ e.
        let (w, b, u, v) = fitted_fine (lift (net_of s) q) room c (sym (lift_by s n j q room) ∙ e) in
        let same = length_exchanged k w in
        lift_given s n j r (exchanged k w) room (back w b) (omega (arith, same, v)) ∙ ap Ok (same ∙ sym u),
  )

  both_end : (room c : ℕ) → (lift_end_of s r room ≡ Ok c) ↔ (lift_end_of s q room ≡ Ok c)
  both_end room c = (
    λ e.
        let (w, b, u, v) = ended_fine (lift (net_of s) r) (basic (net_of s)).conditions room c (sym (lift_end_by s n j r room) ∙ e) in
        lift_end_given s n j q (exchanged k w) room (forth w b) v ∙ ap Ok (sym u),
    λ e.
        let (w, b, u, v) = ended_fine (lift (net_of s) q) (basic (net_of s)).conditions room c (sym (lift_end_by s n j q room) ∙ e) in
        lift_end_given s n j r (exchanged k w) room (back w b) v ∙ ap Ok (sym u),
  )

  swapped : suc k < length r → (out : List ℕ) (c : ℕ) → lift_of s r (length out) ≡ Ok c → lifted_of s q out ≡ exchanged k (lifted_of s r out)
  swapped next out c e =
      let (w, b, u, v) = fitted_fine (lift (net_of s) r) (length out) c (sym (lift_by s n j r (length out)) ∙ e) in
      let long = lift_length (net_of s) r w (lift_lifts (net_of s) r w b) in
      lifted_as s q out (exchanged k w) c ((both_lift (length out) c).0 e) (forth w b)
      ∙ ap (λ (x : ℕ). exchanged k w ++ drop x out) (length_exchanged k w)
      ∙ sym (exchanged_before k w (drop (length w) out) (omega (arith, next, long)))
      ∙ ap (exchanged k) (sym (lifted_as s r out w c e b))

  same_end : (out : List ℕ) (c : ℕ) → lift_end_of s r (length out) ≡ Ok c → lift_ended_of s q out ≡ lift_ended_of s r out
  same_end out c e =
      let (w, b, u, v) = ended_fine (lift (net_of s) r) (basic (net_of s)).conditions (length out) c (sym (lift_end_by s n j r (length out)) ∙ e) in
      ended_as s q out (exchanged k w) c ((both_end (length out) c).0 e) (forth w b)
      ∙ ap (λ (m : Marking). written (Ok c) (bytes (basic (net_of s)).conditions m) out) (exchange_ends (net_of s) r k q a w b).1
      ∙ sym (ended_as s r out w c e b)

-- Of a run and the run that exchange leaves, one lifts exactly if the other does, and the lifts differ by the exchange alone.
pub exchange_lifted_alike : (s r : List ℕ) (k c : ℕ) → exchange_of s r k ≡ Ok c → (out end_out : List ℕ) → LiftedAlike s r k out end_out
unfolding exchange_of exchanged_of exchange
exchange_lifted_alike s r k c h out end_out =
    let (n, j, f) = then_fine (judge_of s) (λ n. swapping (exchange (net_of s) r k)) c h in
    let (q, a) = swapping_fine (exchange (net_of s) r k) c f in
    let next = (exchanging_run (net_of s) r k q (unless_run (too_long r) (exchanging (net_of s) r k) q a).1).1 in
    let left : exchanged_of s r k ≡ q = ap (λ (x : Judged). leaves x (exchanged k r) r) h ∙ sym (exchange_exchanged (net_of s) r k q a).0 in
    record {
      both = λ x. subst (λ (y : List ℕ). (lift_of s r (length out) ≡ Ok x) ↔ (lift_of s y (length out) ≡ Ok x)) (sym left) (both_lift s r k n j q a (length out) x);
      swapped = λ x e. ap (λ (y : List ℕ). lifted_of s y out) left ∙ swapped s r k n j q a next out x e;
      both_end = λ x. subst (λ (y : List ℕ). (lift_end_of s r (length end_out) ≡ Ok x) ↔ (lift_end_of s y (length end_out) ≡ Ok x)) (sym left) (both_end s r k n j q a (length end_out) x);
      same_end = λ x e. ap (λ (y : List ℕ). lift_ended_of s y end_out) left ∙ same_end s r k n j q a end_out x e;
    }
