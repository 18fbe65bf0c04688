-- Theorem 6.1 at every stage: the beginning of a run lifts to the beginning of its lift, the beginning of an unfolded run is projected to
-- the beginning of its projection, and the markings there correspond.
use mathlib.Core.Path.{◌≡◌, refl, sym, ap, ◌∙◌, subst}
use mathlib.Core.Option.{none}
use mathlib.Core.List.{List, [], ◌∷◌}
use Prim.Native.Nat.{ℕ, zero, suc, ◌≤◌}
use native.Mathlib.Omega.{arith}
use lib.Dec.{T}
use lib.ListN.{length, take, drop, take-append-drop}
use Rattle.model.specs.Net.{Net, Sound, Marking, begin}
use Rattle.model.specs.Runs.{runs, end, State, opening, step}
use Rattle.model.specs.Unfolding.{origin, basic}
use Rattle.model.specs.Numbering.{number}
use Rattle.model.specs.Across.{run, unless, most_steps, too_long, unfolding_refused, Lifting, own_or_earliest, coloured, lifted, repeated, lifting, lift, read_back, projecting, project}
use Rattle.model.specs.Lent.{bytes, marking}
use Rattle.model.specs.Demands.{Correspond, Lifts, Projects}
use Rattle.model.proofs.Firing.{runs_before}
use Rattle.model.proofs.Repeats.{repeated_cons, repeated_build}
use Rattle.model.proofs.Answers.{unless_run, lifting_run, run_lifting, projecting_run, run_projecting, short_length, length_short}
use Rattle.model.proofs.Sets.{basic_sound}
use Rattle.model.proofs.Demands.{lift_lifts, lift_length, project_projects}
use Rattle.std.specs.Prelude.{Ok}
use Rattle.refusal.specs.Answer.{written}
use Rattle.refusal.proofs.Chain.{then_fine, written_front}
use Rattle.table.specs.Walk.{judge_of}
use Rattle.table.specs.Decoded.{net_of}
use Rattle.table.proofs.Sound.{accepted_sound}
use Rattle.replay.specs.Calls.{replay_of, end_of}
use Rattle.across.specs.Calls.{fitted, numbers_of}
use Rattle.across.proofs.Prefix.{fitted_fine}
use Rattle.lift.specs.Calls.{lift_of, lifted_of}
use Rattle.project.specs.Calls.{project_of, projected_of}
use Rattle.ends.specs.Calls.{lift_end_of, lift_ended_of, unfolded_replayed_of}
use Rattle.promises.specs.Across.{lift_on, project_on}
use Rattle.promises.specs.Stages.{WrittenAlike, LiftedStage, ProjectedStage}
use Rattle.promises.proofs.PaperGame.{written_end, replayed_end}
use Rattle.promises.proofs.Across.{lift_given, project_given, lift_end_given, replay_given, project_length, lift_taken_back, project_read_back}

-- ---- beginnings

-- a beginning is no longer than the whole
length_beginning : (k : ℕ) (l : List ℕ) → length (take k l) ≤ length l
length_beginning zero [] = omega arith
length_beginning zero (x ∷ l) = omega arith
length_beginning (suc k) [] = omega arith
length_beginning (suc k) (x ∷ l) = let i = length_beginning k l in omega arith

short_beginning : (k : ℕ) (r : List ℕ) → too_long r ≡ none → too_long (take k r) ≡ none
short_beginning k r h = length_short (take k r) (let a = length_beginning k r in let b = short_length r h in omega arith)

runs_beginning : (n : Net) (m : Marking) (k : ℕ) (r : List ℕ) → T (runs n m r) → T (runs n m (take k r))
runs_beginning n m k r t = runs_before n m (take k r) (drop k r) (subst (λ (x : List ℕ). T (runs n m x)) (sym (take-append-drop k r)) t)

-- the steps of a beginning are lifted as they are in the whole, and have no repeat where the whole has none
lifted_beginning : (n : Net) (l : Lifting) (s : State) (k : ℕ) (r : List ℕ) → lifted n l s (take k r) ≡ take k (lifted n l s r)
unfolding lifted
lifted_beginning n l s zero [] = refl
lifted_beginning n l s zero (e ∷ r) = refl
lifted_beginning n l s (suc k) [] = refl
lifted_beginning n l s (suc k) (e ∷ r) = ap {B = List ℕ} (λ x. number n (coloured n l s e) ∷ x) (lifted_beginning n l (step n s e) k r)

unrepeated_beginning : (n : Net) (l : Lifting) (i : ℕ) (s : State) (k : ℕ) (r : List ℕ) → repeated n l i s r ≡ none → repeated n l i s (take k r) ≡ none
unfolding repeated
unrepeated_beginning n l i s zero [] h = refl
unrepeated_beginning n l i s zero (e ∷ r) h = refl
unrepeated_beginning n l i s (suc k) [] h = refl
unrepeated_beginning n l i s (suc k) (e ∷ r) h =
    let a = repeated_cons n l i s e r h in
    repeated_build n l i s e (take k r) a.0 (unrepeated_beginning n l (suc i) (step n s e) k r a.1)

-- a beginning reads back as the beginning
read_beginning : (n : Net) (k : ℕ) (w : List ℕ) → read_back n (take k w) ≡ take k (read_back n w)
unfolding read_back
read_beginning n zero [] = refl
read_beginning n zero (j ∷ w) = refl
read_beginning n (suc k) [] = refl
read_beginning n (suc k) (j ∷ w) = ap {B = List ℕ} (λ x. (origin n j).event ∷ x) (read_beginning n k w)

-- ---- the model's lift and projection

-- The beginning of a run lifts to the beginning of its lift,
pub lift_beginning : (n : Net) (r w : List ℕ) → lift n r ≡ run w → (k : ℕ) → lift n (take k r) ≡ run (take k w)
unfolding lift opening
lift_beginning n r w h k =
    let x = unless_run (too_long r) (unless (unfolding_refused n) (lifting n (own_or_earliest n) 0 (opening n) r)) w h in
    let y = unless_run (unfolding_refused n) (lifting n (own_or_earliest n) 0 (opening n) r) w x.1 in
    let z = lifting_run n (own_or_earliest n) 0 (opening n) r w y.1 in
    let once = unrepeated_beginning n (own_or_earliest n) 0 (opening n) k r z.1 in
    rw (short_beginning k r x.0, y.0)
    (run_lifting n (own_or_earliest n) 0 (opening n) (take k r) (runs_beginning n (begin n) k r z.0) once
    ∙ ap run (lifted_beginning n (own_or_earliest n) (opening n) k r ∙ ap (take k) (sym z.2)))

-- so that at every stage of a lift all holds that holds of it, the correspondence of the markings among it.
pub lift_stages : (n : Net) (r w : List ℕ) → lift n r ≡ run w → (k : ℕ) → Lifts n (take k r) (take k w)
lift_stages n r w h k = lift_lifts n (take k r) (take k w) (lift_beginning n r w h k)

-- The beginning of an unfolded run is projected to the beginning of its projection,
pub project_beginning : (n : Net) (w r : List ℕ) → project n w ≡ run r → (k : ℕ) → project n (take k w) ≡ run (take k r)
unfolding project
project_beginning n w r h k =
    let x = unless_run (too_long w) (unless (unfolding_refused n) (projecting n w)) r h in
    let y = unless_run (unfolding_refused n) (projecting n w) r x.1 in
    let z = projecting_run n w r y.1 in
    rw (short_beginning k w x.0, y.0)
    (run_projecting n (take k w) (runs_beginning (basic n) (begin (basic n)) k w z.0) ∙ ap run (read_beginning n k w ∙ ap (take k) z.1))

-- so that at every stage of it all holds that holds of a projection.
pub project_stages : (n : Net) → Sound n → (w r : List ℕ) → project n w ≡ run r → (k : ℕ) → Projects n (take k w) (take k r)
project_stages n d w r h k = project_projects n d (take k w) (take k r) (project_beginning n w r h k)

-- ---- the calls

-- what a fine lift or projection wrote is the model's run
module _ (s : List ℕ) where
  lift_on_lem : (r out w : List ℕ) (c : ℕ) → lift_of s r (length out) ≡ Ok c → lift (net_of s) r ≡ run w → lift_on s r out ≡ w
  unfolding lifted_of
  lift_on_lem r out w c h a =
      ap (λ (k : ℕ). take k (lifted_of s r out)) (sym (lift_length (net_of s) r w (lift_lifts (net_of s) r w a)))
      ∙ ap (λ (x : List ℕ). take (length w) (written (lift_of s r (length out)) x out)) (ap numbers_of a)
      ∙ written_front (lift_of s r (length out)) c w out h

  project_on_lem : Sound (net_of s) → (w out r : List ℕ) (c : ℕ) → project_of s w (length out) ≡ Ok c → project (net_of s) w ≡ run r → project_on s w out ≡ r
  unfolding projected_of
  project_on_lem d w out r c h a =
      ap (λ (k : ℕ). take k (projected_of s w out)) (sym (project_length (net_of s) w r (project_projects (net_of s) d w r a)))
      ∙ ap (λ (x : List ℕ). take (length r) (written (project_of s w (length out)) x out)) (ap numbers_of a)
      ∙ written_front (project_of s w (length out)) c r out h

module _ (s : List ℕ) (n : ℕ) (j : judge_of s ≡ Ok n) where
  -- the ends as they are written
  replay_end : (r out : List ℕ) → length r ≤ most_steps → T (runs (net_of s) (begin (net_of s)) r) → (net_of s).conditions ≤ length out
      → marking (take (net_of s).conditions (end_of s r out)) ≡ end (net_of s) (begin (net_of s)) r
  unfolding end_of
  replay_end r out short t room =
      written_end (net_of s) (accepted_sound s n j) r t (replay_of s r (length out)) (net_of s).conditions out (replay_given s n j r (length out) short t room)

  lift_end : (r w out : List ℕ) → lift (net_of s) r ≡ run w → (basic (net_of s)).conditions ≤ length out
      → marking (take (basic (net_of s)).conditions (lift_ended_of s r out)) ≡ end (basic (net_of s)) (begin (basic (net_of s))) w
  unfolding lift_ended_of
  lift_end r w out a room =
      let u = basic (net_of s) in
      let told : List ℕ → List ℕ = λ x. written (lift_end_of s r (length out)) (bytes u.conditions (end u (begin u) x)) out in
      ap (λ (x : List ℕ). marking (take u.conditions (told x))) (ap numbers_of a)
      ∙ written_end u (basic_sound (net_of s)) w (lift_lifts (net_of s) r w a).run (lift_end_of s r (length out)) u.conditions out
      (lift_end_given s n j r w (length out) a room)

-- Each beginning of a run that lifts, lifts to that beginning of its lift, and the markings there correspond.
pub lifted_stage : (s r out : List ℕ) (c : ℕ) → lift_of s r (length out) ≡ Ok c
    → (table_out unfolded_out : List ℕ) (k : ℕ) → LiftedStage s r out table_out unfolded_out k
unfolding lift_of lift opening
lifted_stage s r out c h table_out unfolded_out k =
    let (n, j, f) = then_fine (judge_of s) (λ _. fitted (lift (net_of s) r) (length out)) c h in
    let (w, a, e, room) = fitted_fine (lift (net_of s) r) (length out) c f in
    let b = lift_beginning (net_of s) r w a k in
    let l = lift_lifts (net_of s) (take k r) (take k w) b in
    let long = lift_length (net_of s) (take k r) (take k w) l in
    let answer : lift_of s (take k r) (length out) ≡ Ok (length (take k r))
    = lift_given s n j (take k r) (take k w) (length out) b (omega (arith, length_beginning k w, room)) ∙ ap Ok long in
    let here : lift_on s r out ≡ w = lift_on_lem s r out w c h a in
    let short = lift_short (net_of s) (take k r) (take k w) b in
    let last = end (net_of s) (begin (net_of s)) (take k r) in
    record {
      answer = answer;
      beginning = lift_on_lem s (take k r) out (take k w) (length (take k r)) answer b ∙ ap (take k) (sym here);
      ends = subst (λ (x : List ℕ). Correspond (net_of s) last (end (basic (net_of s)) (begin (basic (net_of s))) (take k x))) (sym here) l.ends;
      written = record {
        alike = λ x y.
            subst (λ (m : Marking). Correspond (net_of s) m (marking (take (basic (net_of s)).conditions (lift_ended_of s (take k r) unfolded_out))))
            (sym (replay_end s n j (take k r) table_out short.0 short.1 x))
            (subst (λ (m : Marking). Correspond (net_of s) last m)
            (sym (lift_end s n j (take k r) (take k w) unfolded_out b y)) l.ends);
      };
      taken = lift_taken_back s (take k r) out (length (take k r)) answer table_out unfolded_out;
    }
  where
    lift_short : (n : Net) (r w : List ℕ) → lift n r ≡ run w → (length r ≤ most_steps) × T (runs n (begin n) r)
    lift_short n r w a =
        let x = unless_run (too_long r) (unless (unfolding_refused n) (lifting n (own_or_earliest n) 0 (opening n) r)) w a in
        let y = unless_run (unfolding_refused n) (lifting n (own_or_earliest n) 0 (opening n) r) w x.1 in
        (short_length r x.0, (lifting_run n (own_or_earliest n) 0 (opening n) r w y.1).0)

-- Each beginning of an unfolded run that is projected, is projected to that beginning of its projection, and the markings there correspond.
pub projected_stage : (s w out : List ℕ) (c : ℕ) → project_of s w (length out) ≡ Ok c
    → (table_out unfolded_out : List ℕ) (k : ℕ) → ProjectedStage s w out table_out unfolded_out k
unfolding project_of project
projected_stage s w out c h table_out unfolded_out k =
    let (n, j, f) = then_fine (judge_of s) (λ _. fitted (project (net_of s) w) (length out)) c h in
    let (r, a, e, room) = fitted_fine (project (net_of s) w) (length out) c f in
    let d = accepted_sound s n j in
    let b = project_beginning (net_of s) w r a k in
    let p = project_projects (net_of s) d (take k w) (take k r) b in
    let long = project_length (net_of s) (take k w) (take k r) p in
    let answer : project_of s (take k w) (length out) ≡ Ok (length (take k w))
    = project_given s n j (take k w) (take k r) (length out) b (omega (arith, length_beginning k r, room)) ∙ ap Ok long in
    let here : project_on s w out ≡ r = project_on_lem s d w out r c h a in
    let (short, unfolds) = opens (net_of s) (take k w) (take k r) b in
    let last = end (basic (net_of s)) (begin (basic (net_of s))) (take k w) in
    let unfolded_end : List ℕ = unfolded_replayed_of s (take k w) unfolded_out in
    record {
      answer = answer;
      beginning = project_on_lem s d (take k w) out (take k r) (length (take k w)) answer b ∙ ap (take k) (sym here);
      ends = subst (λ (x : List ℕ). Correspond (net_of s) (end (net_of s) (begin (net_of s)) (take k x)) last) (sym here) p.ends;
      written = subst (λ (x : List ℕ). WrittenAlike s (take k x) table_out unfolded_out unfolded_end) (sym here) (record {
        alike = λ x y.
            subst (λ (m : Marking). Correspond (net_of s) m (marking (take (basic (net_of s)).conditions unfolded_end)))
            (sym (replay_end s n j (take k r) table_out (subst (λ (i : ℕ). i ≤ most_steps) (sym long) short) p.run x))
            (subst (λ (m : Marking). Correspond (net_of s) (end (net_of s) (begin (net_of s)) (take k r)) m)
            (sym (replayed_end s (take k w) unfolded_out n j unfolds short y p.unfolded)) p.ends);
      });
      read = project_read_back s (take k w) out (length (take k w)) answer table_out;
    }
  where
    opens : (n : Net) (w r : List ℕ) → project n w ≡ run r → (length w ≤ most_steps) × (unfolding_refused n ≡ none)
    opens n w r a =
        let x = unless_run (too_long w) (unless (unfolding_refused n) (projecting n w)) r a in
        (short_length w x.0, (unless_run (unfolding_refused n) (projecting n w) r x.1).0)
