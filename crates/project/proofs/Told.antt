-- What the calls answer, from the layout of the table and the replay of the run.
use Prim.Native.Nat.{ℕ}
use native.Mathlib.Omega.{arith}
use mathlib.Core.Path.{◌≡◌, refl, sym, ap, ◌∙◌, subst}
use mathlib.Core.Bool.{Bool, true, false}
use mathlib.Core.Option.{Option, none, some}
use mathlib.Core.List.{List, ◌++◌}
use lib.Dec.{leb, leb→le}
use lib.ListN.{length, get_or, drop}
use Rattle.model.specs.Net.{Net, begin}
use Rattle.model.specs.Runs.{opening, replay}
use Rattle.model.specs.Unfolding.{basic}
use Rattle.model.specs.Numbering.{size}
use Rattle.model.specs.Across.{of_unfolding, Refusal, Answer, run, unless, stuck, too_long, unfolding_refused, read_back, projecting, project}
use Rattle.model.proofs.Firing.{runs_event}
use Rattle.model.proofs.Answers.{unless_run, projecting_run, run_projecting}
use Rattle.model.proofs.Project.{length_back}
use Rattle.refusal.specs.declared.Refusal as declared
use Rattle.refusal.specs.Answer.{Judged, refused_at, value_of, fitting, written}
use Rattle.std.specs.Prelude.{Ok, Err}
use Rattle.refusal.proofs.Chain.{never_both, need_passes, need_refuses, then_fine}
use Rattle.table.specs.Walk.{judge_of}
use Rattle.table.specs.Decoded.{net_of}
use Rattle.table.specs.Links.{refused_or}
use Rattle.table.proofs.Decoded.{events_are_all}
use Rattle.layout.specs.Laid.{Sums}
use Rattle.across.specs.Calls.{fitted, numbers_of, across_of}
use Rattle.across.specs.Prepared.{prepared_of, Ready}
use Rattle.across.proofs.Prefix.{across_passed, across_on, across_judged, fitted_across, fitted_fine}
use Rattle.project.specs.Calls.{project_of, projected_of}
use Rattle.project.specs.Walked.{Replayed, Reading, Read}
use Rattle.project.proofs.Located.{total}
use Rattle.project.proofs.Walks.{few_judged}
use Rattle.project.proofs.Back.{read_none, read_is}

-- ---- answers of the model

-- a replay that is refused is the answer of the projection
stuck_fitted : (o : Option Refusal) (a : Answer) (k room : ℕ) (p : Judged) {x : declared.Refusal} → p ≡ refused_or o (Ok k) → p ≡ Err x → p ≡ fitted (unless o a) room
unfolding fitted
stuck_fitted none a k room p e t = never_both (sym e ∙ t)
stuck_fitted (some y) a k room p e t = e

-- ---- the call

module _ (s w out : List ℕ) where
  abbrev n : Net
  n = net_of s

  -- a refused answer leaves the output as it was
  left_alone : (r : Judged) {x : declared.Refusal} → r ≡ project_of s w (length out) → r ≡ Err x → (r ≡ project_of s w (length out)) × (out ≡ projected_of s w out)
  unfolding projected_of
  left_alone r e t = (e, rw (sym e ∙ t) refl)

  call_is : project_of s w (length out) ≡ across_of s w (fitted (projecting n w) (length out))
  unfolding project_of project
  call_is = fitted_across s w (projecting n w) (length out)

  -- a fine answer comes with the run that is read back
  numbers_are : (v : ℕ) → project_of s w (length out) ≡ Ok v → numbers_of (project n w) ≡ read_back n w
  unfolding project_of project
  numbers_are v fine =
      let y = then_fine (judge_of s) (λ _. fitted (project n w) (length out)) v fine in
      let g = fitted_fine (project n w) (length out) v y.2 in
      let a = unless_run (too_long w) (unless (unfolding_refused n) (projecting n w)) g.0 g.1 in
      let b = unless_run (unfolding_refused n) (projecting n w) g.0 a.1 in
      ap numbers_of g.1 ∙ sym (projecting_run n w g.0 b.1).1

  module _ (r : Judged) (e : r ≡ prepared_of s (length w) (Ok n.events)) where
    pub told_prepared : {x : declared.Refusal} → r ≡ Err x → (r ≡ project_of s w (length out)) × (out ≡ projected_of s w out)
    told_prepared t = left_alone r (across_passed s (length w) n.events e w refl (fitted (projecting n w) (length out)) t ∙ sym call_is) t

    pub all_events : (m : ℕ) → r ≡ Ok m → m ≡ n.events
    all_events m f = (across_on s (length w) n.events e w refl (Ok m) f).1

    pub judged_is : (m : ℕ) → r ≡ Ok m → judge_of s ≡ Ok m
    judged_is m f =
        let j = across_judged s (length w) n.events e f in
        j.1 ∙ ap Ok (events_are_all s j.0 j.1 ∙ sym (all_events m f))

    module _ (m : ℕ) (f : r ≡ Ok m) (p : Judged) (l seen : List ℕ) (t : Replayed n w p l seen) where
      goes : project_of s w (length out) ≡ fitted (projecting n w) (length out)
      goes = call_is ∙ (across_on s (length w) n.events e w refl (fitted (projecting n w) (length out)) f).0

      pub told_stopped : {x : declared.Refusal} → p ≡ Err x → (p ≡ project_of s w (length out)) × (out ≡ projected_of s w out)
      unfolding projecting
      told_stopped z =
          left_alone p (stuck_fitted (stuck of_unfolding (replay (basic n) 0 (opening (basic n)) w)) (run (read_back n w)) (length w) (length out) p t.told z ∙ sym goes) z

      module _ (v : ℕ) (z : p ≡ Ok v) where
        pub reading : (ms us bases before : List ℕ) → Ready s (length w) ms us bases before → Reading before m w
        reading ms us bases before d = record {
          few = few_judged s m (judged_is m f);
          first = d.sizes.at 0 (omega arith);
          size = d.sizes.size;
          each = λ k l.
              let last : get_or before m 0 ≡ (basic n).events = ap (λ (x : ℕ). get_or before x 0) (all_events m f) ∙ total n before d.sizes 0 in
              let low = runs_event (basic n) (begin (basic n)) w k (t.plays v z) l in
              omega (arith, last, low);
        }

        fits : project_of s w (length out) ≡ fitting (length w) (length out)
        unfolding fitted
        fits = goes ∙ rw (run_projecting n w (t.plays v z), length_back n w) refl

        pub told_written : (before new : List ℕ) → Sums (size n) n.events before → (a : Judged) → a ≡ fitting (length w) (length out)
            → Read before m w (value_of a) out new → (a ≡ project_of s w (length out)) × (new ≡ projected_of s w out)
        unfolding projected_of fitting
        told_written before new sizes a is d = (is ∙ sym fits, go (leb (length w) (length out)) refl)
          where
            go : (b : Bool) → leb (length w) (length out) ≡ b → new ≡ projected_of s w out
            go true l =
                let fine : a ≡ Ok (length w) = is ∙ need_passes 16 (length w) l in
                let call : project_of s w (length out) ≡ Ok (length w) = fits ∙ sym is ∙ fine in
                read_is n before sizes m (all_events m f) w out new (leb→le (length w) (length out) (rw l tt)) (subst (λ (x : Judged). Read before m w (value_of x) out new) fine d)
                ∙ ap (λ (k : ℕ). read_back n w ++ drop k out) (sym (length_back n w))
                ∙ sym (ap (λ (x : List ℕ). written (project_of s w (length out)) x out) (numbers_are (length w) call) ∙ ap (λ (x : Judged). written x (read_back n w) out) call)
            go false l =
                let short : a ≡ refused_at 16 (length w) = is ∙ need_refuses 16 (length w) (Ok (length w)) l in
                read_none before m w out new (subst (λ (x : Judged). Read before m w (value_of x) out new) short d) ∙ (left_alone a (is ∙ sym fits) short).1
