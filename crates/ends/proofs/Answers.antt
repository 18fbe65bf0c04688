-- What the two calls answer and leave, from what they call.
use Prim.Native.Nat.{ℕ, ◌-◌, ◌≤◌}
use native.Mathlib.Omega.{arith}
use mathlib.Core.Path.{◌≡◌, refl, sym, ap, ◌∙◌, fun_ext}
use mathlib.Core.Option.{Option, none, some}
use mathlib.Core.List.{List, ◌++◌}
use lib.ListN.{length, take, drop, length-append}
use lib.Seq.{take-append_seam, take_all}
use Rattle.lists.specs.Lists.{mem}
use Rattle.lists.proofs.Bools.{or_none}
use Rattle.model.specs.Net.{Net, Sound, Marking, begin}
use Rattle.model.specs.Lent.{bytes, marking}
use Rattle.model.specs.Runs.{end, opening, after, replay}
use Rattle.model.specs.Unfolding.{basic}
use Rattle.model.specs.Across.{of_unfolding, Refusal, Answer, run, refusal, unless, stuck, most_steps, lift, read_back, projecting, project}
use Rattle.model.proofs.Answers.{run_projecting}
use Rattle.model.proofs.Copies.{marking_after, seen_after}
use Rattle.model.proofs.Demands.{lift_project, lift_most}
use Rattle.refusal.specs.declared.Refusal as declared
use Rattle.refusal.specs.Answer.{Judged, and_then, fitting, written}
use Rattle.std.specs.Prelude.{Ok, Err}
use Rattle.refusal.proofs.Chain.{never_both, then_fine, fitting_room}
use Rattle.table.specs.Walk.{judge_of}
use Rattle.table.specs.Decoded.{net_of}
use Rattle.table.specs.Links.{refused_or}
use Rattle.table.proofs.Sound.{accepted_sound}
use Rattle.copies.specs.Copies.{copies_of}
use Rattle.copies.proofs.Ends.{copies_end}
use Rattle.across.specs.Calls.{fitted, ended, across_of}
use Rattle.across.specs.Prepared.{prepared_of}
use Rattle.across.proofs.Prefix.{across_passed, across_on, ended_across, fitted_fine}
use Rattle.lift.specs.Calls.{lift_of, lifted_of}
use Rattle.project.specs.Walked.{Replayed}
use Rattle.ends.specs.Calls.{unfolded_replay_of, unfolded_replayed_of, lift_end_of, lift_ended_of}

-- ---- the marking that an unfolded run ends in

module _ (n : Net) (sound : Sound n) (w state seen : List ℕ) (p : Judged) (t : Replayed n w p state seen) (x : ℕ) (e : p ≡ Ok x) where
  whole : take (length w) w ≡ w
  whole = take_all (length w) w (omega arith)

  held : marking state ≡ end n (begin n) (read_back n w)
  unfolding opening
  held = t.here x e ∙ ap (λ (l : List ℕ). (after n (opening n) (read_back n l)).marking) whole ∙ marking_after n (opening n) (read_back n w)

  occurred : marking seen ≡ (λ y. mem y (read_back n w))
  unfolding opening
  occurred =
      t.occurred x e ∙ ap (λ (l : List ℕ). (after n (opening n) (read_back n l)).seen) whole
      ∙ fun_ext (λ y. seen_after n (opening n) (read_back n w) y ∙ or_none (mem y (read_back n w)))

  shown : copies_of n (marking state) (marking seen) ≡ bytes (basic n).conditions (end (basic n) (begin (basic n)) w)
  shown =
      ap (λ (m : Marking). copies_of n m (marking seen)) held ∙ ap (copies_of n (end n (begin n) (read_back n w))) occurred
      ∙ copies_end n sound w (read_back n w) (t.plays x e) refl

-- ---- an unfolded run replayed

stuck_ended : (o : Option Refusal) (a : Answer) (k c room : ℕ) (p : Judged) {x : declared.Refusal} → p ≡ refused_or o (Ok k) → p ≡ Err x → p ≡ ended (unless o a) c room
unfolding ended
stuck_ended none a k c room p e t = never_both (sym e ∙ t)
stuck_ended (some y) a k c room p e t = e

module _ (s w out : List ℕ) where
  abbrev n : Net
  n = net_of s

  left_alone : (r : Judged) {x : declared.Refusal} → r ≡ unfolded_replay_of s w (length out) → r ≡ Err x → (r ≡ unfolded_replay_of s w (length out)) × (out ≡ unfolded_replayed_of s w out)
  unfolding unfolded_replayed_of
  left_alone r e t = (e, rw (sym e ∙ t) refl)

  call_is : unfolded_replay_of s w (length out) ≡ across_of s w (ended (projecting n w) (basic n).conditions (length out))
  unfolding unfolded_replay_of project
  call_is = ended_across s w (projecting n w) (basic n).conditions (length out)

  module _ (r : Judged) (e : r ≡ prepared_of s (length w) (Ok n.events)) where
    pub replay_prepared : {x : declared.Refusal} → r ≡ Err x → (r ≡ unfolded_replay_of s w (length out)) × (out ≡ unfolded_replayed_of s w out)
    replay_prepared t = left_alone r (across_passed s (length w) n.events e w refl (ended (projecting n w) (basic n).conditions (length out)) t ∙ sym call_is) t

    module _ (m : ℕ) (f : r ≡ Ok m) (j : judge_of s ≡ Ok m) (p : Judged) (l seen : List ℕ) (t : Replayed n w p l seen) where
      goes : unfolded_replay_of s w (length out) ≡ ended (projecting n w) (basic n).conditions (length out)
      goes = call_is ∙ (across_on s (length w) n.events e w refl (ended (projecting n w) (basic n).conditions (length out)) f).0

      pub replay_stopped : {x : declared.Refusal} → p ≡ Err x → (p ≡ unfolded_replay_of s w (length out)) × (out ≡ unfolded_replayed_of s w out)
      unfolding projecting
      replay_stopped z =
          left_alone p (stuck_ended (stuck of_unfolding (replay (basic n) 0 (opening (basic n)) w)) (run (read_back n w)) (length w) (basic n).conditions (length out) p t.told z ∙ sym goes) z

      pub replay_ends : (x : ℕ) → p ≡ Ok x → (q : Judged) (new : List ℕ) → q ≡ fitting (basic n).conditions (length out)
          → new ≡ written q (copies_of n (marking l) (marking seen)) out → (q ≡ unfolded_replay_of s w (length out)) × (new ≡ unfolded_replayed_of s w out)
      unfolding unfolded_replayed_of ended
      replay_ends x z q new a b =
          let fits : unfolded_replay_of s w (length out) ≡ fitting (basic n).conditions (length out) = goes ∙ rw (run_projecting n w (t.plays x z)) refl in
          let same = a ∙ sym fits in (
            same,
            b ∙ ap (λ (y : List ℕ). written q y out) (shown n (accepted_sound s m j) w l seen p t x z)
                ∙ ap (λ (y : Judged). written y (bytes (basic n).conditions (end (basic n) (begin (basic n)) w)) out) same,
          )

-- ---- a run lifted

-- with room for every run, a lift is refused as its end is
same_refusal : (a : Answer) (c room : ℕ) {x : declared.Refusal} → ((w : List ℕ) → a ≡ run w → length w ≤ most_steps) → fitted a most_steps ≡ Err x → fitted a most_steps ≡ ended a c room
unfolding fitted ended
same_refusal (run w) c room h e = never_both (sym (fitting_room (length w) most_steps (h w refl)) ∙ e)
same_refusal (refusal y) c room h e = refl

-- what the lift wrote is part of its output
written_as : (s r old lifted w : List ℕ) (steps : ℕ) → lifted ≡ lifted_of s r old → lift_of s r (length old) ≡ Ok steps → lift (net_of s) r ≡ run w → lifted ≡ w ++ drop (length w) old
unfolding lifted_of
written_as s r old lifted w steps is h g = is ∙ rw (h, g) refl

-- what the lift wrote stands at the front of its output
front : (s r old lifted w : List ℕ) (steps : ℕ) → lifted ≡ lifted_of s r old → lift_of s r (length old) ≡ Ok steps → lift (net_of s) r ≡ run w → steps ≡ length w → take (steps - 0) lifted ≡ w
front s r old lifted w steps is h g u =
    let k : steps - 0 ≡ length w = omega (arith, u) in
    ap (λ (x : ℕ). take x lifted) k ∙ ap (take (length w)) (written_as s r old lifted w steps is h g) ∙ take-append_seam w (drop (length w) old)

module _ (s r out : List ℕ) where
  pub lift_end_refused : (a : Judged) {x : declared.Refusal} → a ≡ lift_of s r most_steps → a ≡ Err x → (a ≡ lift_end_of s r (length out)) × (out ≡ lift_ended_of s r out)
  unfolding lift_of lift_end_of lift_ended_of
  lift_end_refused a e t =
      let same = e ∙ go (judge_of s) (sym e ∙ t) in (same, rw (sym same ∙ t) refl)
    where
      go : (j : Judged) {x : declared.Refusal} → and_then j (λ _. fitted (lift (net_of s) r) most_steps) ≡ Err x
          → and_then j (λ _. fitted (lift (net_of s) r) most_steps) ≡ and_then j (λ _. ended (lift (net_of s) r) (basic (net_of s)).conditions (length out))
      go (Err y) q = refl
      go (Ok k) q = same_refusal (lift (net_of s) r) (basic (net_of s)).conditions (length out) (λ w. lift_most (net_of s) r w) q

  -- the end of the lift is that of its unfolded run
  end_as : (n : ℕ) (w : List ℕ) → judge_of s ≡ Ok n → lift (net_of s) r ≡ run w → (unfolded_replay_of s w (length out) ≡ lift_end_of s r (length out)) × (unfolded_replayed_of s w out ≡ lift_ended_of s r out)
  unfolding unfolded_replay_of lift_end_of unfolded_replayed_of lift_ended_of ended
  end_as n w j a =
      let p = lift_project (net_of s) r w a in
      let same : unfolded_replay_of s w (length out) ≡ lift_end_of s r (length out) = rw (j, p, a) refl in
      (same, told same)
    where
      told : unfolded_replay_of s w (length out) ≡ lift_end_of s r (length out) → unfolded_replayed_of s w out ≡ lift_ended_of s r out
      told same = rw (same, a) refl

  pub lift_ends : (steps : ℕ) (lifted old : List ℕ) → lift_of s r most_steps ≡ Ok steps → length old ≡ most_steps → lifted ≡ lifted_of s r old → (q : Judged) (new : List ℕ)
      → q ≡ unfolded_replay_of s (take (steps - 0) lifted) (length out) → new ≡ unfolded_replayed_of s (take (steps - 0) lifted) out → (q ≡ lift_end_of s r (length out)) × (new ≡ lift_ended_of s r out)
  unfolding lift_of lifted_of
  lift_ends steps lifted old h size is q new a b =
      let (n, j, f) = then_fine (judge_of s) (λ _. fitted (lift (net_of s) r) most_steps) steps h in
      let (w, g, u, v) = fitted_fine (lift (net_of s) r) most_steps steps f in
      let room : lift_of s r (length old) ≡ Ok steps = ap (lift_of s r) size ∙ h in
      let part : take (steps - 0) lifted ≡ w = front s r old lifted w steps is room g u in
      let ends = end_as n w j g in
      (a ∙ ap (λ (y : List ℕ). unfolded_replay_of s y (length out)) part ∙ ends.0, b ∙ ap (λ (y : List ℕ). unfolded_replayed_of s y out) part ∙ ends.1)

pub lift_within : (s r lifted old : List ℕ) (steps : ℕ) → lift_of s r most_steps ≡ Ok steps → length old ≡ most_steps → lifted ≡ lifted_of s r old → steps ≤ length lifted
unfolding lift_of
lift_within s r lifted old steps h size is =
    let (n, j, f) = then_fine (judge_of s) (λ _. fitted (lift (net_of s) r) most_steps) steps h in
    let (w, g, u, v) = fitted_fine (lift (net_of s) r) most_steps steps f in
    let room : lift_of s r (length old) ≡ Ok steps = ap (lift_of s r) size ∙ h in
    let long = ap length (written_as s r old lifted w steps is room g) ∙ length-append w (drop (length w) old) in
    omega (arith, u, long)
