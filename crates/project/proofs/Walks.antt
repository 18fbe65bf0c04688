-- An unfolded run walked from its start to its end, or to the step that stops it.
use Prim.Native.Nat.{ℕ, suc, ◌+◌, ◌≤◌, ◌<◌}
use native.Mathlib.Omega.{arith}
use native.Mathlib.Nat.{zero-add}
use mathlib.Core.Path.{◌≡◌, refl, sym, ap, ◌∙◌, subst}
use mathlib.Core.Option.{Option, none, some}
use mathlib.Core.List.{List, []}
use lib.Dec.{T}
use lib.ListN.{length, get_or, take, drop, replicate, length-replicate}
use lib.Seq.{take_all, split_at, length-take-le}
use Rattle.lists.proofs.Places.{replicate_at}
use Rattle.words.specs.Words.{words}
use Rattle.records.specs.Records.{flags, pre_part, post_part}
use Rattle.model.specs.Net.{Net, begin, fire, Stop, unknown, lacks, meets, stopping}
use Rattle.model.specs.Runs.{opening, after, runs, replay}
use Rattle.model.specs.Unfolding.{basic}
use Rattle.model.specs.Across.{of_unfolding, stopped, stuck, most_steps, read_back}
use Rattle.model.specs.Lent.{bytes, marking}
use Rattle.model.proofs.Lent.{bytes_marking, length_bytes, zeros_say, begun_marking}
use Rattle.model.proofs.Replay.{stops_replay}
use Rattle.model.proofs.Answers.{stuck_none}
use Rattle.refusal.specs.Answer.{Judged}
use Rattle.std.specs.Prelude.{Ok, Err}
use Rattle.refusal.proofs.Chain.{never_both}
use Rattle.table.specs.Walk.{judge_of}
use Rattle.table.specs.Decoded.{net_of}
use Rattle.table.proofs.Decoded.{events_are_all}
use Rattle.table.proofs.Sound.{tabled}
use Rattle.table.specs.Links.{refusing}
use Rattle.stopping.specs.Table as played
use Rattle.step.specs.Steps.{set_all, record_net, stepped}
use Rattle.stopping.specs.Unfolded.{Cause, Step, cause_of, step_of, stopped_at}
use Rattle.stopping.specs.Causes.{goes}
use Rattle.step.proofs.Bytes.{lent_bytes}
use Rattle.step.proofs.Firing.{step_written}
use Rattle.decided.specs.Kept.{Kept}
use Rattle.decided.proofs.Places.{marker_first}
use Rattle.project.specs.Walked.{state_at, unfolded_at, Walked, Stepped, Fires, Replayed}

-- ---- an event fired on bytes

pub fire_written : (s l : List ℕ) (at : ℕ) → Fires s at l → (f pre post : List ℕ) → f ≡ flags s → pre ≡ pre_part s at → post ≡ post_part s at
    → set_all [] 1 (words post) (set_all f 0 (words pre) l) ≡ bytes (length l) (fire (record_net s at) (marking l) 0)
fire_written s l at h f pre post is_f is_pre is_post =
    step_written s l at goes (sym (ap played.step_of h.goes)) refl h.lents f pre post is_f is_pre is_post
    ∙ ap (λ (o : Option Stop). stepped o (bytes (length l) (fire (record_net s at) (marking l) 0)) l) h.goes

-- ---- the start

-- where nothing is kept, every place is the start's
kept_none : (n : Net) (places kept : List ℕ) → places ≡ replicate 256 0 → kept ≡ replicate 256 0 → Kept n places kept
kept_none n places kept p q =
    record {
      size = ap length p ∙ length-replicate {A = ℕ} 256 0;
      room = ap length q ∙ length-replicate {A = ℕ} 256 0;
      each = λ b h. rw (ap (λ (l : List ℕ). get_or l b 0) p ∙ replicate_at {A = ℕ} 256 b 0) (marker_first n b);
    }

pub walked_start : (s : List ℕ) (events : ℕ) → judge_of s ≡ Ok events → (w state seen places kept : List ℕ) → length w ≤ most_steps → state ≡ bytes 256 (begin (net_of s))
    → seen ≡ replicate 256 0 → places ≡ replicate 256 0 → kept ≡ replicate 256 0 → Walked (net_of s) w 0 state seen places kept
unfolding runs opening after read_back
walked_start s events j w state seen places kept short is_state is_seen is_places is_kept =
    let limits = tabled s events j in
    record {
      short = short;
      upto = omega arith;
      plays = tt;
      lents = rw is_state (lent_bytes 256 (begin (net_of s)));
      long = ap length is_state ∙ length_bytes 256 (begin (net_of s));
      here = ap marking is_state ∙ begun_marking (net_of s) limits.sound 256 limits.few_conditions;
      noted = rw is_seen (bytes_marking (replicate 256 0) (λ i p. rw (replicate_at {A = ℕ} 256 i 0) (omega arith)));
      wide = ap length is_seen ∙ length-replicate {A = ℕ} 256 0;
      occurred = zeros_say seen 256 is_seen;
      held = kept_none (net_of s) places kept is_places is_kept;
    }

-- ---- the end

some_stop : (o : Option Stop) (x : Cause) → step_of o ≡ Err x → (v : Stop) × (o ≡ some v) × (x ≡ cause_of v)
some_stop none x e = absurd (let z : ◌≡◌ {A = ℕ} 0 1 = cc in omega arith)
some_stop (some v) x e = (v, refl, cc)

-- what stops a step of the unfolded net is the model's refusal at it
stopped_is : (v : Stop) (k : ℕ) → stopped_at (cause_of v) k ≡ refusing (stopped of_unfolding v k)
stopped_is unknown k = refl
stopped_is (lacks b) k = refl
stopped_is (meets b) k = refl

module _ (n : Net) (w : List ℕ) (k : ℕ) (state seen places kept : List ℕ) (c : Walked n w k state seen places kept) where
  -- a step is stopped
  stops_at : k < length w → (x : Cause) → step_of (stopping (basic n) (unfolded_at n w k) (get_or w k 0)) ≡ Err x
      → (answer : Judged) → answer ≡ stopped_at x k → (l m : List ℕ) → Replayed n w answer l m
  unfolding opening
  stops_at h x o answer a l m =
      let (v, is, z) = some_stop (stopping (basic n) (unfolded_at n w k) (get_or w k 0)) x o in
      let stuck_is : stuck of_unfolding (replay (basic n) 0 (opening (basic n)) w) ≡ some (stopped of_unfolding v k)
      = ap (stuck of_unfolding) (stops_replay (basic n) 0 (opening (basic n)) w v k record {
        before = take k w;
        event = get_or w k 0;
        rest = drop (suc k) w;
        splits = split_at w k 0 h;
        place = rw (length-take-le k w c.upto, zero-add);
        plays = c.plays;
        stops = is;
      }) in
      record {
        told = a ∙ ap (λ (y : Cause). stopped_at y k) z ∙ stopped_is v k ∙ rw stuck_is refl;
        plays = λ y f. never_both (sym f ∙ a);
        lents = λ y f. never_both (sym f ∙ a);
        here = λ y f. never_both (sym f ∙ a);
        occurred = λ y f. never_both (sym f ∙ a);
      }

  pub walk_stops : k < length w → (r : Step) (a b d e : List ℕ) → Stepped n w k r a b d e → (x : Cause) → r ≡ Err x
      → (answer : Judged) → answer ≡ stopped_at x k → (l m : List ℕ) → Replayed n w answer l m
  walk_stops h r a b d e o x z answer t l m = stops_at h x (subst (λ (y : Step). Stepped n w k y a b d e) z o) answer t l m

  -- all steps are walked
  pub walk_ends : length w ≤ k → Replayed n w (Ok (length w)) state seen
  unfolding opening
  walk_ends h =
      let all : k ≡ length w = omega (arith, c.upto) in
      let whole = subst (λ (y : List ℕ). T (runs (basic n) (begin (basic n)) y)) (take_all k w h) c.plays in
      record {
        told = rw (stuck_none of_unfolding (basic n) 0 (opening (basic n)) w whole) refl;
        plays = λ y f. whole;
        lents = λ y f. (c.lents ∙ ap (λ (x : ℕ). bytes x (marking state)) c.long, c.noted ∙ ap (λ (x : ℕ). bytes x (marking seen)) c.wide);
        here = λ y f. c.here ∙ ap (λ (i : ℕ). (state_at n w i).marking) all;
        occurred = λ y f. c.occurred ∙ ap (λ (i : ℕ). (state_at n w i).seen) all;
      }

-- a step goes
pub walk_on : (n : Net) (w : List ℕ) (k : ℕ) (r : Step) (a b d e : List ℕ) → Stepped n w k r a b d e → r ≡ goes → Walked n w (k + 1) a b d e
walk_on n w k r a b d e o z = subst (λ (y : Step). Stepped n w k y a b d e) z o

pub few_judged : (s : List ℕ) (events : ℕ) → judge_of s ≡ Ok events → events ≤ 256
few_judged s events j = omega (arith, (tabled s events j).few_events, events_are_all s events j)
