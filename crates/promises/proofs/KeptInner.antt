-- Demand 1 for the public functions that the calls are made of: each is worked, or refused with a number of its list. `write_end` then
-- leaves its lent output as it was, and a step that is stopped the lent marking; what the others are lent is read by nobody after a refusal.
use mathlib.Core.Path.{◌≡◌, sym, ◌∙◌}
use mathlib.Core.Option.{Option, none, some}
use mathlib.Core.List.{List, [], ◌∷◌}
use Prim.Native.Nat.{ℕ}
use native.Mathlib.Omega.{arith}
use lib.Dec.{T}
use lib.ListN.{length}
use Rattle.model.specs.Net.{Stop, stopping}
use Rattle.model.specs.Runs.{replay, opening}
use Rattle.model.specs.Unfolding.{basic}
use Rattle.model.specs.Lent.{marking}
use Rattle.held.specs.Held.{held_in}
use Rattle.model.specs.Across.{stuck, too_long, unfolding_refused}
use Rattle.model.specs.Across as model
use Rattle.table.specs.Decoded.{net_of}
use Rattle.stopping.specs.Table.{Cause, Step, step_of}
use Rattle.stopping.specs.declared.Cause.TheVariants.{Unknown, Lacks, Meets}
use Rattle.std.specs.Prelude.{Result, Ok, Err}
use Rattle.refusal.specs.declared.Condition.{Condition}
use Rattle.refusal.specs.declared.Refusal.{Refusal}
use Rattle.stopping.specs.declared.Cause as declared
use Rattle.stopping.specs.Causes.{goes, cause_place, refusal_at, refusal_of}
use Rattle.played.specs.declared.Ended.{Ended}
use Rattle.played.specs.Played.{ended}
use Rattle.step.specs.Steps.{record_net, stepped}
use Rattle.game.specs.Calls.{on_marking}
use Rattle.played.specs.Begun.{begun_at}
use Rattle.across.specs.Prepared.{prepared_of}
use Rattle.promises.specs.Refused.{of_table, of_lent, of_step, of_steps, of_unfolding, listed, Refusing}
use Rattle.promises.proofs.Refused.{listed_need, listed_or, rule_listed, conditions_listed, event_listed, marking_listed, judged_listed, lent_listed, stuck_listed, long_listed, unfolding_listed, unfolding_of_listed, listed_fitting}
use Rattle.promises.proofs.Kept.{late_refused}
use Rattle.rules.proofs.rule_record.Reads as rule-record
use Rattle.rules.proofs.conditions_record.Reads as conditions-record
use Rattle.event_rules.proofs.event_record.Reads as event-record
use Rattle.rules.proofs.marking_record.Reads as marking-record
use Rattle.game.proofs.judge_lent.Reads as judge-lent
use Rattle.stopping.proofs.Cause.at.Reads as cause-at
use Rattle.stopping.proofs.RefusalFromCause.from.Reads as refusal-from
use Rattle.step.proofs.step_at.Reads as step_at
use Rattle.played.proofs.step_event.Reads as step_event
use Rattle.played.proofs.play.Reads as play
use Rattle.played.proofs.write_end.Reads as write_end
use Rattle.layout.proofs.lay_out.Reads as lay-out
use Rattle.across.proofs.lay_out_run.Reads as lay-out-run
use Rattle.project.proofs.replay_lifted.Reads as replay-lifted

-- ---- records

pub rule_record_refused : (κs : _) (a : _) (r : _) (x : _) → rule-record.Learnt κs a r x → T (listed of_table r)
rule_record_refused κs a r x h = rw h (rule_listed a.0.now)

pub conditions_record_refused : (κs : _) (a : _) (r : _) (x : _) → conditions-record.Learnt κs a r x → T (listed of_table r)
conditions_record_refused κs a r x h = rw h (conditions_listed a.0.now a.1.0)

pub event_record_refused : (κs : _) (a : _) (r : _) (x : _) → event-record.Learnt κs a r x → T (listed of_table r)
event_record_refused κs a r x h = rw h (event_listed a.0.now a.1.0)

pub marking_record_refused : (κs : _) (a : _) (r : _) (x : _) → marking-record.Learnt κs a r x → T (listed of_table r)
marking_record_refused κs a r x h = rw h (marking_listed a.0.now a.1.0)

-- ---- steps and runs

pub judge_lent_refused : (κs : _) (a : _) (r : _) (x : _) → judge-lent.Learnt κs a r x → T (listed of_lent r)
unfolding on_marking
judge_lent_refused κs a r x h = rw h (judged_listed of_lent a.0.now _ tt (λ n. lent_listed of_lent (net_of a.0.now).conditions a.1.0.now _ tt tt))

cause_listed : {C : Type 0} (numbered : C → Condition) (cause : declared.Cause C) (place : ℕ)
    → T (listed {A = ℕ} of_step (Err (refusal_at numbered cause place)))
cause_listed numbered Unknown place = tt
cause_listed numbered (Lacks b) place = tt
cause_listed numbered (Meets b) place = tt

firing_cause_listed : {C : Type 0} (numbered : C → Condition) (cause : declared.Cause C) → T (listed {A = ℕ} of_step (Err (refusal_of numbered cause)))
firing_cause_listed numbered cause = cause_listed numbered cause (cause_place numbered cause)

pub at_refused : (g n c d k i j κs a : _) (r : _) (x : _) → cause-at.Learnt g n c d k i j κs a r x → T (listed {A = ℕ} of_step (Err r))
at_refused g n c d k i j κs a r x h = rw h (cause_listed _ a.0 a.1.0)

pub from_refused : (g n c d k i j κs a : _) (r : _) (x : _) → refusal-from.Learnt g n c d k i j κs a r x → T (listed {A = ℕ} of_step (Err r))
from_refused g n c d k i j κs a r x h = rw h (firing_cause_listed _ a.0)

-- a step that is stopped leaves what it was lent
stepped_kept : (o : Option Stop) (r : Step) (c : Cause) (new old out : List ℕ) → r ≡ step_of o → out ≡ stepped o new old → r ≡ Err c → out ≡ old
stepped_kept none r c new old out e f g = absurd (let z : goes ≡ Err c = sym e ∙ g in let y : ◌≡◌ {A = ℕ} 0 1 = cc in omega arith)
stepped_kept (some v) r c new old out e f g = f

pub step_at_refused : (κs : _) (a : _) (r : _) (x : _) → step_at.Learnt κs a r x → (c : Cause) → r ≡ Err c → x.1.1.0.now ≡ a.1.1.0.now
step_at_refused κs a r x h c g = stepped_kept (stopping (record_net a.0.now a.1.0) (marking a.1.1.0.now) 0) r c _ a.1.1.0.now x.1.1.0.now h.0 h.1 g

pub step_event_refused : (κs : _) (a : _) (r : _) (x : _) → step_event.Learnt κs a r x → (c : Cause) → r ≡ Err c → x.1.1.1.1.0.now ≡ a.1.1.1.1.0.now
step_event_refused κs a r x h c g = stepped_kept (stopping (net_of a.0.now) (marking a.1.1.1.1.0.now) a.1.1.1.0) r c _ a.1.1.1.1.0.now x.1.1.1.1.0.now h.0 h.1 g

pub play_refused : (κs : _) (a : _) (r : _) (x : _) → play.Learnt κs a r x → T (listed of_steps r)
play_refused κs a r x h =
    let n = net_of a.0.now in
    let run = a.1.1.1.0.now in
    let played = replay n 0 (begun_at n (held_in a.1.1.1.1.0)) run in
    let stuck_is = listed_or of_steps (stuck model.of_table played) _ (stuck_listed of_steps model.of_table played tt tt tt) tt in
    go r (rw h.told (listed_or of_steps (too_long run) _ (long_listed of_steps run tt) stuck_is))
  where
    go : (r : Result Ended Refusal) → T (listed of_steps (ended r)) → T (listed of_steps r)
    go (Ok whole) t = tt
    go (Err y) t = t

pub write_end_refused : (κs : _) (a : _) (r : _) (x : _) → write_end.Learnt κs a r x → Refusing (16 ∷ []) r a.1.1.0.now x.1.1.0.now
write_end_refused κs a r x h =
    late_refused (16 ∷ []) r _ _ a.1.1.0.now x.1.1.0.now h.0 (listed_fitting (16 ∷ []) a.1.0 (length a.1.1.0.now) tt) h.1

-- ---- the unfolding

pub lay_out_refused : (κs : _) (a : _) (r : _) (x : _) → lay-out.Learnt κs a r x → T (listed of_unfolding r)
lay_out_refused κs a r x h = rw h.answer (unfolding_of_listed of_unfolding a.0.now _ tt tt)

pub lay_out_run_refused : (κs : _) (a : _) (r : _) (x : _) → lay-out-run.Learnt κs a r x → T (listed of_unfolding r)
unfolding prepared_of
lay_out_run_refused κs a r x h =
    let n = net_of a.0.now in
    rw h.answer (judged_listed of_unfolding a.0.now _ tt (λ _. listed_need of_unfolding _ 3 0 _ tt (listed_or of_unfolding (unfolding_refused n) _ (unfolding_listed of_unfolding n tt tt) tt)))

pub replay_lifted_refused : (κs : _) (a : _) (r : _) (x : _) → replay-lifted.Learnt κs a r x → T (listed of_step r)
replay_lifted_refused κs a r x h =
    let unfolded = basic (net_of a.0.now) in
    let played = replay unfolded 0 (opening unfolded) a.1.1.1.1.1.0.now in
    rw h.told (listed_or of_step (stuck model.of_unfolding played) _ (stuck_listed of_step model.of_unfolding played tt tt tt) tt)
