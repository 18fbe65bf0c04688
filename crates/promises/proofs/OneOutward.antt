-- One answer only, for what C calls: two answers that both meet the contract are equal, and so is what each pointer leads to, which
-- stands here as the memory at exit.
use mathlib.Core.Path.{◌≡◌, sym, ap, ◌∙◌}
use Rattle.refusal.specs.Answer.{Judged}
use Rattle.events.specs.Answers.{origin_event}
use Rattle.outward.specs.Told.{value_or, given}
use Rattle.outward.proofs.told.Reads as told
use Rattle.outward.proofs.put_value.Reads as put-value
use Rattle.outward.proofs.put_number.Reads as put-number
use Rattle.outward.proofs.marker_of.Reads as marker_of_lem
use Rattle.outward.proofs.word_of.Reads as word_of
use Rattle.outward.proofs.colour_of.Reads as colour-of
use Rattle.outward.proofs.put_event_origin.Reads as put-event-origin
use Rattle.outward.proofs.condition_number.Reads as condition_number_lem
use Rattle.outward.proofs.put_condition_origin.Reads as put-condition-origin
use Rattle.ffi.proofs.dovetrellis_judge.Reads as dovetrellis-judge
use Rattle.ffi.proofs.dovetrellis_counts.Reads as dovetrellis-counts
use Rattle.ffi.proofs.dovetrellis_pre.Reads as dovetrellis-pre
use Rattle.ffi.proofs.dovetrellis_post.Reads as dovetrellis-post
use Rattle.ffi.proofs.dovetrellis_start.Reads as dovetrellis-start
use Rattle.ffi.proofs.dovetrellis_can_fire.Reads as dovetrellis-can-fire
use Rattle.ffi.proofs.dovetrellis_fire.Reads as dovetrellis-fire
use Rattle.ffi.proofs.dovetrellis_replay.Reads as dovetrellis-replay
use Rattle.ffi.proofs.dovetrellis_exchange.Reads as dovetrellis-exchange
use Rattle.ffi.proofs.dovetrellis_unfolded_counts.Reads as dovetrellis-unfolded-counts
use Rattle.ffi.proofs.dovetrellis_event_origin.Reads as dovetrellis-event-origin
use Rattle.ffi.proofs.dovetrellis_event_number.Reads as dovetrellis-event-number
use Rattle.ffi.proofs.dovetrellis_condition_origin.Reads as dovetrellis-condition-origin
use Rattle.ffi.proofs.dovetrellis_condition_number.Reads as dovetrellis-condition-number
use Rattle.ffi.proofs.dovetrellis_element_count.Reads as dovetrellis-element-count
use Rattle.ffi.proofs.dovetrellis_element.Reads as dovetrellis-element
use Rattle.ffi.proofs.dovetrellis_unfolded_pre.Reads as dovetrellis-unfolded-pre
use Rattle.ffi.proofs.dovetrellis_unfolded_post.Reads as dovetrellis-unfolded-post
use Rattle.ffi.proofs.dovetrellis_unfolded_start.Reads as dovetrellis-unfolded-start
use Rattle.ffi.proofs.dovetrellis_unfolded_fire.Reads as dovetrellis-unfolded-fire
use Rattle.ffi.proofs.dovetrellis_lift.Reads as dovetrellis-lift
use Rattle.ffi.proofs.dovetrellis_project.Reads as dovetrellis-project
use Rattle.ffi.proofs.dovetrellis_lift_end.Reads as dovetrellis-lift-end
use Rattle.ffi.proofs.dovetrellis_unfolded_replay.Reads as dovetrellis-unfolded-replay
use Rattle.ffi.proofs.dovetrellis_read_run.Reads as dovetrellis-read-run
use Rattle.ffi.proofs.dovetrellis_read_lifted.Reads as dovetrellis-read-lifted
use Rattle.ffi.proofs.dovetrellis_write_run.Reads as dovetrellis-write-run
use Rattle.ffi.proofs.dovetrellis_write_lifted.Reads as dovetrellis-write-lifted
use Rattle.ffi.proofs.dovetrellis_lossy.Reads as dovetrellis-lossy

-- ---- answers, values and markers as C sees them

pub told_one : (g c d k i κs a : _) (r q : _) (x y : _) → told.Learnt g c d k i κs a r x → told.Learnt g c d k i κs a q y → r ≡ q
told_one g c d k i κs a r q x y h e = h ∙ sym e

pub put_value_one : (κs : _) (a : _) (r q : _) (x y : _) → put-value.Learnt κs a r x → put-value.Learnt κs a q y → x.1.0.now ≡ y.1.0.now
put_value_one κs a r q x y h g = h ∙ sym g

pub put_number_one : (κs : _) (a : _) (r q : _) (x y : _) → put-number.Learnt κs a r x → put-number.Learnt κs a q y → x.1.0.now ≡ y.1.0.now
put_number_one κs a r q x y h g = h ∙ sym g

pub marker_of_one : (κs : _) (a : _) (r q : _) (x y : _) → marker_of_lem.Learnt κs a r x → marker_of_lem.Learnt κs a q y → r ≡ q
marker_of_one κs a r q x y h g = h ∙ sym g

pub word_of_one : (κs : _) (a : _) (r q : _) (x y : _) → word_of.Learnt κs a r x → word_of.Learnt κs a q y → r ≡ q
word_of_one κs a r q x y h g = h ∙ sym g

pub colour_of_one : (κs : _) (a : _) (r q : _) (x y : _) → colour-of.Learnt κs a r x → colour-of.Learnt κs a q y → r ≡ q
colour_of_one κs a r q x y h g = h ∙ sym g

pub put_event_origin_one : (κs : _) (a : _) (r q : _) (x y : _) → put-event-origin.Learnt κs a r x → put-event-origin.Learnt κs a q y
    → (r ≡ q) × (x.1.0.now ≡ y.1.0.now) × (x.1.1.0.now ≡ y.1.1.0.now) × (x.1.1.1.0.now ≡ y.1.1.1.0.now)
put_event_origin_one κs a r q x y h g =
    let e : r ≡ q = h.0 ∙ sym g.0 in
    let event = ap (λ (z : Judged). given z (origin_event a.0) a.1.1.0.now) e in
    let count = ap (λ (z : Judged). value_or z a.1.1.1.0.now) e in
    (e, h.1.0 ∙ sym g.1.0, h.1.1.0 ∙ event ∙ sym g.1.1.0, h.1.1.1 ∙ count ∙ sym g.1.1.1)

pub condition_number_one : (κs : _) (a : _) (r q : _) (x y : _) → condition_number_lem.Learnt κs a r x → condition_number_lem.Learnt κs a q y → r ≡ q
condition_number_one κs a r q x y h g = h ∙ sym g

pub put_condition_origin_one : (κs : _) (a : _) (r q : _) (x y : _) → put-condition-origin.Learnt κs a r x → put-condition-origin.Learnt κs a q y
    → (x.1.0.now ≡ y.1.0.now) × (x.1.1.0.now ≡ y.1.1.0.now) × (x.1.1.1.0.now ≡ y.1.1.1.0.now) × (x.1.1.1.1.0.now ≡ y.1.1.1.1.0.now)
put_condition_origin_one κs a r q x y h g = (h.0 ∙ sym g.0, h.1.0 ∙ sym g.1.0, h.1.1.0 ∙ sym g.1.1.0, h.1.1.1 ∙ sym g.1.1.1)

-- ---- the exports

pub dovetrellis_judge_one : (κs : _) (a : _) (r q : _) (x y : _) → dovetrellis-judge.Learnt κs a r x → dovetrellis-judge.Learnt κs a q y → r ≡ q
dovetrellis_judge_one κs a r q x y h g = h ∙ sym g

pub dovetrellis_counts_one : (κs : _) (a : _) (r q : _) (x y : _) → dovetrellis-counts.Learnt κs a r x → dovetrellis-counts.Learnt κs a q y → (r ≡ q) × (x.1.0.now ≡ y.1.0.now) × (x.1.1.0.now ≡ y.1.1.0.now)
dovetrellis_counts_one κs a r q x y h g = (h.0 ∙ sym g.0, h.1.0 ∙ sym g.1.0, h.1.1 ∙ sym g.1.1)

pub dovetrellis_pre_one : (κs : _) (a : _) (r q : _) (x y : _) → dovetrellis-pre.Learnt κs a r x → dovetrellis-pre.Learnt κs a q y → (r ≡ q) × (x.1.1.0.now ≡ y.1.1.0.now) × (x.1.1.1.0.now ≡ y.1.1.1.0.now)
dovetrellis_pre_one κs a r q x y h g = (h.0 ∙ sym g.0, h.1.0 ∙ sym g.1.0, h.1.1 ∙ sym g.1.1)

pub dovetrellis_post_one : (κs : _) (a : _) (r q : _) (x y : _) → dovetrellis-post.Learnt κs a r x → dovetrellis-post.Learnt κs a q y → (r ≡ q) × (x.1.1.0.now ≡ y.1.1.0.now) × (x.1.1.1.0.now ≡ y.1.1.1.0.now)
dovetrellis_post_one κs a r q x y h g = (h.0 ∙ sym g.0, h.1.0 ∙ sym g.1.0, h.1.1 ∙ sym g.1.1)

pub dovetrellis_start_one : (κs : _) (a : _) (r q : _) (x y : _) → dovetrellis-start.Learnt κs a r x → dovetrellis-start.Learnt κs a q y → (r ≡ q) × (x.1.0.now ≡ y.1.0.now)
dovetrellis_start_one κs a r q x y h g = (h.0 ∙ sym g.0, h.1 ∙ sym g.1)

pub dovetrellis_can_fire_one : (κs : _) (a : _) (r q : _) (x y : _) → dovetrellis-can-fire.Learnt κs a r x → dovetrellis-can-fire.Learnt κs a q y → r ≡ q
dovetrellis_can_fire_one κs a r q x y h g = h ∙ sym g

pub dovetrellis_fire_one : (κs : _) (a : _) (r q : _) (x y : _) → dovetrellis-fire.Learnt κs a r x → dovetrellis-fire.Learnt κs a q y → (r ≡ q) × (x.1.0.now ≡ y.1.0.now)
dovetrellis_fire_one κs a r q x y h g = (h.0 ∙ sym g.0, h.1 ∙ sym g.1)

pub dovetrellis_replay_one : (κs : _) (a : _) (r q : _) (x y : _) → dovetrellis-replay.Learnt κs a r x → dovetrellis-replay.Learnt κs a q y → (r ≡ q) × (x.1.1.0.now ≡ y.1.1.0.now)
dovetrellis_replay_one κs a r q x y h g = (h.0 ∙ sym g.0, h.1 ∙ sym g.1)

pub dovetrellis_exchange_one : (κs : _) (a : _) (r q : _) (x y : _) → dovetrellis-exchange.Learnt κs a r x → dovetrellis-exchange.Learnt κs a q y → (r ≡ q) × (x.1.0.now ≡ y.1.0.now)
dovetrellis_exchange_one κs a r q x y h g = (h.0 ∙ sym g.0, h.1 ∙ sym g.1)

pub dovetrellis_unfolded_counts_one : (κs : _) (a : _) (r q : _) (x y : _) → dovetrellis-unfolded-counts.Learnt κs a r x → dovetrellis-unfolded-counts.Learnt κs a q y → (r ≡ q) × (x.1.0.now ≡ y.1.0.now) × (x.1.1.0.now ≡ y.1.1.0.now)
dovetrellis_unfolded_counts_one κs a r q x y h g = (h.0 ∙ sym g.0, h.1.0 ∙ sym g.1.0, h.1.1 ∙ sym g.1.1)

pub dovetrellis_event_origin_one : (κs : _) (a : _) (r q : _) (x y : _) → dovetrellis-event-origin.Learnt κs a r x → dovetrellis-event-origin.Learnt κs a q y → (r ≡ q) × (x.1.1.0.now ≡ y.1.1.0.now) × (x.1.1.1.0.now ≡ y.1.1.1.0.now) × (x.1.1.1.1.0.now ≡ y.1.1.1.1.0.now)
dovetrellis_event_origin_one κs a r q x y h g = (h.0 ∙ sym g.0, h.1.0 ∙ sym g.1.0, h.1.1.0 ∙ sym g.1.1.0, h.1.1.1 ∙ sym g.1.1.1)

pub dovetrellis_event_number_one : (κs : _) (a : _) (r q : _) (x y : _) → dovetrellis-event-number.Learnt κs a r x → dovetrellis-event-number.Learnt κs a q y → (r ≡ q) × (x.1.1.1.0.now ≡ y.1.1.1.0.now)
dovetrellis_event_number_one κs a r q x y h g = (h.0 ∙ sym g.0, h.1 ∙ sym g.1)

pub dovetrellis_condition_origin_one : (κs : _) (a : _) (r q : _) (x y : _) → dovetrellis-condition-origin.Learnt κs a r x → dovetrellis-condition-origin.Learnt κs a q y → (r ≡ q) × (x.1.1.0.now ≡ y.1.1.0.now) × (x.1.1.1.0.now ≡ y.1.1.1.0.now) × (x.1.1.1.1.0.now ≡ y.1.1.1.1.0.now) × (x.1.1.1.1.1.0.now ≡ y.1.1.1.1.1.0.now)
dovetrellis_condition_origin_one κs a r q x y h g = (h.0 ∙ sym g.0, h.1.0 ∙ sym g.1.0, h.1.1.0 ∙ sym g.1.1.0, h.1.1.1.0 ∙ sym g.1.1.1.0, h.1.1.1.1 ∙ sym g.1.1.1.1)

pub dovetrellis_condition_number_one : (κs : _) (a : _) (r q : _) (x y : _) → dovetrellis-condition-number.Learnt κs a r x → dovetrellis-condition-number.Learnt κs a q y → (r ≡ q) × (x.1.1.1.1.1.0.now ≡ y.1.1.1.1.1.0.now)
dovetrellis_condition_number_one κs a r q x y h g = (h.0 ∙ sym g.0, h.1 ∙ sym g.1)

pub dovetrellis_unfolded_pre_one : (κs : _) (a : _) (r q : _) (x y : _) → dovetrellis-unfolded-pre.Learnt κs a r x → dovetrellis-unfolded-pre.Learnt κs a q y → (r ≡ q) × (x.1.1.0.now ≡ y.1.1.0.now) × (x.1.1.1.0.now ≡ y.1.1.1.0.now)
dovetrellis_unfolded_pre_one κs a r q x y h g = (h.0 ∙ sym g.0, h.1.0 ∙ sym g.1.0, h.1.1 ∙ sym g.1.1)

pub dovetrellis_unfolded_post_one : (κs : _) (a : _) (r q : _) (x y : _) → dovetrellis-unfolded-post.Learnt κs a r x → dovetrellis-unfolded-post.Learnt κs a q y → (r ≡ q) × (x.1.1.0.now ≡ y.1.1.0.now) × (x.1.1.1.0.now ≡ y.1.1.1.0.now)
dovetrellis_unfolded_post_one κs a r q x y h g = (h.0 ∙ sym g.0, h.1.0 ∙ sym g.1.0, h.1.1 ∙ sym g.1.1)

pub dovetrellis_unfolded_start_one : (κs : _) (a : _) (r q : _) (x y : _) → dovetrellis-unfolded-start.Learnt κs a r x → dovetrellis-unfolded-start.Learnt κs a q y → (r ≡ q) × (x.1.0.now ≡ y.1.0.now)
dovetrellis_unfolded_start_one κs a r q x y h g = (h.0 ∙ sym g.0, h.1 ∙ sym g.1)

pub dovetrellis_unfolded_fire_one : (κs : _) (a : _) (r q : _) (x y : _) → dovetrellis-unfolded-fire.Learnt κs a r x → dovetrellis-unfolded-fire.Learnt κs a q y → (r ≡ q) × (x.1.0.now ≡ y.1.0.now)
dovetrellis_unfolded_fire_one κs a r q x y h g = (h.0 ∙ sym g.0, h.1 ∙ sym g.1)

pub dovetrellis_lift_one : (κs : _) (a : _) (r q : _) (x y : _) → dovetrellis-lift.Learnt κs a r x → dovetrellis-lift.Learnt κs a q y → (r ≡ q) × (x.1.1.0.now ≡ y.1.1.0.now)
dovetrellis_lift_one κs a r q x y h g = (h.0 ∙ sym g.0, h.1 ∙ sym g.1)

pub dovetrellis_project_one : (κs : _) (a : _) (r q : _) (x y : _) → dovetrellis-project.Learnt κs a r x → dovetrellis-project.Learnt κs a q y → (r ≡ q) × (x.1.1.0.now ≡ y.1.1.0.now)
dovetrellis_project_one κs a r q x y h g = (h.0 ∙ sym g.0, h.1 ∙ sym g.1)

pub dovetrellis_lift_end_one : (κs : _) (a : _) (r q : _) (x y : _) → dovetrellis-lift-end.Learnt κs a r x → dovetrellis-lift-end.Learnt κs a q y → (r ≡ q) × (x.1.1.0.now ≡ y.1.1.0.now)
dovetrellis_lift_end_one κs a r q x y h g = (h.0 ∙ sym g.0, h.1 ∙ sym g.1)

pub dovetrellis_unfolded_replay_one : (κs : _) (a : _) (r q : _) (x y : _) → dovetrellis-unfolded-replay.Learnt κs a r x → dovetrellis-unfolded-replay.Learnt κs a q y → (r ≡ q) × (x.1.1.0.now ≡ y.1.1.0.now)
dovetrellis_unfolded_replay_one κs a r q x y h g = (h.0 ∙ sym g.0, h.1 ∙ sym g.1)

pub dovetrellis_read_run_one : (κs : _) (a : _) (r q : _) (x y : _) → dovetrellis-read-run.Learnt κs a r x → dovetrellis-read-run.Learnt κs a q y → (r ≡ q) × (x.1.0.now ≡ y.1.0.now) × (x.1.1.0.now ≡ y.1.1.0.now)
dovetrellis_read_run_one κs a r q x y h g = (h.0 ∙ sym g.0, h.1.0 ∙ sym g.1.0, h.1.1 ∙ sym g.1.1)

pub dovetrellis_read_lifted_one : (κs : _) (a : _) (r q : _) (x y : _) → dovetrellis-read-lifted.Learnt κs a r x → dovetrellis-read-lifted.Learnt κs a q y → (r ≡ q) × (x.1.0.now ≡ y.1.0.now) × (x.1.1.0.now ≡ y.1.1.0.now)
dovetrellis_read_lifted_one κs a r q x y h g = (h.0 ∙ sym g.0, h.1.0 ∙ sym g.1.0, h.1.1 ∙ sym g.1.1)

pub dovetrellis_write_run_one : (κs : _) (a : _) (r q : _) (x y : _) → dovetrellis-write-run.Learnt κs a r x → dovetrellis-write-run.Learnt κs a q y → (r ≡ q) × (x.1.0.now ≡ y.1.0.now) × (x.1.1.0.now ≡ y.1.1.0.now)
dovetrellis_write_run_one κs a r q x y h g = (h.0 ∙ sym g.0, h.1.0 ∙ sym g.1.0, h.1.1 ∙ sym g.1.1)

pub dovetrellis_write_lifted_one : (κs : _) (a : _) (r q : _) (x y : _) → dovetrellis-write-lifted.Learnt κs a r x → dovetrellis-write-lifted.Learnt κs a q y → (r ≡ q) × (x.1.0.now ≡ y.1.0.now) × (x.1.1.0.now ≡ y.1.1.0.now)
dovetrellis_write_lifted_one κs a r q x y h g = (h.0 ∙ sym g.0, h.1.0 ∙ sym g.1.0, h.1.1 ∙ sym g.1.1)

pub dovetrellis_element_count_one : (κs : _) (a : _) (r q : _) (x y : _) → dovetrellis-element-count.Learnt κs a r x → dovetrellis-element-count.Learnt κs a q y → (r ≡ q) × (x.1.0.now ≡ y.1.0.now)
dovetrellis_element_count_one κs a r q x y h g = (h.0 ∙ sym g.0, h.1 ∙ sym g.1)

pub dovetrellis_element_one : (κs : _) (a : _) (r q : _) (x y : _) → dovetrellis-element.Learnt κs a r x → dovetrellis-element.Learnt κs a q y → (r ≡ q) × (x.1.1.0.now ≡ y.1.1.0.now) × (x.1.1.1.0.now ≡ y.1.1.1.0.now)
dovetrellis_element_one κs a r q x y h g = (h.0 ∙ sym g.0, h.1.0 ∙ sym g.1.0, h.1.1 ∙ sym g.1.1)

pub dovetrellis_lossy_one : (κs : _) (a : _) (r q : _) (x y : _) → dovetrellis-lossy.Learnt κs a r x → dovetrellis-lossy.Learnt κs a q y
    → (r ≡ q) × (x.1.0.now ≡ y.1.0.now)
dovetrellis_lossy_one κs a r q x y h g = (h.0 ∙ sym g.0, h.1 ∙ sym g.1)
