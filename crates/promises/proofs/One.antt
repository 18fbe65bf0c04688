-- One answer only: two answers of a call that both meet its contract are equal, in the result and in the lent output, which stands
-- here as the memory at exit.
use mathlib.Core.Path.{◌≡◌, sym, ap, ◌∙◌}
use mathlib.Core.List.{List}
use Prim.Native.Nat.{ℕ}
use denote.Ref.{Bor}
use Rattle.records.specs.Parts.{Part}
use Rattle.refusal.specs.Answer.{Judged, written}
use Rattle.runs.specs.Runs.{run_of}
use Rattle.listing.specs.Calls.{text_of}
use Rattle.refusal.proofs.refused.Reads as refused
use Rattle.refusal.proofs.refused_by.Reads as refused-by
use Rattle.refusal.proofs.Condition.number.Reads as condition_number_lem
use Rattle.refusal.proofs.number_of.Reads as number_of_lem
use Rattle.refusal.proofs.place_of.Reads as place_of
use Rattle.refusal.proofs.by_of.Reads as by-of
use Rattle.refusal.proofs.value_of.Reads as value_of_lem
use Rattle.table.proofs.judge.Reads as judge
use Rattle.table.proofs.condition_count.Reads as condition-count
use Rattle.table.proofs.event_count.Reads as event-count
use Rattle.parts.proofs.asked.Reads as asked
use Rattle.parts.proofs.asked_condition.Reads as asked-condition
use Rattle.parts.proofs.persistent.Reads as persistent
use Rattle.parts.proofs.pre_part.Reads as pre-part
use Rattle.parts.proofs.post_part.Reads as post-part
use Rattle.parts.proofs.marking_part.Reads as marking-part
use Rattle.parts.proofs.condition_in.Reads as condition_in
use Rattle.reader.proofs.record_at.Reads as record-at
use Rattle.reader.proofs.next_at.Reads as next-at
use Rattle.reader.proofs.second.Reads as second
use Rattle.reader.proofs.second_place.Reads as second_place
use Rattle.game.proofs.concession.Reads as concession
use Rattle.game.proofs.fire.Reads as fire
use Rattle.replay.proofs.replay.Reads as replay
use Rattle.replay.proofs.replay_from.Reads as replay-from
use Rattle.exchange.proofs.exchange.Reads as exchange
use Rattle.runs.proofs.read_run.Reads as read-run
use Rattle.runs.proofs.read_lifted.Reads as read-lifted
use Rattle.writing.proofs.write_run.Reads as write-run
use Rattle.writing.proofs.write_lifted.Reads as write-lifted
use Rattle.unfolding.proofs.condition_count.Reads as unfolded-condition-count
use Rattle.unfolding.proofs.event_count.Reads as unfolded-event-count
use Rattle.events.proofs.event_origin.Reads as event-origin
use Rattle.event_numbers.proofs.event_number.Reads as event_number
use Rattle.condition_numbers.proofs.ordinary_number.Reads as ordinary_number_lem
use Rattle.condition_numbers.proofs.copy_number.Reads as copy_number_lem
use Rattle.conditions.proofs.condition_origin.Reads as condition-origin
use Rattle.asking.proofs.preconditions.Reads as preconditions
use Rattle.asking.proofs.postconditions.Reads as postconditions
use Rattle.asking.proofs.start.Reads as table-start
use Rattle.losses.proofs.lossy.Reads as lossy
use Rattle.elements.proofs.element_count.Reads as element-count
use Rattle.elements.proofs.element.Reads as element
use Rattle.unfolded_lists.proofs.unfolded_pre.Reads as unfolded-pre
use Rattle.unfolded_lists.proofs.unfolded_post.Reads as unfolded-post
use Rattle.starting.proofs.unfolded_start.Reads as unfolded-start
use Rattle.firing.proofs.unfolded_fire.Reads as unfolded-fire
use Rattle.lift.proofs.lift.Reads as lift
use Rattle.ends.proofs.lift_end.Reads as lift_end
use Rattle.project.proofs.project.Reads as project
use Rattle.ends.proofs.unfolded_replay.Reads as unfolded-replay
use Rattle.listing.proofs.first_held.Reads as first_held
use Rattle.listing.proofs.next_piece.Reads as next-piece
use Rattle.listing.proofs.write.Reads as write-piece
use Rattle.listing.proofs.read_files.Reads as read-files

-- two parts of a table that lie and read the same
pub same_part : {r q s : Bor (List ℕ)} {place : ℕ} {contents : List ℕ} → Part r s place contents → Part q s place contents → (r.ref_ptr.0 ≡ q.ref_ptr.0) × (r.ref_ptr.1 ≡ q.ref_ptr.1) × (r.now ≡ q.now)
same_part h g = (h.within ∙ sym g.within, h.begins ∙ sym g.begins, h.reads ∙ sym g.reads)

-- where what is left is told by the answer
same_late : (r q : Judged) (new old after past : List ℕ) → r ≡ q → after ≡ written r new old → past ≡ written q new old → (r ≡ q) × (after ≡ past)
same_late r q new old after past e f g = (e, f ∙ ap (λ (z : Judged). written z new old) e ∙ sym g)

-- ---- answers

pub refused_one : (g d κs a : _) (r q : _) (x y : _) → refused.Learnt g d κs a r x → refused.Learnt g d κs a q y → r ≡ q
refused_one g d κs a r q x y h e = h ∙ sym e

pub refused_by_one : (g d κs a : _) (r q : _) (x y : _) → refused-by.Learnt g d κs a r x → refused-by.Learnt g d κs a q y → r ≡ q
refused_by_one g d κs a r q x y h e = h ∙ sym e

pub condition_own_number_one : (κs : _) (a : _) (r q : _) (x y : _) → condition_number_lem.Learnt κs a r x → condition_number_lem.Learnt κs a q y → r ≡ q
condition_own_number_one κs a r q x y h g = h ∙ sym g

pub number_of_one : (κs : _) (a : _) (r q : _) (x y : _) → number_of_lem.Learnt κs a r x → number_of_lem.Learnt κs a q y → r ≡ q
number_of_one κs a r q x y h g = h ∙ sym g

pub place_of_one : (κs : _) (a : _) (r q : _) (x y : _) → place_of.Learnt κs a r x → place_of.Learnt κs a q y → r ≡ q
place_of_one κs a r q x y h g = h ∙ sym g

pub by_of_one : (κs : _) (a : _) (r q : _) (x y : _) → by-of.Learnt κs a r x → by-of.Learnt κs a q y → r ≡ q
by_of_one κs a r q x y h g = h ∙ sym g

pub value_of_one : (κs : _) (a : _) (r q : _) (x y : _) → value_of_lem.Learnt κs a r x → value_of_lem.Learnt κs a q y → r ≡ q
value_of_one κs a r q x y h g = h ∙ sym g

-- ---- a table asked

pub judge_one : (κs : _) (a : _) (r q : _) (x y : _) → judge.Learnt κs a r x → judge.Learnt κs a q y → r ≡ q
judge_one κs a r q x y h g = h ∙ sym g

pub condition_count_one : (κs : _) (a : _) (r q : _) (x y : _) → condition-count.Learnt κs a r x → condition-count.Learnt κs a q y → r ≡ q
condition_count_one κs a r q x y h g = h ∙ sym g

pub event_count_one : (κs : _) (a : _) (r q : _) (x y : _) → event-count.Learnt κs a r x → event-count.Learnt κs a q y → r ≡ q
event_count_one κs a r q x y h g = h ∙ sym g

pub asked_one : (κs : _) (a : _) (r q : _) (x y : _) → asked.Learnt κs a r x → asked.Learnt κs a q y → r ≡ q
asked_one κs a r q x y h g = h ∙ sym g

pub asked_condition_one : (κs : _) (a : _) (r q : _) (x y : _) → asked-condition.Learnt κs a r x → asked-condition.Learnt κs a q y → r ≡ q
asked_condition_one κs a r q x y h g = h ∙ sym g

pub persistent_one : (κs : _) (a : _) (r q : _) (x y : _) → persistent.Learnt κs a r x → persistent.Learnt κs a q y → r ≡ q
persistent_one κs a r q x y h g = h ∙ sym g

pub pre_part_one : (κs : _) (a : _) (r q : _) (x y : _) → pre-part.Learnt κs a r x → pre-part.Learnt κs a q y → (r.ref_ptr.0 ≡ q.ref_ptr.0) × (r.ref_ptr.1 ≡ q.ref_ptr.1) × (r.now ≡ q.now)
pre_part_one κs a r q x y h g = same_part h.0 g.0

pub post_part_one : (κs : _) (a : _) (r q : _) (x y : _) → post-part.Learnt κs a r x → post-part.Learnt κs a q y → (r.ref_ptr.0 ≡ q.ref_ptr.0) × (r.ref_ptr.1 ≡ q.ref_ptr.1) × (r.now ≡ q.now)
post_part_one κs a r q x y h g = same_part h.0 g.0

pub marking_part_one : (κs : _) (a : _) (r q : _) (x y : _) → marking-part.Learnt κs a r x → marking-part.Learnt κs a q y → (r.ref_ptr.0 ≡ q.ref_ptr.0) × (r.ref_ptr.1 ≡ q.ref_ptr.1) × (r.now ≡ q.now)
marking_part_one κs a r q x y h g = same_part h.0 g.0

pub condition_in_one : (κs : _) (a : _) (r q : _) (x y : _) → condition_in.Learnt κs a r x → condition_in.Learnt κs a q y → r.0 ≡ q.0
condition_in_one κs a r q x y h g = h ∙ sym g

-- ---- the reader

pub record_at_one : (κs : _) (a : _) (r q : _) (x y : _) → record-at.Learnt κs a r x → record-at.Learnt κs a q y → r ≡ q
record_at_one κs a r q x y h g = h ∙ sym g

pub next_at_one : (κs : _) (a : _) (r q : _) (x y : _) → next-at.Learnt κs a r x → next-at.Learnt κs a q y → r ≡ q
next_at_one κs a r q x y h g = h ∙ sym g

pub second_one : (κs : _) (a : _) (r q : _) (x y : _) → second.Learnt κs a r x → second.Learnt κs a q y → r ≡ q
second_one κs a r q x y h g = h ∙ sym g

pub second_place_one : (κs : _) (a : _) (r q : _) (x y : _) → second_place.Learnt κs a r x → second_place.Learnt κs a q y → r ≡ q
second_place_one κs a r q x y h g = h ∙ sym g

-- ---- one step of the game

pub concession_one : (κs : _) (a : _) (r q : _) (x y : _) → concession.Learnt κs a r x → concession.Learnt κs a q y → r ≡ q
concession_one κs a r q x y h g = h ∙ sym g

pub fire_one : (κs : _) (a : _) (r q : _) (x y : _) → fire.Learnt κs a r x → fire.Learnt κs a q y → (r ≡ q) × (x.1.0.now ≡ y.1.0.now)
fire_one κs a r q x y h g = (h.0 ∙ sym g.0, h.1 ∙ sym g.1)

-- ---- runs

pub replay_one : (κs : _) (a : _) (r q : _) (x y : _) → replay.Learnt κs a r x → replay.Learnt κs a q y → (r ≡ q) × (x.1.1.0.now ≡ y.1.1.0.now)
replay_one κs a r q x y h g = (h.0 ∙ sym g.0, h.1 ∙ sym g.1)

pub replay_from_one : (κs : _) (a : _) (r q : _) (x y : _) → replay-from.Learnt κs a r x → replay-from.Learnt κs a q y → (r ≡ q) × (x.1.1.1.0.now ≡ y.1.1.1.0.now)
replay_from_one κs a r q x y h g = (h.0 ∙ sym g.0, h.1 ∙ sym g.1)

pub exchange_one : (κs : _) (a : _) (r q : _) (x y : _) → exchange.Learnt κs a r x → exchange.Learnt κs a q y → (r ≡ q) × (x.1.0.now ≡ y.1.0.now)
exchange_one κs a r q x y h g = (h.0 ∙ sym g.0, h.1 ∙ sym g.1)

-- ---- records of runs

pub read_run_one : (κs : _) (a : _) (r q : _) (x y : _) → read-run.Learnt κs a r x → read-run.Learnt κs a q y → (r ≡ q) × (x.1.0.now ≡ y.1.0.now)
read_run_one κs a r q x y h g = (h.0 ∙ sym g.0, h.1 ∙ sym g.1)

pub read_lifted_one : (κs : _) (a : _) (r q : _) (x y : _) → read-lifted.Learnt κs a r x → read-lifted.Learnt κs a q y → (r ≡ q) × (x.1.0.now ≡ y.1.0.now)
read_lifted_one κs a r q x y h g = (h.0 ∙ sym g.0, h.1 ∙ sym g.1)

pub write_run_one : (κs : _) (a : _) (r q : _) (x y : _) → write-run.Learnt κs a r x → write-run.Learnt κs a q y → (r ≡ q) × (x.1.0.now ≡ y.1.0.now)
write_run_one κs a r q x y h g = (h.0 ∙ sym g.0, h.1 ∙ sym g.1)

pub write_lifted_one : (κs : _) (a : _) (r q : _) (x y : _) → write-lifted.Learnt κs a r x → write-lifted.Learnt κs a q y → (r ≡ q) × (x.1.0.now ≡ y.1.0.now)
write_lifted_one κs a r q x y h g = (h.0 ∙ sym g.0, h.1 ∙ sym g.1)

-- ---- the unfolding

pub unfolded_condition_count_one : (κs : _) (a : _) (r q : _) (x y : _) → unfolded-condition-count.Learnt κs a r x → unfolded-condition-count.Learnt κs a q y → r ≡ q
unfolded_condition_count_one κs a r q x y h g = h ∙ sym g

pub unfolded_event_count_one : (κs : _) (a : _) (r q : _) (x y : _) → unfolded-event-count.Learnt κs a r x → unfolded-event-count.Learnt κs a q y → r ≡ q
unfolded_event_count_one κs a r q x y h g = h ∙ sym g

pub event_origin_one : (κs : _) (a : _) (r q : _) (x y : _) → event-origin.Learnt κs a r x → event-origin.Learnt κs a q y → r ≡ q
event_origin_one κs a r q x y h g = h ∙ sym g

pub event_number_one : (κs : _) (a : _) (r q : _) (x y : _) → event_number.Learnt κs a r x → event_number.Learnt κs a q y → r ≡ q
event_number_one κs a r q x y h g = h ∙ sym g

pub ordinary_number_one : (κs : _) (a : _) (r q : _) (x y : _) → ordinary_number_lem.Learnt κs a r x → ordinary_number_lem.Learnt κs a q y → r ≡ q
ordinary_number_one κs a r q x y h g = h ∙ sym g

pub copy_number_one : (κs : _) (a : _) (r q : _) (x y : _) → copy_number_lem.Learnt κs a r x → copy_number_lem.Learnt κs a q y → r ≡ q
copy_number_one κs a r q x y h g = h ∙ sym g

pub condition_origin_one : (κs : _) (a : _) (r q : _) (x y : _) → condition-origin.Learnt κs a r x → condition-origin.Learnt κs a q y → r ≡ q
condition_origin_one κs a r q x y h g = h ∙ sym g

pub preconditions_one : (κs : _) (a : _) (r q : _) (x y : _) → preconditions.Learnt κs a r x → preconditions.Learnt κs a q y → (r ≡ q) × (x.1.1.0.now ≡ y.1.1.0.now)
preconditions_one κs a r q x y h g = (h.0 ∙ sym g.0, h.1 ∙ sym g.1)

pub postconditions_one : (κs : _) (a : _) (r q : _) (x y : _) → postconditions.Learnt κs a r x → postconditions.Learnt κs a q y → (r ≡ q) × (x.1.1.0.now ≡ y.1.1.0.now)
postconditions_one κs a r q x y h g = (h.0 ∙ sym g.0, h.1 ∙ sym g.1)

pub table_start_one : (κs : _) (a : _) (r q : _) (x y : _) → table-start.Learnt κs a r x → table-start.Learnt κs a q y → (r ≡ q) × (x.1.0.now ≡ y.1.0.now)
table_start_one κs a r q x y h g = (h.0 ∙ sym g.0, h.1 ∙ sym g.1)

pub lossy_one : (κs : _) (a : _) (r q : _) (x y : _) → lossy.Learnt κs a r x → lossy.Learnt κs a q y → (r ≡ q) × (x.1.0.now ≡ y.1.0.now)
lossy_one κs a r q x y h g = (h.0 ∙ sym g.0, h.1 ∙ sym g.1)

pub element_count_one : (κs : _) (a : _) (r q : _) (x y : _) → element-count.Learnt κs a r x → element-count.Learnt κs a q y → r ≡ q
element_count_one κs a r q x y h g = h ∙ sym g

pub element_one : (κs : _) (a : _) (r q : _) (x y : _) → element.Learnt κs a r x → element.Learnt κs a q y → (r ≡ q) × (x.1.1.0.now ≡ y.1.1.0.now)
element_one κs a r q x y h g = (h.0 ∙ sym g.0, h.1 ∙ sym g.1)

pub unfolded_pre_one : (κs : _) (a : _) (r q : _) (x y : _) → unfolded-pre.Learnt κs a r x → unfolded-pre.Learnt κs a q y → (r ≡ q) × (x.1.1.0.now ≡ y.1.1.0.now)
unfolded_pre_one κs a r q x y h g = (h.0 ∙ sym g.0, h.1 ∙ sym g.1)

pub unfolded_post_one : (κs : _) (a : _) (r q : _) (x y : _) → unfolded-post.Learnt κs a r x → unfolded-post.Learnt κs a q y → (r ≡ q) × (x.1.1.0.now ≡ y.1.1.0.now)
unfolded_post_one κs a r q x y h g = (h.0 ∙ sym g.0, h.1 ∙ sym g.1)

pub unfolded_start_one : (κs : _) (a : _) (r q : _) (x y : _) → unfolded-start.Learnt κs a r x → unfolded-start.Learnt κs a q y → (r ≡ q) × (x.1.0.now ≡ y.1.0.now)
unfolded_start_one κs a r q x y h g = (h.0 ∙ sym g.0, h.1 ∙ sym g.1)

pub unfolded_fire_one : (κs : _) (a : _) (r q : _) (x y : _) → unfolded-fire.Learnt κs a r x → unfolded-fire.Learnt κs a q y → (r ≡ q) × (x.1.0.now ≡ y.1.0.now)
unfolded_fire_one κs a r q x y h g = (h.0 ∙ sym g.0, h.1 ∙ sym g.1)

-- ---- across

pub lift_one : (κs : _) (a : _) (r q : _) (x y : _) → lift.Learnt κs a r x → lift.Learnt κs a q y → (r ≡ q) × (x.1.1.0.now ≡ y.1.1.0.now)
lift_one κs a r q x y h g = (h.0 ∙ sym g.0, h.1 ∙ sym g.1)

pub lift_end_one : (κs : _) (a : _) (r q : _) (x y : _) → lift_end.Learnt κs a r x → lift_end.Learnt κs a q y → (r ≡ q) × (x.1.1.0.now ≡ y.1.1.0.now)
lift_end_one κs a r q x y h g = (h.0 ∙ sym g.0, h.1 ∙ sym g.1)

pub project_one : (κs : _) (a : _) (r q : _) (x y : _) → project.Learnt κs a r x → project.Learnt κs a q y → (r ≡ q) × (x.1.1.0.now ≡ y.1.1.0.now)
project_one κs a r q x y h g = (h.0 ∙ sym g.0, h.1 ∙ sym g.1)

pub unfolded_replay_one : (κs : _) (a : _) (r q : _) (x y : _) → unfolded-replay.Learnt κs a r x → unfolded-replay.Learnt κs a q y → (r ≡ q) × (x.1.1.0.now ≡ y.1.1.0.now)
unfolded_replay_one κs a r q x y h g = (h.0 ∙ sym g.0, h.1 ∙ sym g.1)

-- ---- the listing

pub first_held_one : (κs : _) (a : _) (r q : _) (x y : _) → first_held.Learnt κs a r x → first_held.Learnt κs a q y → r ≡ q
first_held_one κs a r q x y h g = h ∙ sym g

pub next_piece_one : (κs : _) (a : _) (r q : _) (x y : _) → next-piece.Learnt κs a r x → next-piece.Learnt κs a q y → r ≡ q
next_piece_one κs a r q x y h g = h ∙ sym g

pub write_piece_one : (κs : _) (a : _) (r q : _) (x y : _) → write-piece.Learnt κs a r x → write-piece.Learnt κs a q y → (r ≡ q) × (x.1.1.0.now ≡ y.1.1.0.now)
write_piece_one κs a r q x y h g = same_late r q (text_of a.0 a.1.0.now) a.1.1.0.now x.1.1.0.now y.1.1.0.now (h.0 ∙ sym g.0) h.1 g.1

pub read_files_one : (κs : _) (a : _) (r q : _) (x y : _) → read-files.Learnt κs a r x → read-files.Learnt κs a q y → (r ≡ q) × (x.1.1.0.now ≡ y.1.1.0.now)
read_files_one κs a r q x y h g = same_late r q (run_of a.1.0.now) a.1.1.0.now x.1.1.0.now y.1.1.0.now (h.0 ∙ sym g.0) h.1 g.1
