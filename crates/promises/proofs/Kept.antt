-- Demand 1 for every call: it is worked, or refused with a number of its list, and then its lent output, which stands here as the
-- memory at exit, is as it was at entry. The reader's `record` is left out, of whose contract no reading is shown (docs/DECISIONS.md, 44).
use mathlib.Core.Path.{◌≡◌, sym, ◌∙◌}
use mathlib.Core.Bool.{Bool, true, false}
use mathlib.Core.List.{List}
use Prim.Native.Nat.{ℕ}
use lib.Dec.{T}
use lib.ListN.{length}
use Rattle.refusal.specs.declared.Refusal.{Refusal}
use Rattle.refusal.specs.Answer.{Judged, written}
use Rattle.std.specs.Prelude.{Ok, Err}
use Rattle.model.specs.Unfolding.{origin}
use Rattle.table.specs.Decoded.{net_of}
use Rattle.parts.specs.Asked.{asked_of, asked_condition_of, persistence_if, persistence_of}
use Rattle.game.specs.Calls.{leaves, fire_of, fired_of}
use Rattle.replay.specs.Calls.{replay_of, end_of, replay_from_of, end_from_of}
use Rattle.exchange.specs.Calls.{exchange_of, exchanged_of}
use Rattle.runs.specs.Runs.{run_kind, lifted_kind, read_answer, run_into}
use Rattle.writing.specs.Writing.{write_answer, record_into}
use Rattle.event_numbers.specs.Answers as unfolded
use Rattle.events.specs.Answers.{origin_if, origin_judged, origin_of}
use Rattle.condition_numbers.specs.Answers.{numbered}
use Rattle.conditions.specs.Origins.{condition_at, condition_judged, told_if, condition_origin_of}
use Rattle.elements.specs.Calls.{element_count_of, element_of, element_written_of}
use Rattle.unfolded_lists.specs.Calls.{unfolded_list_of, unfolded_listed_of}
use Rattle.starting.specs.Calls.{unfolded_start_of, unfolded_started_of}
use Rattle.firing.specs.Calls.{unfolded_fire_of, unfolded_fired_of}
use Rattle.lift.specs.Calls.{lift_of, lifted_of}
use Rattle.ends.specs.Calls.{lift_end_of, lift_ended_of, unfolded_replay_of, unfolded_replayed_of}
use Rattle.project.specs.Calls.{project_of, projected_of}
use Rattle.reader.specs.Read.{next_of}
use Rattle.asking.specs.Calls.{preconditions_of, preconditions_into, postconditions_of, postconditions_into, start_of, start_into}
use Rattle.losses.specs.Calls.{lossy_of, lossy_into}
use Rattle.listing.specs.Calls.{piece_of, files_of}
use Rattle.promises.specs.Refused.{of_list, of_table_start, of_lossy, of_files, of_piece, of_numbering, of_listing, of_start, of_unfolded_firing, of_lift, of_project, of_table, of_asking, of_firing, of_replay, of_replay_from, of_exchange, of_unfolding, of_reading, of_writing, listed, Refusing}
use Rattle.promises.proofs.Refused.{listed_need, judge_listed, judged_listed, firing_listed, replay_listed, replay_from_listed, exchange_listed, record_listed, preconditions_listed, postconditions_listed, start_listed, lossy_listed, files_listed, piece_listed, unfolding_of_listed, listing_listed, element_listed, unfolded_start_listed, unfolded_fire_listed, lift_listed, lift_end_listed, project_listed, unfolded_replay_listed, read_listed, write_listed}
use Rattle.table.proofs.judge.Reads as judge
use Rattle.table.proofs.condition_count.Reads as condition-count
use Rattle.table.proofs.event_count.Reads as event-count
use Rattle.parts.proofs.asked.Reads as asked
use Rattle.parts.proofs.asked_condition.Reads as asked-condition
use Rattle.game.proofs.concession.Reads as concession
use Rattle.game.proofs.fire.Reads as fire
use Rattle.replay.proofs.replay.Reads as replay
use Rattle.replay.proofs.replay_from.Reads as replay-from
use Rattle.exchange.proofs.exchange.Reads as exchange
use Rattle.runs.proofs.read_run.Reads as read-run
use Rattle.runs.proofs.read_lifted.Reads as read-lifted
use Rattle.writing.proofs.write_run.Reads as write-run
use Rattle.writing.proofs.write_lifted.Reads as write-lifted
use Rattle.unfolding.proofs.condition_count.Reads as unfolded-condition-count
use Rattle.unfolding.proofs.event_count.Reads as unfolded-event-count
use Rattle.parts.proofs.persistent.Reads as persistent
use Rattle.events.proofs.event_origin.Reads as event-origin
use Rattle.event_numbers.proofs.event_number.Reads as event_number
use Rattle.condition_numbers.proofs.ordinary_number.Reads as ordinary_number_lem
use Rattle.condition_numbers.proofs.copy_number.Reads as copy_number_lem
use Rattle.conditions.proofs.condition_origin.Reads as condition-origin
use Rattle.reader.proofs.record_at.Reads as record-at
use Rattle.reader.proofs.second.Reads as second
use Rattle.asking.proofs.preconditions.Reads as preconditions
use Rattle.asking.proofs.postconditions.Reads as postconditions
use Rattle.asking.proofs.start.Reads as table-start
use Rattle.losses.proofs.lossy.Reads as lossy
use Rattle.listing.proofs.read_files.Reads as read-files
use Rattle.listing.proofs.write.Reads as write-piece
use Rattle.elements.proofs.element_count.Reads as element-count
use Rattle.elements.proofs.element.Reads as element
use Rattle.unfolded_lists.proofs.unfolded_pre.Reads as unfolded-pre
use Rattle.unfolded_lists.proofs.unfolded_post.Reads as unfolded-post
use Rattle.starting.proofs.unfolded_start.Reads as unfolded-start
use Rattle.firing.proofs.unfolded_fire.Reads as unfolded-fire
use Rattle.lift.proofs.lift.Reads as lift
use Rattle.ends.proofs.lift_end.Reads as lift_end
use Rattle.project.proofs.project.Reads as project
use Rattle.ends.proofs.unfolded_replay.Reads as unfolded-replay

-- a call that meets its contract, where what it leaves is told by its answer
leaves_refused : (numbers : List ℕ) (r answer : Judged) (new old out : List ℕ) → r ≡ answer → T (listed numbers answer) → out ≡ leaves answer new old → Refusing numbers r old out
leaves_refused numbers r answer new old out e t f = record { number = rw e t; kept = λ x g. f ∙ kept (sym e ∙ g) }
  where
    kept : {x : Refusal} → answer ≡ Err x → leaves answer new old ≡ old
    kept g = rw g

pub written_refused : (numbers : List ℕ) (r answer : Judged) (new old out : List ℕ) → r ≡ answer → T (listed numbers answer) → out ≡ written answer new old → Refusing numbers r old out
written_refused numbers r answer new old out e t f = record { number = rw e t; kept = λ x g. f ∙ kept (sym e ∙ g) }
  where
    kept : {x : Refusal} → answer ≡ Err x → written answer new old ≡ old
    kept g = rw g

-- the same where it is told by the answer itself
pub late_refused : (numbers : List ℕ) (r answer : Judged) (new old out : List ℕ) → r ≡ answer → T (listed numbers answer) → out ≡ written r new old → Refusing numbers r old out
late_refused numbers r answer new old out e t f = record { number = rw e t; kept = λ x g. f ∙ kept g }
  where
    kept : {x : Refusal} → r ≡ Err x → written r new old ≡ old
    kept g = rw g

-- ---- a table asked

pub judge_refused : (κs : _) (a : _) (r : _) (x : _) → judge.Learnt κs a r x → T (listed of_table r)
judge_refused κs a r x h = rw h (judge_listed a.0.now)

pub condition_count_refused : (κs : _) (a : _) (r : _) (x : _) → condition-count.Learnt κs a r x → T (listed of_table r)
condition_count_refused κs a r x h = rw h (judged_listed of_table a.0.now _ tt (λ n. tt))

pub event_count_refused : (κs : _) (a : _) (r : _) (x : _) → event-count.Learnt κs a r x → T (listed of_table r)
event_count_refused κs a r x h = rw h (judged_listed of_table a.0.now _ tt (λ n. tt))

pub asked_refused : (κs : _) (a : _) (r : _) (x : _) → asked.Learnt κs a r x → T (listed of_asking r)
unfolding asked_of
asked_refused κs a r x h = rw h (judged_listed of_asking a.0.now _ tt (λ n. listed_need of_asking _ 10 0 _ tt tt))

pub asked_condition_refused : (κs : _) (a : _) (r : _) (x : _) → asked-condition.Learnt κs a r x → T (listed of_asking r)
unfolding asked_condition_of
asked_condition_refused κs a r x h = rw h (judged_listed of_asking a.0.now _ tt (λ n. listed_need of_asking _ 10 0 _ tt tt))

-- ---- one step of the game

pub concession_refused : (κs : _) (a : _) (r : _) (x : _) → concession.Learnt κs a r x → T (listed of_firing r)
concession_refused κs a r x h = rw h (firing_listed a.0.now a.1.0.now a.1.1.0.0 0)

pub fire_refused : (κs : _) (a : _) (r : _) (x : _) → fire.Learnt κs a r x → Refusing of_firing r a.1.0.now x.1.0.now
unfolding fired_of
fire_refused κs a r x h =
    leaves_refused of_firing r (fire_of a.0.now a.1.0.now a.1.1.0.0) _ a.1.0.now x.1.0.now h.0 (firing_listed a.0.now a.1.0.now a.1.1.0.0 (net_of a.0.now).conditions) h.1

-- ---- runs

pub replay_refused : (κs : _) (a : _) (r : _) (x : _) → replay.Learnt κs a r x → Refusing of_replay r a.1.1.0.now x.1.1.0.now
unfolding end_of
replay_refused κs a r x h =
    written_refused of_replay r (replay_of a.0.now a.1.0.now (length a.1.1.0.now)) _ a.1.1.0.now x.1.1.0.now h.0 (replay_listed a.0.now a.1.0.now (length a.1.1.0.now)) h.1

pub replay_from_refused : (κs : _) (a : _) (r : _) (x : _) → replay-from.Learnt κs a r x → Refusing of_replay_from r a.1.1.1.0.now x.1.1.1.0.now
unfolding end_from_of
replay_from_refused κs a r x h =
    written_refused of_replay_from r (replay_from_of a.0.now a.1.0.now a.1.1.0.now (length a.1.1.1.0.now)) _ a.1.1.1.0.now x.1.1.1.0.now h.0 (replay_from_listed a.0.now a.1.0.now a.1.1.0.now (length a.1.1.1.0.now)) h.1

pub exchange_refused : (κs : _) (a : _) (r : _) (x : _) → exchange.Learnt κs a r x → Refusing of_exchange r a.1.0.now x.1.0.now
unfolding exchanged_of
exchange_refused κs a r x h =
    leaves_refused of_exchange r (exchange_of a.0.now a.1.0.now a.1.1.0) _ a.1.0.now x.1.0.now h.0 (exchange_listed a.0.now a.1.0.now a.1.1.0) h.1

-- ---- records of runs

pub read_run_refused : (κs : _) (a : _) (r : _) (x : _) → read-run.Learnt κs a r x → Refusing of_reading r a.1.0.now x.1.0.now
unfolding run_into
read_run_refused κs a r x h =
    written_refused of_reading r (read_answer run_kind a.0.now (length a.1.0.now)) _ a.1.0.now x.1.0.now h.0 (read_listed run_kind a.0.now (length a.1.0.now)) h.1

pub read_lifted_refused : (κs : _) (a : _) (r : _) (x : _) → read-lifted.Learnt κs a r x → Refusing of_reading r a.1.0.now x.1.0.now
unfolding run_into
read_lifted_refused κs a r x h =
    written_refused of_reading r (read_answer lifted_kind a.0.now (length a.1.0.now)) _ a.1.0.now x.1.0.now h.0 (read_listed lifted_kind a.0.now (length a.1.0.now)) h.1

pub write_run_refused : (κs : _) (a : _) (r : _) (x : _) → write-run.Learnt κs a r x → Refusing of_writing r a.1.0.now x.1.0.now
unfolding record_into
write_run_refused κs a r x h =
    written_refused of_writing r (write_answer a.0.now (length a.1.0.now)) _ a.1.0.now x.1.0.now h.0 (write_listed a.0.now (length a.1.0.now)) h.1

pub write_lifted_refused : (κs : _) (a : _) (r : _) (x : _) → write-lifted.Learnt κs a r x → Refusing of_writing r a.1.0.now x.1.0.now
unfolding record_into
write_lifted_refused κs a r x h =
    written_refused of_writing r (write_answer a.0.now (length a.1.0.now)) _ a.1.0.now x.1.0.now h.0 (write_listed a.0.now (length a.1.0.now)) h.1

-- ---- the unfolding

pub unfolded_condition_count_refused : (κs : _) (a : _) (r : _) (x : _) → unfolded-condition-count.Learnt κs a r x → T (listed of_unfolding r)
unfolded_condition_count_refused κs a r x h = rw h (unfolding_of_listed of_unfolding a.0.now _ tt tt)

pub unfolded_event_count_refused : (κs : _) (a : _) (r : _) (x : _) → unfolded-event-count.Learnt κs a r x → T (listed of_unfolding r)
unfolded_event_count_refused κs a r x h = rw h (unfolding_of_listed of_unfolding a.0.now _ tt tt)

persistence_listed : (s : List ℕ) (b : ℕ) → T (listed of_asking (persistence_of s b))
unfolding persistence_of asked_condition_of
persistence_listed s b =
    go (asked_condition_of s b) ((net_of s).persistent b) (judged_listed of_asking s _ tt (λ n. listed_need of_asking _ 10 0 _ tt tt))
  where
    go : (a : Judged) (flag : Bool) → T (listed of_asking a) → T (listed of_asking (persistence_if a flag))
    go (Ok at) true t = tt
    go (Ok at) false t = tt
    go (Err x) flag t = t

pub persistent_refused : (κs : _) (a : _) (r : _) (x : _) → persistent.Learnt κs a r x → T (listed of_asking r)
persistent_refused κs a r x h = rw h (persistence_listed a.0.now a.1.0.0)

-- what is told of an unfolded event
pub event_listed : (s : List ℕ) (j : ℕ) → T (listed of_numbering (origin_of s j))
unfolding origin_of origin_judged
event_listed s j = go (origin_judged s j) (unfolding_of_listed of_numbering s _ tt (listed_need of_numbering _ 10 0 _ tt tt))
  where
    go : (a : Judged) → T (listed of_numbering a) → T (listed of_numbering (origin_if a (origin (net_of s) j)))
    go (Ok k) t = tt
    go (Err x) t = t

pub event_origin_refused : (κs : _) (a : _) (r : _) (x : _) → event-origin.Learnt κs a r x → T (listed of_numbering r)
event_origin_refused κs a r x h = rw h (event_listed a.0.now a.1.0.0)

pub event_number_refused : (κs : _) (a : _) (r : _) (x : _) → event_number.Learnt κs a r x → T (listed of_numbering r)
unfolding unfolded.number_of
event_number_refused κs a r x h = rw h (unfolding_of_listed of_numbering a.0.now _ tt (listed_need of_numbering _ 10 0 _ tt tt))

pub ordinary_number_refused : (κs : _) (a : _) (r : _) (x : _) → ordinary_number_lem.Learnt κs a r x → T (listed of_numbering r)
unfolding numbered
ordinary_number_refused κs a r x h = rw h (unfolding_of_listed of_numbering a.0.now _ tt (listed_need of_numbering _ 10 0 _ tt tt))

pub copy_number_refused : (κs : _) (a : _) (r : _) (x : _) → copy_number_lem.Learnt κs a r x → T (listed of_numbering r)
unfolding numbered
copy_number_refused κs a r x h = rw h (unfolding_of_listed of_numbering a.0.now _ tt (listed_need of_numbering _ 10 0 _ tt tt))

-- what is told of an unfolded condition
pub condition_listed : (s : List ℕ) (i : ℕ) → T (listed of_numbering (condition_origin_of s i))
unfolding condition_origin_of condition_judged
condition_listed s i = go (condition_judged s i) (unfolding_of_listed of_numbering s _ tt (listed_need of_numbering _ 10 0 _ tt tt))
  where
    go : (a : Judged) → T (listed of_numbering a) → T (listed of_numbering (told_if a (condition_at (net_of s) i)))
    go (Ok k) t = tt
    go (Err x) t = t

pub condition_origin_refused : (κs : _) (a : _) (r : _) (x : _) → condition-origin.Learnt κs a r x → T (listed of_numbering r)
condition_origin_refused κs a r x h = rw h (condition_listed a.0.now a.1.0.0)

pub record_at_refused : (κs : _) (a : _) (r : _) (x : _) → record-at.Learnt κs a r x → T (listed of_table r)
record_at_refused κs a r x h = rw h (record_listed a.0.now a.1.0)

pub second_refused : (κs : _) (a : _) (r : _) (x : _) → second.Learnt κs a r x → T (listed of_table r)
second_refused κs a r x h = rw h (record_listed a.0.now (next_of a.0.now 0))

pub preconditions_refused : (κs : _) (a : _) (r : _) (x : _) → preconditions.Learnt κs a r x → Refusing of_list r a.1.1.0.now x.1.1.0.now
unfolding preconditions_into
preconditions_refused κs a r x h =
    written_refused of_list r (preconditions_of a.0.now a.1.0.0 (length a.1.1.0.now)) _ a.1.1.0.now x.1.1.0.now h.0 (preconditions_listed a.0.now a.1.0.0 (length a.1.1.0.now)) h.1

pub postconditions_refused : (κs : _) (a : _) (r : _) (x : _) → postconditions.Learnt κs a r x → Refusing of_list r a.1.1.0.now x.1.1.0.now
unfolding postconditions_into
postconditions_refused κs a r x h =
    written_refused of_list r (postconditions_of a.0.now a.1.0.0 (length a.1.1.0.now)) _ a.1.1.0.now x.1.1.0.now h.0 (postconditions_listed a.0.now a.1.0.0 (length a.1.1.0.now)) h.1

pub table_start_refused : (κs : _) (a : _) (r : _) (x : _) → table-start.Learnt κs a r x → Refusing of_table_start r a.1.0.now x.1.0.now
unfolding start_into
table_start_refused κs a r x h =
    written_refused of_table_start r (start_of a.0.now (length a.1.0.now)) _ a.1.0.now x.1.0.now h.0 (start_listed a.0.now (length a.1.0.now)) h.1

pub lossy_refused : (κs : _) (a : _) (r : _) (x : _) → lossy.Learnt κs a r x → Refusing of_lossy r a.1.0.now x.1.0.now
unfolding lossy_into
lossy_refused κs a r x h =
    let room = length a.1.0.now in
    written_refused of_lossy r (lossy_of a.0.now room) _ a.1.0.now x.1.0.now h.0 (lossy_listed a.0.now room) h.1

-- ---- the listing

pub read_files_refused : (κs : _) (a : _) (r : _) (x : _) → read-files.Learnt κs a r x → Refusing of_files r a.1.1.0.now x.1.1.0.now
read_files_refused κs a r x h =
    late_refused of_files r (files_of a.0.now a.1.0.now (length a.1.1.0.now)) _ a.1.1.0.now x.1.1.0.now h.0 (files_listed a.0.now a.1.0.now (length a.1.1.0.now)) h.1

pub write_piece_refused : (κs : _) (a : _) (r : _) (x : _) → write-piece.Learnt κs a r x → Refusing of_piece r a.1.1.0.now x.1.1.0.now
write_piece_refused κs a r x h =
    late_refused of_piece r (piece_of a.0 a.1.0.now (length a.1.1.0.now)) _ a.1.1.0.now x.1.1.0.now h.0 (piece_listed a.0 a.1.0.now (length a.1.1.0.now)) h.1

pub element_count_refused : (κs : _) (a : _) (r : _) (x : _) → element-count.Learnt κs a r x → T (listed of_unfolding r)
unfolding element_count_of
element_count_refused κs a r x h = rw h (unfolding_of_listed of_unfolding a.0.now _ tt tt)

pub element_refused : (κs : _) (a : _) (r : _) (x : _) → element.Learnt κs a r x → Refusing of_listing r a.1.1.0.now x.1.1.0.now
unfolding element_written_of
element_refused κs a r x h =
    written_refused of_listing r (element_of a.0.now a.1.0 (length a.1.1.0.now)) _ a.1.1.0.now x.1.1.0.now h.0 (element_listed a.0.now a.1.0 (length a.1.1.0.now)) h.1

pub unfolded_pre_refused : (κs : _) (a : _) (r : _) (x : _) → unfolded-pre.Learnt κs a r x → Refusing of_listing r a.1.1.0.now x.1.1.0.now
unfolding unfolded_listed_of
unfolded_pre_refused κs a r x h =
    written_refused of_listing r (unfolded_list_of a.0.now false a.1.0.0 (length a.1.1.0.now)) _ a.1.1.0.now x.1.1.0.now h.0 (listing_listed a.0.now false a.1.0.0 (length a.1.1.0.now)) h.1

pub unfolded_post_refused : (κs : _) (a : _) (r : _) (x : _) → unfolded-post.Learnt κs a r x → Refusing of_listing r a.1.1.0.now x.1.1.0.now
unfolding unfolded_listed_of
unfolded_post_refused κs a r x h =
    written_refused of_listing r (unfolded_list_of a.0.now true a.1.0.0 (length a.1.1.0.now)) _ a.1.1.0.now x.1.1.0.now h.0 (listing_listed a.0.now true a.1.0.0 (length a.1.1.0.now)) h.1

pub unfolded_start_refused : (κs : _) (a : _) (r : _) (x : _) → unfolded-start.Learnt κs a r x → Refusing of_start r a.1.0.now x.1.0.now
unfolding unfolded_started_of
unfolded_start_refused κs a r x h =
    written_refused of_start r (unfolded_start_of a.0.now (length a.1.0.now)) _ a.1.0.now x.1.0.now h.0 (unfolded_start_listed a.0.now (length a.1.0.now)) h.1

pub unfolded_fire_refused : (κs : _) (a : _) (r : _) (x : _) → unfolded-fire.Learnt κs a r x → Refusing of_unfolded_firing r a.1.0.now x.1.0.now
unfolding unfolded_fired_of
unfolded_fire_refused κs a r x h =
    leaves_refused of_unfolded_firing r (unfolded_fire_of a.0.now a.1.0.now a.1.1.0.0) _ a.1.0.now x.1.0.now h.0 (unfolded_fire_listed a.0.now a.1.0.now a.1.1.0.0) h.1

-- ---- across

pub lift_refused : (κs : _) (a : _) (r : _) (x : _) → lift.Learnt κs a r x → Refusing of_lift r a.1.1.0.now x.1.1.0.now
unfolding lifted_of
lift_refused κs a r x h =
    written_refused of_lift r (lift_of a.0.now a.1.0.now (length a.1.1.0.now)) _ a.1.1.0.now x.1.1.0.now h.0 (lift_listed a.0.now a.1.0.now (length a.1.1.0.now)) h.1

pub lift_end_refused : (κs : _) (a : _) (r : _) (x : _) → lift_end.Learnt κs a r x → Refusing of_lift r a.1.1.0.now x.1.1.0.now
unfolding lift_ended_of
lift_end_refused κs a r x h =
    written_refused of_lift r (lift_end_of a.0.now a.1.0.now (length a.1.1.0.now)) _ a.1.1.0.now x.1.1.0.now h.0 (lift_end_listed a.0.now a.1.0.now (length a.1.1.0.now)) h.1

pub project_refused : (κs : _) (a : _) (r : _) (x : _) → project.Learnt κs a r x → Refusing of_project r a.1.1.0.now x.1.1.0.now
unfolding projected_of
project_refused κs a r x h =
    written_refused of_project r (project_of a.0.now a.1.0.now (length a.1.1.0.now)) _ a.1.1.0.now x.1.1.0.now h.0 (project_listed a.0.now a.1.0.now (length a.1.1.0.now)) h.1

pub unfolded_replay_refused : (κs : _) (a : _) (r : _) (x : _) → unfolded-replay.Learnt κs a r x → Refusing of_project r a.1.1.0.now x.1.1.0.now
unfolding unfolded_replayed_of
unfolded_replay_refused κs a r x h =
    written_refused of_project r (unfolded_replay_of a.0.now a.1.0.now (length a.1.1.0.now)) _ a.1.1.0.now x.1.1.0.now h.0 (unfolded_replay_listed a.0.now a.1.0.now (length a.1.1.0.now)) h.1
