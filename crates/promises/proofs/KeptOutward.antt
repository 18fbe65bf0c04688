-- Demand 1 for the calls for C: each tells number 0 or one of its list, a condition only with 11 and 12, and where it tells another number
-- than 0 everything that was lent, which stands here as the memory at exit, is as it was at entry.
use mathlib.Core.Path.{◌≡◌, refl, sym, ap, subst, ◌∙◌}
use mathlib.Core.Bool.{Bool, true, false}
use mathlib.Core.Option.{Option, none, some}
use mathlib.Core.List.{List, [], ◌∷◌}
use Prim.Native.Nat.{ℕ}
use lib.Dec.{T, eqb, eqb_refl}
use lib.ListN.{length}
use Rattle.lists.specs.Lists.{mem, same}
use Rattle.lists.proofs.Bools.{and_left, and_right, and_both, or_left, or_right}
use Rattle.model.specs.Unfolding.{basic}
use Rattle.model.specs.Across as model
use Rattle.model.specs.Across.{unfolding_refused}
use Rattle.std.specs.Prelude.{None, Some, Result, Ok, Err}
use Rattle.refusal.specs.declared.Refusal.{Refusal}
use Rattle.refusal.specs.Answer.{By, Judged, number_of, and_then, written}
use Rattle.refusal.proofs.Chain.{never_both}
use Rattle.table.specs.Walk.{judge_of}
use Rattle.table.specs.Decoded.{net_of}
use Rattle.table.specs.Links.{refused_or}
use Rattle.asking.specs.Calls.{preconditions_of, preconditions_into, postconditions_of, postconditions_into, start_of, start_into}
use Rattle.losses.specs.Calls.{lossy_of, lossy_into}
use Rattle.game.specs.Calls.{leaves, concession_of, fire_of, fired_of}
use Rattle.replay.specs.Calls.{replay_of, end_of}
use Rattle.exchange.specs.Calls.{exchange_of, exchanged_of}
use Rattle.runs.specs.Runs.{run_kind, lifted_kind, read_answer, run_into}
use Rattle.writing.specs.Writing.{write_answer, record_into}
use Rattle.layout.specs.Unfolds.{unfolding_of}
use Rattle.events.specs.declared.Colour.{Colour}
use Rattle.event_numbers.specs.Answers as unfolded
use Rattle.events.specs.declared.EventOrigin.{EventOrigin}
use Rattle.events.specs.Answers.{origin_of, origin_answer}
use Rattle.conditions.specs.declared.ConditionOrigin.{ConditionOrigin}
use Rattle.condition_numbers.specs.Answers.{numbered}
use Rattle.conditions.specs.Origins.{condition_origin_of}
use Rattle.elements.specs.Calls.{element_count_of, element_of, element_written_of}
use Rattle.unfolded_lists.specs.Calls.{unfolded_list_of, unfolded_listed_of}
use Rattle.starting.specs.Calls.{unfolded_start_of, unfolded_started_of}
use Rattle.firing.specs.Calls.{unfolded_fire_of, unfolded_fired_of}
use Rattle.lift.specs.Calls.{lift_of, lifted_of}
use Rattle.project.specs.Calls.{project_of, projected_of}
use Rattle.ends.specs.Calls.{lift_end_of, lift_ended_of, unfolded_replay_of, unfolded_replayed_of}
use Rattle.outward.specs.declared.Answer.{Answer}
use Rattle.outward.specs.Told.{by_number, answer_of, value_or, given}
use Rattle.outward.specs.Words.{colour_for, markers_of, markers_into, condition_for}
use Rattle.outward.specs.Origins.{condition_or, copy_or, marker_or, user_or}
use Rattle.promises.specs.Refused.{of_table, of_list, of_table_start, of_lossy, of_firing, of_replay, of_exchange, of_unfolding, of_numbering, of_listing, of_start, of_unfolded_firing, of_lift, of_project, of_reading, of_writing, by_condition, naming, named, listed, Refusing, Telling}
use Rattle.promises.proofs.Refused.{listed_need, listed_cond, listed_fitting, listed_more, judge_listed, judged_listed, firing_listed, replay_listed, exchange_listed, preconditions_listed, postconditions_listed, start_listed, lossy_listed, unfolding_of_listed, listing_listed, element_listed, unfolded_start_listed, unfolded_fire_listed, lift_listed, lift_end_listed, project_listed, unfolded_replay_listed, read_listed, write_listed}
use Rattle.promises.proofs.Kept.{written_refused, event_listed, condition_listed}
use Rattle.outward.proofs.put_event_origin.Reads as put-event-origin
use Rattle.outward.proofs.condition_number.Reads as condition_number_lem
use Rattle.ffi.proofs.dovetrellis_judge.Reads as dovetrellis-judge
use Rattle.ffi.proofs.dovetrellis_counts.Reads as dovetrellis-counts
use Rattle.ffi.proofs.dovetrellis_pre.Reads as dovetrellis-pre
use Rattle.ffi.proofs.dovetrellis_post.Reads as dovetrellis-post
use Rattle.ffi.proofs.dovetrellis_start.Reads as dovetrellis-start
use Rattle.ffi.proofs.dovetrellis_can_fire.Reads as dovetrellis-can-fire
use Rattle.ffi.proofs.dovetrellis_fire.Reads as dovetrellis-fire
use Rattle.ffi.proofs.dovetrellis_replay.Reads as dovetrellis-replay
use Rattle.ffi.proofs.dovetrellis_exchange.Reads as dovetrellis-exchange
use Rattle.ffi.proofs.dovetrellis_unfolded_counts.Reads as dovetrellis-unfolded-counts
use Rattle.ffi.proofs.dovetrellis_event_origin.Reads as dovetrellis-event-origin
use Rattle.ffi.proofs.dovetrellis_event_number.Reads as dovetrellis-event-number
use Rattle.ffi.proofs.dovetrellis_condition_origin.Reads as dovetrellis-condition-origin
use Rattle.ffi.proofs.dovetrellis_condition_number.Reads as dovetrellis-condition-number
use Rattle.ffi.proofs.dovetrellis_element_count.Reads as dovetrellis-element-count
use Rattle.ffi.proofs.dovetrellis_element.Reads as dovetrellis-element
use Rattle.ffi.proofs.dovetrellis_unfolded_pre.Reads as dovetrellis-unfolded-pre
use Rattle.ffi.proofs.dovetrellis_unfolded_post.Reads as dovetrellis-unfolded-post
use Rattle.ffi.proofs.dovetrellis_unfolded_start.Reads as dovetrellis-unfolded-start
use Rattle.ffi.proofs.dovetrellis_unfolded_fire.Reads as dovetrellis-unfolded-fire
use Rattle.ffi.proofs.dovetrellis_lift.Reads as dovetrellis-lift
use Rattle.ffi.proofs.dovetrellis_project.Reads as dovetrellis-project
use Rattle.ffi.proofs.dovetrellis_lift_end.Reads as dovetrellis-lift-end
use Rattle.ffi.proofs.dovetrellis_unfolded_replay.Reads as dovetrellis-unfolded-replay
use Rattle.ffi.proofs.dovetrellis_read_run.Reads as dovetrellis-read-run
use Rattle.ffi.proofs.dovetrellis_read_lifted.Reads as dovetrellis-read-lifted
use Rattle.ffi.proofs.dovetrellis_write_run.Reads as dovetrellis-write-run
use Rattle.ffi.proofs.dovetrellis_write_lifted.Reads as dovetrellis-write-lifted
use Rattle.ffi.proofs.dovetrellis_lossy.Reads as dovetrellis-lossy

-- ---- answers as C sees them

told_listed : {A : Type 0} (numbers : List ℕ) (a : Result A Refusal) (r : Answer) → r ≡ answer_of a → T (listed numbers a)
    → T (mem r.number (0 ∷ numbers))
unfolding answer_of
told_listed numbers (Ok v) r e t =
    let number : r.number ≡ 0 = ap (λ (z : Answer). z.number) e in
    subst (λ (k : ℕ). T (mem k (0 ∷ numbers))) (sym number) tt
told_listed numbers (Err x) r e t =
    let number : r.number ≡ x.number = ap (λ (z : Answer). z.number) e in
    let told = or_right (eqb x.number 0) (mem x.number numbers) (and_left (mem x.number numbers) (named x) t) in
    subst (λ (k : ℕ). T (mem k (0 ∷ numbers))) (sym number) told

-- the condition is 0 where no condition stopped a step
none_named : (b : By) (m : Bool) → T (same m (naming b)) → (T m → ⊥) → by_number b ≡ 0
none_named None m t f = refl
none_named (Some c) true t f = absurd (f tt)
none_named (Some c) false t f = absurd t

told_by_lem : {A : Type 0} (numbers : List ℕ) (a : Result A Refusal) (r : Answer) → r ≡ answer_of a → T (listed numbers a)
    → (T (mem r.number by_condition) → ⊥) → r.by ≡ 0
unfolding answer_of
told_by_lem numbers (Ok v) r e t f = ap (λ (z : Answer). z.by) e
told_by_lem numbers (Err x) r e t f =
    let number = sym (ap (λ (z : Answer). z.number) e) in
    let names = and_right (mem x.number numbers) (named x) t in
    ap (λ (z : Answer). z.by) e ∙ none_named x.by (mem x.number by_condition) names (λ m. f (subst (λ (k : ℕ). T (mem k by_condition)) number m))

told_refused : {A : Type 0} (numbers : List ℕ) (a : Result A Refusal) (r : Answer) {Kept : Type 0} → r ≡ answer_of a → T (listed numbers a)
    → ((x : Refusal) → a ≡ Err x → Kept) → Telling numbers r Kept
unfolding answer_of
told_refused numbers (Ok v) r e t k =
    record {
      number = told_listed numbers (Ok v) r e t;
      by = told_by_lem numbers (Ok v) r e t;
      kept = λ f. absurd (f (ap (λ (z : Answer). z.number) e));
    }
told_refused {A = A} numbers (Err x) r e t k =
    record {
      number = told_listed {A = A} numbers (Err x) r e t;
      by = told_by_lem {A = A} numbers (Err x) r e t;
      kept = λ f. k x refl;
    }

-- ---- what is lent, where the answer is a refusal

written_kept : (a : Judged) (new old out : List ℕ) {x : Refusal} → out ≡ written a new old → a ≡ Err x → out ≡ old
written_kept a new old out f g = f ∙ ap (λ (z : Judged). written z new old) g

leaves_kept : (a : Judged) (new old out : List ℕ) {x : Refusal} → out ≡ leaves a new old → a ≡ Err x → out ≡ old
leaves_kept a new old out f g = f ∙ ap (λ (z : Judged). leaves z new old) g

value_kept : (a : Judged) (old out : ℕ) {x : Refusal} → out ≡ value_or a old → a ≡ Err x → out ≡ old
unfolding value_or
value_kept a old out f g = f ∙ ap (λ (z : Judged). value_or z old) g

given_kept : (a : Judged) (new old out : ℕ) {x : Refusal} → out ≡ given a new old → a ≡ Err x → out ≡ old
unfolding given
given_kept a new old out f g = f ∙ ap (λ (z : Judged). given z new old) g

-- the first of two counts, where the second is refused
counted_kept : (a : Judged) (v w old out : ℕ) {x : Refusal} → out ≡ value_or (and_then a (λ _. Ok v)) old → and_then a (λ _. Ok w) ≡ Err x → out ≡ old
unfolding value_or
counted_kept (Ok n) v w old out f g = never_both g
counted_kept (Err y) v w old out f g = f

unfolded_kept : (s : List ℕ) (v w old out : ℕ) {x : Refusal} → out ≡ value_or (unfolding_of s (Ok v)) old → unfolding_of s (Ok w) ≡ Err x → out ≡ old
unfolding value_or unfolding_of
unfolded_kept s v w old out f g = go (judge_of s) (unfolding_refused (net_of s)) f g
  where
    go : (a : Judged) (o : Option model.Refusal) {x : Refusal} → out ≡ value_or (and_then a (λ _. refused_or o (Ok v))) old → and_then a (λ _. refused_or o (Ok w)) ≡ Err x → out ≡ old
    go (Err y) o f g = f
    go (Ok n) (some y) f g = f
    go (Ok n) none f g = never_both g

-- what stands behind an unfolded condition
condition_kept : (o : Result ConditionOrigin Refusal) (old out : ℕ) {x : Refusal} → out ≡ condition_or o old → o ≡ Err x → out ≡ old
condition_kept o old out f g = f ∙ ap (λ (z : Result ConditionOrigin Refusal). condition_or z old) g

copy_kept : (o : Result ConditionOrigin Refusal) (old out : Bool) {x : Refusal} → out ≡ copy_or o old → o ≡ Err x → out ≡ old
copy_kept o old out f g = f ∙ ap (λ (z : Result ConditionOrigin Refusal). copy_or z old) g

marker_kept : (o : Result ConditionOrigin Refusal) (old out : ℕ) {x : Refusal} → out ≡ marker_or o old → o ≡ Err x → out ≡ old
marker_kept o old out f g = f ∙ ap (λ (z : Result ConditionOrigin Refusal). marker_or z old) g

user_kept : (o : Result ConditionOrigin Refusal) (old out : ℕ) {x : Refusal} → out ≡ user_or o old → o ≡ Err x → out ≡ old
user_kept o old out f g = f ∙ ap (λ (z : Result ConditionOrigin Refusal). user_or z old) g

-- ---- numbers that only these calls put together

markers_listed : (s : List ℕ) (j room : ℕ) → T (listed of_listing (markers_of (origin_of s j) room))
unfolding markers_of
markers_listed s j room = go (origin_of s j) (listed_more of_numbering of_listing (origin_of s j) tt (event_listed s j))
  where
    go : (o : Result EventOrigin Refusal) → T (listed of_listing o) → T (listed of_listing (markers_of o room))
    go (Ok origin) t = listed_fitting of_listing origin.colour.count room tt
    go (Err x) t = t

number_listed : (s : List ℕ) (e : ℕ) (c : Colour) → T (listed of_numbering (unfolded.number_of s e c))
unfolding unfolded.number_of
number_listed s e c = unfolding_of_listed of_numbering s _ tt (listed_need of_numbering _ 10 0 _ tt tt)

condition_for_listed : (s : List ℕ) (b : ℕ) (copied : Bool) (m u : ℕ) → T (listed of_numbering (condition_for s b copied m u))
unfolding condition_for numbered
condition_for_listed s b copied m u =
    listed_cond of_numbering copied _ _ (unfolding_of_listed of_numbering s _ tt (listed_need of_numbering _ 10 0 _ tt tt)) (unfolding_of_listed of_numbering s _ tt (listed_need of_numbering _ 10 0 _ tt tt))

-- ---- what turns answers

-- an answer that names a condition as the calls do is refused with its own number
own_refused : (l : List ℕ) (x : Refusal) → T (named x) → T (listed {A = ℕ} (x.number ∷ l) (Err x))
own_refused l x n =
    and_both (mem x.number (x.number ∷ l)) (named x) (or_left (eqb x.number x.number) (mem x.number l) (eqb_refl x.number)) n

pub put_event_origin_refused : (κs : _) (a : _) (r : _) (x : _) → put-event-origin.Learnt κs a r x → ((y : Refusal) → a.0 ≡ Err y → T (named y))
    → Refusing (number_of (origin_answer a.0) ∷ 16 ∷ []) r a.1.0.now x.1.0.now
    × ((y : Refusal) → r ≡ Err y → (x.1.1.0.now ≡ a.1.1.0.now) × (x.1.1.1.0.now ≡ a.1.1.1.0.now))
unfolding markers_of markers_into
put_event_origin_refused κs a r x h n =
    let numbers = number_of (origin_answer a.0) ∷ 16 ∷ [] in (
      written_refused numbers r (markers_of a.0 (length a.1.0.now)) _ a.1.0.now x.1.0.now h.0 (go a.0 n) h.1.0,
      λ y g. (given_kept r _ a.1.1.0.now x.1.1.0.now h.1.1.0 g, value_kept r a.1.1.1.0.now x.1.1.1.0.now h.1.1.1 g),
    )
  where
    go : (o : Result EventOrigin Refusal) → ((y : Refusal) → o ≡ Err y → T (named y))
        → T (listed (number_of (origin_answer o) ∷ 16 ∷ []) (markers_of o (length a.1.0.now)))
    go (Ok origin) n = listed_fitting (0 ∷ 16 ∷ []) origin.colour.count (length a.1.0.now) tt
    go (Err y) n = own_refused (16 ∷ []) y (n y refl)

pub condition_number_refused : (κs : _) (a : _) (r : _) (x : _) → condition_number_lem.Learnt κs a r x → T (listed of_numbering r)
condition_number_refused κs a r x h = rw h (condition_for_listed a.0.now a.1.0.0 a.1.1.0 a.1.1.1.0 a.1.1.1.1.0.0)

-- ---- the exports

pub dovetrellis_judge_refused : (κs : _) (a : _) (r : _) (x : _) → dovetrellis-judge.Learnt κs a r x → T (mem r.number (0 ∷ of_table))
dovetrellis_judge_refused κs a r x h = told_listed of_table (judge_of a.0.now) r h (judge_listed a.0.now)

pub dovetrellis_counts_refused : (κs : _) (a : _) (r : _) (x : _) → dovetrellis-counts.Learnt κs a r x → Telling of_table r ((x.1.0.now ≡ a.1.0.now) × (x.1.1.0.now ≡ a.1.1.0.now))
dovetrellis_counts_refused κs a r x h =
    told_refused of_table (and_then (judge_of a.0.now) (λ _. Ok (net_of a.0.now).events)) r h.0 (judged_listed of_table a.0.now _ tt (λ n. tt)) (λ y g. (counted_kept (judge_of a.0.now) _ (net_of a.0.now).events a.1.0.now x.1.0.now h.1.0 g, value_kept _ a.1.1.0.now x.1.1.0.now h.1.1 g))

pub dovetrellis_pre_refused : (κs : _) (a : _) (r : _) (x : _) → dovetrellis-pre.Learnt κs a r x → Telling of_list r ((x.1.1.0.now ≡ a.1.1.0.now) × (x.1.1.1.0.now ≡ a.1.1.1.0.now))
unfolding preconditions_into
dovetrellis_pre_refused κs a r x h =
    told_refused of_list (preconditions_of a.0.now a.1.0 (length a.1.1.0.now)) r h.0 (preconditions_listed a.0.now a.1.0 (length a.1.1.0.now)) (λ y g. (written_kept _ _ a.1.1.0.now x.1.1.0.now h.1.0 g, value_kept _ a.1.1.1.0.now x.1.1.1.0.now h.1.1 g))

pub dovetrellis_post_refused : (κs : _) (a : _) (r : _) (x : _) → dovetrellis-post.Learnt κs a r x → Telling of_list r ((x.1.1.0.now ≡ a.1.1.0.now) × (x.1.1.1.0.now ≡ a.1.1.1.0.now))
unfolding postconditions_into
dovetrellis_post_refused κs a r x h =
    told_refused of_list (postconditions_of a.0.now a.1.0 (length a.1.1.0.now)) r h.0 (postconditions_listed a.0.now a.1.0 (length a.1.1.0.now)) (λ y g. (written_kept _ _ a.1.1.0.now x.1.1.0.now h.1.0 g, value_kept _ a.1.1.1.0.now x.1.1.1.0.now h.1.1 g))

pub dovetrellis_start_refused : (κs : _) (a : _) (r : _) (x : _) → dovetrellis-start.Learnt κs a r x → Telling of_table_start r (x.1.0.now ≡ a.1.0.now)
unfolding start_into
dovetrellis_start_refused κs a r x h =
    told_refused of_table_start (start_of a.0.now (length a.1.0.now)) r h.0 (start_listed a.0.now (length a.1.0.now)) (λ y g. written_kept _ _ a.1.0.now x.1.0.now h.1 g)

pub dovetrellis_can_fire_refused : (κs : _) (a : _) (r : _) (x : _) → dovetrellis-can-fire.Learnt κs a r x → T (mem r.number (0 ∷ of_firing))
dovetrellis_can_fire_refused κs a r x h = told_listed of_firing (concession_of a.0.now a.1.0.now a.1.1.0) r h (firing_listed a.0.now a.1.0.now a.1.1.0 0)

pub dovetrellis_fire_refused : (κs : _) (a : _) (r : _) (x : _) → dovetrellis-fire.Learnt κs a r x → Telling of_firing r (x.1.0.now ≡ a.1.0.now)
unfolding fired_of
dovetrellis_fire_refused κs a r x h =
    told_refused of_firing (fire_of a.0.now a.1.0.now a.1.1.0) r h.0 (firing_listed a.0.now a.1.0.now a.1.1.0 (net_of a.0.now).conditions) (λ y g. leaves_kept _ _ a.1.0.now x.1.0.now h.1 g)

pub dovetrellis_replay_refused : (κs : _) (a : _) (r : _) (x : _) → dovetrellis-replay.Learnt κs a r x → Telling of_replay r (x.1.1.0.now ≡ a.1.1.0.now)
unfolding end_of
dovetrellis_replay_refused κs a r x h =
    told_refused of_replay (replay_of a.0.now a.1.0.now (length a.1.1.0.now)) r h.0 (replay_listed a.0.now a.1.0.now (length a.1.1.0.now)) (λ y g. written_kept _ _ a.1.1.0.now x.1.1.0.now h.1 g)

pub dovetrellis_exchange_refused : (κs : _) (a : _) (r : _) (x : _) → dovetrellis-exchange.Learnt κs a r x → Telling of_exchange r (x.1.0.now ≡ a.1.0.now)
unfolding exchanged_of
dovetrellis_exchange_refused κs a r x h =
    told_refused of_exchange (exchange_of a.0.now a.1.0.now a.1.1.0) r h.0 (exchange_listed a.0.now a.1.0.now a.1.1.0) (λ y g. leaves_kept _ _ a.1.0.now x.1.0.now h.1 g)

pub dovetrellis_unfolded_counts_refused : (κs : _) (a : _) (r : _) (x : _) → dovetrellis-unfolded-counts.Learnt κs a r x → Telling of_unfolding r ((x.1.0.now ≡ a.1.0.now) × (x.1.1.0.now ≡ a.1.1.0.now))
dovetrellis_unfolded_counts_refused κs a r x h =
    told_refused of_unfolding (unfolding_of a.0.now (Ok (basic (net_of a.0.now)).events)) r h.0 (unfolding_of_listed of_unfolding a.0.now _ tt tt) (λ y g. (unfolded_kept a.0.now (basic (net_of a.0.now)).conditions (basic (net_of a.0.now)).events a.1.0.now x.1.0.now h.1.0 g, value_kept _ a.1.1.0.now x.1.1.0.now h.1.1 g))

pub dovetrellis_event_origin_refused : (κs : _) (a : _) (r : _) (x : _) → dovetrellis-event-origin.Learnt κs a r x → Telling of_listing r ((x.1.1.0.now ≡ a.1.1.0.now) × (x.1.1.1.0.now ≡ a.1.1.1.0.now) × (x.1.1.1.1.0.now ≡ a.1.1.1.1.0.now))
unfolding markers_into
dovetrellis_event_origin_refused κs a r x h =
    told_refused of_listing (markers_of (origin_of a.0.now a.1.0) (length a.1.1.0.now)) r h.0 (markers_listed a.0.now a.1.0 (length a.1.1.0.now)) (λ y g. (written_kept _ _ a.1.1.0.now x.1.1.0.now h.1.0 g, given_kept _ _ a.1.1.1.0.now x.1.1.1.0.now h.1.1.0 g, value_kept _ a.1.1.1.1.0.now x.1.1.1.1.0.now h.1.1.1 g))

pub dovetrellis_event_number_refused : (κs : _) (a : _) (r : _) (x : _) → dovetrellis-event-number.Learnt κs a r x → Telling of_numbering r (x.1.1.1.0.now ≡ a.1.1.1.0.now)
dovetrellis_event_number_refused κs a r x h =
    told_refused of_numbering (unfolded.number_of a.0.now a.1.0 (colour_for a.1.1.0.now)) r h.0 (number_listed a.0.now a.1.0 (colour_for a.1.1.0.now)) (λ y g. value_kept _ a.1.1.1.0.now x.1.1.1.0.now h.1 g)

pub dovetrellis_condition_origin_refused : (κs : _) (a : _) (r : _) (x : _) → dovetrellis-condition-origin.Learnt κs a r x → Telling of_numbering r ((x.1.1.0.now ≡ a.1.1.0.now) × (x.1.1.1.0.now ≡ a.1.1.1.0.now) × (x.1.1.1.1.0.now ≡ a.1.1.1.1.0.now) × (x.1.1.1.1.1.0.now ≡ a.1.1.1.1.1.0.now))
dovetrellis_condition_origin_refused κs a r x h =
    let o = condition_origin_of a.0.now a.1.0 in
    told_refused of_numbering o r h.0 (condition_listed a.0.now a.1.0)
    (λ y g. (
      condition_kept o a.1.1.0.now x.1.1.0.now h.1.0 g,
      copy_kept o a.1.1.1.0.now x.1.1.1.0.now h.1.1.0 g,
      marker_kept o a.1.1.1.1.0.now x.1.1.1.1.0.now h.1.1.1.0 g,
      user_kept o a.1.1.1.1.1.0.now x.1.1.1.1.1.0.now h.1.1.1.1 g,
    ))

pub dovetrellis_condition_number_refused : (κs : _) (a : _) (r : _) (x : _) → dovetrellis-condition-number.Learnt κs a r x → Telling of_numbering r (x.1.1.1.1.1.0.now ≡ a.1.1.1.1.1.0.now)
dovetrellis_condition_number_refused κs a r x h =
    told_refused of_numbering (condition_for a.0.now a.1.0 a.1.1.0 a.1.1.1.0 a.1.1.1.1.0) r h.0 (condition_for_listed a.0.now a.1.0 a.1.1.0 a.1.1.1.0 a.1.1.1.1.0) (λ y g. value_kept _ a.1.1.1.1.1.0.now x.1.1.1.1.1.0.now h.1 g)

pub dovetrellis_unfolded_pre_refused : (κs : _) (a : _) (r : _) (x : _) → dovetrellis-unfolded-pre.Learnt κs a r x → Telling of_listing r ((x.1.1.0.now ≡ a.1.1.0.now) × (x.1.1.1.0.now ≡ a.1.1.1.0.now))
unfolding unfolded_listed_of
dovetrellis_unfolded_pre_refused κs a r x h =
    told_refused of_listing (unfolded_list_of a.0.now false a.1.0 (length a.1.1.0.now)) r h.0 (listing_listed a.0.now false a.1.0 (length a.1.1.0.now)) (λ y g. (written_kept _ _ a.1.1.0.now x.1.1.0.now h.1.0 g, value_kept _ a.1.1.1.0.now x.1.1.1.0.now h.1.1 g))

pub dovetrellis_unfolded_post_refused : (κs : _) (a : _) (r : _) (x : _) → dovetrellis-unfolded-post.Learnt κs a r x → Telling of_listing r ((x.1.1.0.now ≡ a.1.1.0.now) × (x.1.1.1.0.now ≡ a.1.1.1.0.now))
unfolding unfolded_listed_of
dovetrellis_unfolded_post_refused κs a r x h =
    told_refused of_listing (unfolded_list_of a.0.now true a.1.0 (length a.1.1.0.now)) r h.0 (listing_listed a.0.now true a.1.0 (length a.1.1.0.now)) (λ y g. (written_kept _ _ a.1.1.0.now x.1.1.0.now h.1.0 g, value_kept _ a.1.1.1.0.now x.1.1.1.0.now h.1.1 g))

pub dovetrellis_unfolded_start_refused : (κs : _) (a : _) (r : _) (x : _) → dovetrellis-unfolded-start.Learnt κs a r x → Telling of_start r (x.1.0.now ≡ a.1.0.now)
unfolding unfolded_started_of
dovetrellis_unfolded_start_refused κs a r x h =
    told_refused of_start (unfolded_start_of a.0.now (length a.1.0.now)) r h.0 (unfolded_start_listed a.0.now (length a.1.0.now)) (λ y g. written_kept _ _ a.1.0.now x.1.0.now h.1 g)

pub dovetrellis_unfolded_fire_refused : (κs : _) (a : _) (r : _) (x : _) → dovetrellis-unfolded-fire.Learnt κs a r x → Telling of_unfolded_firing r (x.1.0.now ≡ a.1.0.now)
unfolding unfolded_fired_of
dovetrellis_unfolded_fire_refused κs a r x h =
    told_refused of_unfolded_firing (unfolded_fire_of a.0.now a.1.0.now a.1.1.0) r h.0 (unfolded_fire_listed a.0.now a.1.0.now a.1.1.0) (λ y g. leaves_kept _ _ a.1.0.now x.1.0.now h.1 g)

pub dovetrellis_lift_refused : (κs : _) (a : _) (r : _) (x : _) → dovetrellis-lift.Learnt κs a r x → Telling of_lift r (x.1.1.0.now ≡ a.1.1.0.now)
unfolding lifted_of
dovetrellis_lift_refused κs a r x h =
    told_refused of_lift (lift_of a.0.now a.1.0.now (length a.1.1.0.now)) r h.0 (lift_listed a.0.now a.1.0.now (length a.1.1.0.now)) (λ y g. written_kept _ _ a.1.1.0.now x.1.1.0.now h.1 g)

pub dovetrellis_project_refused : (κs : _) (a : _) (r : _) (x : _) → dovetrellis-project.Learnt κs a r x → Telling of_project r (x.1.1.0.now ≡ a.1.1.0.now)
unfolding projected_of
dovetrellis_project_refused κs a r x h =
    told_refused of_project (project_of a.0.now a.1.0.now (length a.1.1.0.now)) r h.0 (project_listed a.0.now a.1.0.now (length a.1.1.0.now)) (λ y g. written_kept _ _ a.1.1.0.now x.1.1.0.now h.1 g)

pub dovetrellis_lift_end_refused : (κs : _) (a : _) (r : _) (x : _) → dovetrellis-lift-end.Learnt κs a r x → Telling of_lift r (x.1.1.0.now ≡ a.1.1.0.now)
unfolding lift_ended_of
dovetrellis_lift_end_refused κs a r x h =
    told_refused of_lift (lift_end_of a.0.now a.1.0.now (length a.1.1.0.now)) r h.0 (lift_end_listed a.0.now a.1.0.now (length a.1.1.0.now)) (λ y g. written_kept _ _ a.1.1.0.now x.1.1.0.now h.1 g)

pub dovetrellis_unfolded_replay_refused : (κs : _) (a : _) (r : _) (x : _) → dovetrellis-unfolded-replay.Learnt κs a r x → Telling of_project r (x.1.1.0.now ≡ a.1.1.0.now)
unfolding unfolded_replayed_of
dovetrellis_unfolded_replay_refused κs a r x h =
    told_refused of_project (unfolded_replay_of a.0.now a.1.0.now (length a.1.1.0.now)) r h.0 (unfolded_replay_listed a.0.now a.1.0.now (length a.1.1.0.now)) (λ y g. written_kept _ _ a.1.1.0.now x.1.1.0.now h.1 g)

pub dovetrellis_read_run_refused : (κs : _) (a : _) (r : _) (x : _) → dovetrellis-read-run.Learnt κs a r x → Telling of_reading r ((x.1.0.now ≡ a.1.0.now) × (x.1.1.0.now ≡ a.1.1.0.now))
unfolding run_into
dovetrellis_read_run_refused κs a r x h =
    told_refused of_reading (read_answer run_kind a.0.now (length a.1.0.now)) r h.0 (read_listed run_kind a.0.now (length a.1.0.now)) (λ y g. (written_kept _ _ a.1.0.now x.1.0.now h.1.0 g, value_kept _ a.1.1.0.now x.1.1.0.now h.1.1 g))

pub dovetrellis_read_lifted_refused : (κs : _) (a : _) (r : _) (x : _) → dovetrellis-read-lifted.Learnt κs a r x → Telling of_reading r ((x.1.0.now ≡ a.1.0.now) × (x.1.1.0.now ≡ a.1.1.0.now))
unfolding run_into
dovetrellis_read_lifted_refused κs a r x h =
    told_refused of_reading (read_answer lifted_kind a.0.now (length a.1.0.now)) r h.0 (read_listed lifted_kind a.0.now (length a.1.0.now)) (λ y g. (written_kept _ _ a.1.0.now x.1.0.now h.1.0 g, value_kept _ a.1.1.0.now x.1.1.0.now h.1.1 g))

pub dovetrellis_write_run_refused : (κs : _) (a : _) (r : _) (x : _) → dovetrellis-write-run.Learnt κs a r x → Telling of_writing r ((x.1.0.now ≡ a.1.0.now) × (x.1.1.0.now ≡ a.1.1.0.now))
unfolding record_into
dovetrellis_write_run_refused κs a r x h =
    told_refused of_writing (write_answer a.0.now (length a.1.0.now)) r h.0 (write_listed a.0.now (length a.1.0.now)) (λ y g. (written_kept _ _ a.1.0.now x.1.0.now h.1.0 g, value_kept _ a.1.1.0.now x.1.1.0.now h.1.1 g))

pub dovetrellis_write_lifted_refused : (κs : _) (a : _) (r : _) (x : _) → dovetrellis-write-lifted.Learnt κs a r x → Telling of_writing r ((x.1.0.now ≡ a.1.0.now) × (x.1.1.0.now ≡ a.1.1.0.now))
unfolding record_into
dovetrellis_write_lifted_refused κs a r x h =
    told_refused of_writing (write_answer a.0.now (length a.1.0.now)) r h.0 (write_listed a.0.now (length a.1.0.now)) (λ y g. (written_kept _ _ a.1.0.now x.1.0.now h.1.0 g, value_kept _ a.1.1.0.now x.1.1.0.now h.1.1 g))

pub dovetrellis_element_count_refused : (κs : _) (a : _) (r : _) (x : _) → dovetrellis-element-count.Learnt κs a r x → Telling of_unfolding r (x.1.0.now ≡ a.1.0.now)
unfolding element_count_of
dovetrellis_element_count_refused κs a r x h =
    told_refused of_unfolding (element_count_of a.0.now) r h.0 (unfolding_of_listed of_unfolding a.0.now _ tt tt) (λ y g. value_kept _ a.1.0.now x.1.0.now h.1 g)

pub dovetrellis_element_refused : (κs : _) (a : _) (r : _) (x : _) → dovetrellis-element.Learnt κs a r x → Telling of_listing r ((x.1.1.0.now ≡ a.1.1.0.now) × (x.1.1.1.0.now ≡ a.1.1.1.0.now))
unfolding element_written_of
dovetrellis_element_refused κs a r x h =
    told_refused of_listing (element_of a.0.now a.1.0 (length a.1.1.0.now)) r h.0 (element_listed a.0.now a.1.0 (length a.1.1.0.now)) (λ y g. (written_kept _ _ a.1.1.0.now x.1.1.0.now h.1.0 g, value_kept _ a.1.1.1.0.now x.1.1.1.0.now h.1.1 g))

pub dovetrellis_lossy_refused : (κs : _) (a : _) (r : _) (x : _) → dovetrellis-lossy.Learnt κs a r x → Telling of_lossy r (x.1.0.now ≡ a.1.0.now)
unfolding lossy_into
dovetrellis_lossy_refused κs a r x h =
    let room = length a.1.0.now in
    told_refused of_lossy (lossy_of a.0.now room) r h.0 (lossy_listed a.0.now room)
    (λ y g. written_kept _ _ a.1.0.now x.1.0.now h.1 g)
