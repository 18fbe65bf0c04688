-- The numbers that the answers of the calls may be refused with, link by link of their chains.
use mathlib.Core.Bool.{Bool, true, false, cond}
use mathlib.Core.Option.{Option, none, some}
use mathlib.Core.List.{List}
use Prim.Native.Nat.{ℕ, zero, suc, ◌+◌, ◌*◌, ◌/◌, ◌%◌}
use lib.Dec.{T, leb, ltb, eqb}
use lib.ListN.{length, get_or}
use Rattle.lists.specs.Lists.{mem, all, fits}
use Rattle.lists.proofs.Bools.{and_left, and_right, and_both}
use Rattle.lists.proofs.Tests.{all_at, all_of}
use Rattle.model.specs.Net.{Net, begin, Stop, unknown, lacks, meets, stop_place, stopping}
use Rattle.model.specs.Runs.{Played, ends, refused, replay, opening, State}
use Rattle.model.specs.Unfolding.{basic}
use Rattle.model.specs.Exchange.{apart_step}
use Rattle.model.specs.Lent.{marking}
use Rattle.model.specs.Across.{Whose, stopped, Answer, run, refusal, other, unless, stuck, most_steps, most_unfolded, too_long, within, lowest_idle, idle_or_over, unfolding_refused, own_or_earliest, repeated, again, lifting, lift, projecting, project, no_step, not_apart, exchanging, exchange}
use Rattle.model.specs.Across as model
use Rattle.refusal.specs.Answer.{Judged, refused_at, need, and_then, fitting}
use Rattle.std.specs.Prelude.{Ok, Err, None, Some, Result, Option as Perhaps}
use Rattle.words.specs.Words.{words, bits, count_in}
use Rattle.records.specs.declared.Header.{Header}
use Rattle.refusal.specs.declared.Refusal.{Refusal}
use Rattle.records.specs.Records.{part, header_of, when_whole, ruled, front, conditions, flags, pre_count, post_count, pre_part, post_part}
use Rattle.rules.specs.Rules.{rule_of, conditions_of, marking_of}
use Rattle.event_rules.specs.EventRules.{lists_of, event_of}
use Rattle.table.specs.Walk.{kind_is, last_of, events_from, judge_of, offset_of}
use Rattle.table.specs.Decoded.{net_of}
use Rattle.table.specs.Links.{refusing, refused_or}
use Rattle.game.specs.Lent.{lent, first_above}
use Rattle.game.specs.Calls.{on_marking, firing_stopped, firing_of}
use Rattle.replay.specs.Calls.{played_of, replay_of, replay_from_of}
use Rattle.played.specs.Begun.{begun_at}
use Rattle.exchange.specs.Calls.{swapping, exchange_of}
use Rattle.runs.specs.Runs.{run_kind, steps_in, read_answer}
use Rattle.writing.specs.Writing.{write_answer}
use Rattle.layout.specs.Unfolds.{unfolding_of}
use Rattle.across.specs.Calls.{fitted, ended}
use Rattle.lift.specs.Calls.{lift_of}
use Rattle.ends.specs.Calls.{lift_end_of, unfolded_replay_of}
use Rattle.project.specs.Calls.{project_of}
use Rattle.parts.specs.Asked.{asked_of}
use Rattle.reader.specs.Read.{record_of}
use Rattle.asking.specs.Calls.{preconditions_of, postconditions_of, start_of}
use Rattle.losses.specs.Calls.{lossy_of}
use Rattle.listing.specs.declared.Piece.{Piece}
use Rattle.listing.specs.Calls.{most_net_bytes, most_run_bytes, text_of, piece_of, files_of}
use Rattle.elements.specs.Calls.{element_of}
use Rattle.unfolded_lists.specs.Calls.{unfolded_list_of}
use Rattle.starting.specs.Calls.{unfolded_start_of}
use Rattle.firing.specs.Calls.{unfolded_fire_of}
use Rattle.promises.specs.Refused.{of_list, of_table_start, of_lossy, of_files, of_piece, of_listing, of_start, of_unfolded_firing, of_table, of_firing, of_replay, of_replay_from, of_exchange, of_unfolding, of_lift, of_project, of_reading, of_writing, named, listed}

-- ---- the links of a chain

module _ (l : List ℕ) where
  pub listed_need : (b : Bool) (number place : ℕ) (rest : Judged) → T (listed {A = ℕ} l (refused_at number place)) → T (listed l rest)
      → T (listed l (need b number place rest))
  unfolding need
  listed_need true number place rest h t = t
  listed_need false number place rest h t = h

  pub listed_then : (a : Judged) (f : ℕ → Judged) → T (listed l a) → ((v : ℕ) → T (listed l (f v))) → T (listed l (and_then a f))
  listed_then (Ok v) f h t = t v
  listed_then (Err x) f h t = h

  pub listed_cond : (b : Bool) (a z : Judged) → T (listed l a) → T (listed l z) → T (listed l (cond b a z))
  listed_cond true a z h t = h
  listed_cond false a z h t = t

  listed_whole : (h : Perhaps Header) (at : ℕ) (f : ℕ → ℕ → Judged) → T (listed {A = ℕ} l (refused_at 1 at)) → ((kind len : ℕ) → T (listed l (f kind len)))
      → T (listed l (when_whole h at f))
  listed_whole None at f h t = h
  listed_whole (Some header) at f h t = t header.kind header.len

  pub listed_fitting : (needed room : ℕ) → T (mem 16 l) → T (listed l (fitting needed room))
  unfolding fitting
  listed_fitting needed room h = listed_need (leb needed room) 16 needed (Ok needed) (and_both (mem 16 l) true h tt) tt

  -- a refusal of the model with one of the numbers
  abbrev pub listed_if : Option model.Refusal → Bool
  listed_if none = true
  listed_if (some x) = listed l (refusing x)

  pub listed_or : (o : Option model.Refusal) (rest : Judged) → T (listed_if o) → T (listed l rest) → T (listed l (refused_or o rest))
  listed_or none rest h t = t
  listed_or (some x) rest h t = h

-- more numbers list no less
pub listed_more : {A : Type 0} (k l : List ℕ) (a : Result A Refusal) → T (all (λ x. mem x l) k) → T (listed k a) → T (listed l a)
listed_more k l (Ok v) h t = tt
listed_more k l (Err x) h t =
    and_both (mem x.number l) (named x) (all_at (λ y. mem y l) k h x.number (and_left (mem x.number k) (named x) t)) (and_right (mem x.number k) (named x) t)

-- ---- a table

pub rule_listed : (s : List ℕ) → T (listed of_table (rule_of s))
unfolding rule_of
rule_listed s =
    listed_cond of_table (ruled s) _ (Ok 0)
    (listed_whole of_table (header_of s 0) 0 _ tt (λ kind len.
    listed_need of_table (eqb len 1) 3 0 _ tt (listed_need of_table (leb (get_or s 4 0) 1) 4 0 _ tt tt))) tt

pub conditions_listed : (s : List ℕ) (at : ℕ) → T (listed of_table (conditions_of s at))
unfolding conditions_of
conditions_listed s at =
    listed_whole of_table (header_of s at) at _ tt (λ kind len.
    listed_need of_table (eqb kind 1) 2 at _ tt
    (listed_need of_table (leb 1 len) 3 at _ tt
    (listed_need of_table (leb len 256) 3 at _ tt
    (listed_need of_table (bits (part s (at + 4) len)) 4 at _ tt tt))))

lists_listed : (s : List ℕ) (at next : ℕ) → T (listed of_table (lists_of s at next))
unfolding lists_of
lists_listed s at next =
    listed_need of_table (fits (conditions s) (words (pre_part s at))) 5 at _ tt
    (listed_need of_table (fits (conditions s) (words (post_part s at))) 5 at _ tt
    (listed_need of_table (leb 1 (pre_count s at + post_count s at)) 7 at _ tt
    (listed_need of_table (leb (count_in (flags s) (words (pre_part s at))) 16) 8 at _ tt tt)))

pub event_listed : (s : List ℕ) (at : ℕ) → T (listed of_table (event_of s at))
unfolding event_of
event_listed s at =
    listed_whole of_table (header_of s at) at _ tt (λ kind len.
    listed_need of_table (eqb kind 2) 2 at _ tt
    (listed_need of_table (leb 4 len) 3 at _ tt
    (listed_need of_table (eqb len (4 + 2 * (pre_count s at + post_count s at))) 3 at _ tt (lists_listed s at (at + 4 + len)))))

pub marking_listed : (s : List ℕ) (at : ℕ) → T (listed of_table (marking_of s at))
unfolding marking_of
marking_listed s at =
    listed_whole of_table (header_of s at) at _ tt (λ kind len.
    listed_need of_table (eqb kind 3) 2 at _ tt
    (listed_need of_table (eqb (len % 2) 0) 3 at _ tt
    (listed_need of_table (fits (conditions s) (words (part s (at + 4) len))) 5 at _ tt
    (listed_need of_table (leb (length s) (at + 4 + len)) 9 (at + 4 + len) _ tt tt))))

last_listed : (left : ℕ) (s : List ℕ) (at : ℕ) → T (listed of_table (last_of left s at))
last_listed left s at = listed_then of_table (marking_of s at) _ (marking_listed s at) (λ v. tt)

events_listed : (left : ℕ) (s : List ℕ) (at : ℕ) → T (listed of_table (events_from left s at))
unfolding events_from
events_listed zero s at = listed_cond of_table (kind_is 2 (header_of s at)) (refused_at 6 at) (last_of 0 s at) tt (last_listed 0 s at)
events_listed (suc left) s at =
    listed_cond of_table (kind_is 2 (header_of s at)) (and_then (event_of s at) (events_from left s)) (last_of (suc left) s at)
    (listed_then of_table (event_of s at) (events_from left s) (event_listed s at) (λ v. events_listed left s v)) (last_listed (suc left) s at)

pub judge_listed : (s : List ℕ) → T (listed of_table (judge_of s))
unfolding judge_of
judge_listed s =
    listed_then of_table (rule_of s) _ (rule_listed s)
    (λ at. listed_then of_table (conditions_of s at) (events_from 256 s) (conditions_listed s at) (λ v. events_listed 256 s v))

-- whatever follows a judged table
pub judged_listed : (l s : List ℕ) (f : ℕ → Judged) → T (all (λ x. mem x l) of_table) → ((n : ℕ) → T (listed l (f n))) → T (listed l (and_then (judge_of s) f))
judged_listed l s f h t = listed_then l (judge_of s) f (listed_more of_table l (judge_of s) h (judge_listed s)) t

-- ---- a lent marking

pub lent_listed : (l : List ℕ) (c : ℕ) (m : List ℕ) (rest : Judged) → T (mem 18 l) → T (listed l rest) → T (listed l (lent c m rest))
unfolding lent
lent_listed l c m rest h t =
    let eighteen = and_both (mem 18 l) true h tt in
    listed_need l (eqb (length m) c) 18 c _ eighteen (listed_need l (leb (length m) (first_above m)) 18 (first_above m) rest eighteen t)

-- ---- steps, runs and the unfolding, as refusals of the model

pub stop_listed : (l : List ℕ) (w : Whose) (v : Stop) (k : ℕ) → T (mem 10 l) → T (mem 11 l) → T (mem 12 l) → T (listed l (refusing (stopped w v k)))
stop_listed l w unknown k a b c = and_both (mem 10 l) true a tt
stop_listed l model.of_table (lacks x) k a b c = and_both (mem 11 l) true b tt
stop_listed l model.of_unfolding (lacks x) k a b c = and_both (mem 11 l) true b tt
stop_listed l model.of_table (meets x) k a b c = and_both (mem 12 l) true c tt
stop_listed l model.of_unfolding (meets x) k a b c = and_both (mem 12 l) true c tt

pub firing_stop_listed : (l : List ℕ) (w : Whose) (o : Option Stop) → T (mem 10 l) → T (mem 11 l) → T (mem 12 l) → T (listed_if l (firing_stopped w o))
firing_stop_listed l w none a b c = tt
firing_stop_listed l w (some v) a b c = stop_listed l w v (stop_place v) a b c

pub stuck_listed : (l : List ℕ) (w : Whose) (p : Played) → T (mem 10 l) → T (mem 11 l) → T (mem 12 l) → T (listed_if l (stuck w p))
stuck_listed l w (ends s) a b c = tt
stuck_listed l w (refused v k) a b c = stop_listed l w v k a b c

pub long_listed : (l r : List ℕ) → T (mem 3 l) → T (listed_if l (too_long r))
unfolding too_long
long_listed l r h = go (leb (length r) most_steps)
  where
    go : (b : Bool) → T (listed_if l (cond b none (some (other 3 0))))
    go true = tt
    go false = and_both (mem 3 l) true h tt

pub unfolding_listed : (l : List ℕ) (n : Net) → T (mem 13 l) → T (mem 14 l) → T (listed_if l (unfolding_refused n))
unfolding unfolding_refused
unfolding_listed l n a z = go (lowest_idle n) (within n)
  where
    go : (o : Option ℕ) (b : Bool) → T (listed_if l (idle_or_over o b))
    go (some e) b = and_both (mem 13 l) true a tt
    go none true = tt
    go none false = and_both (mem 14 l) true z tt

-- ---- firing

pub firing_listed : (s m : List ℕ) (e value : ℕ) → T (listed of_firing (firing_of s m e value))
unfolding firing_of on_marking
firing_listed s m e value =
    judged_listed of_firing s _ tt (λ n.
    lent_listed of_firing (net_of s).conditions m _ tt
    (listed_or of_firing (firing_stopped model.of_table (stopping (net_of s) (marking m) e)) (Ok value)
    (firing_stop_listed of_firing model.of_table (stopping (net_of s) (marking m) e) tt tt tt) tt))

-- ---- replay

played_listed : (n : Net) (s : State) (r : List ℕ) (room : ℕ) → T (listed of_replay (played_of n s r room))
unfolding played_of
played_listed n s r room =
    listed_or of_replay (too_long r) _ (long_listed of_replay r tt)
    (listed_or of_replay (stuck model.of_table (replay n 0 s r)) _ (stuck_listed of_replay model.of_table (replay n 0 s r) tt tt tt)
    (listed_fitting of_replay n.conditions room tt))

pub replay_listed : (s r : List ℕ) (room : ℕ) → T (listed of_replay (replay_of s r room))
unfolding replay_of
replay_listed s r room = judged_listed of_replay s _ tt (λ n. played_listed (net_of s) (opening (net_of s)) r room)

pub replay_from_listed : (s m r : List ℕ) (room : ℕ) → T (listed of_replay_from (replay_from_of s m r room))
unfolding replay_from_of on_marking
replay_from_listed s m r room =
    judged_listed of_replay_from s _ tt (λ n.
    lent_listed of_replay_from (net_of s).conditions m _ tt
    (listed_more of_replay of_replay_from (played_of (net_of s) (begun_at (net_of s) (marking m)) r room) tt (played_listed (net_of s) (begun_at (net_of s) (marking m)) r room)))

-- ---- answers of the model

-- an answer of the model that is a run, or refused with one of the numbers
abbrev listed_run : List ℕ → Answer → Bool
listed_run l (run w) = true
listed_run l (refusal x) = listed l (refusing x)

unless_listed : (l : List ℕ) (o : Option model.Refusal) (a : Answer) → T (listed_if l o) → T (listed_run l a) → T (listed_run l (unless o a))
unless_listed l none a h t = t
unless_listed l (some x) a h t = h

fitted_listed : (l : List ℕ) (a : Answer) (room : ℕ) → T (mem 16 l) → T (listed_run l a) → T (listed l (fitted a room))
unfolding fitted
fitted_listed l (run w) room h t = listed_fitting l (length w) room h
fitted_listed l (refusal x) room h t = t

ended_listed : (l : List ℕ) (a : Answer) (c room : ℕ) → T (mem 16 l) → T (listed_run l a) → T (listed l (ended a c room))
unfolding ended
ended_listed l (run w) c room h t = listed_fitting l c room h
ended_listed l (refusal x) c room h t = t

-- ---- exchange

pub if_listed : (l : List ℕ) (b : Bool) (number place : ℕ) → T (listed {A = ℕ} l (refused_at number place))
    → T (listed_if l (cond b none (some (other number place))))
if_listed l true number place h = tt
if_listed l false number place h = h

swapping_listed : (l : List ℕ) (a : Answer) → T (listed_run l a) → T (listed l (swapping a))
swapping_listed l (run w) t = tt
swapping_listed l (refusal x) t = t

pub exchange_listed : (s r : List ℕ) (k : ℕ) → T (listed of_exchange (exchange_of s r k))
unfolding exchange_of exchange exchanging no_step not_apart
exchange_listed s r k =
    judged_listed of_exchange s _ tt (λ n.
    swapping_listed of_exchange (exchange (net_of s) r k)
    (unless_listed of_exchange (too_long r) _ (long_listed of_exchange r tt)
    (unless_listed of_exchange (stuck model.of_table (replay (net_of s) 0 (opening (net_of s)) r)) _ (stuck_listed of_exchange model.of_table (replay (net_of s) 0 (opening (net_of s)) r) tt tt tt)
    (unless_listed of_exchange (no_step r k) _ (if_listed of_exchange (ltb (suc k) (length r)) 10 k tt)
    (unless_listed of_exchange (not_apart (net_of s) r k) _ (if_listed of_exchange (apart_step (net_of s) (begin (net_of s)) r k) 17 k tt) tt)))))

-- ---- lift and project

lift_answer : (n : Net) (r : List ℕ) → T (listed_run of_lift (lift n r))
unfolding lift lifting
lift_answer n r =
    unless_listed of_lift (too_long r) _ (long_listed of_lift r tt)
    (unless_listed of_lift (unfolding_refused n) _ (unfolding_listed of_lift n tt tt)
    (unless_listed of_lift (stuck model.of_table (replay n 0 (opening n) r)) _ (stuck_listed of_lift model.of_table (replay n 0 (opening n) r) tt tt tt)
    (unless_listed of_lift (again (repeated n (own_or_earliest n) 0 (opening n) r)) _ (again_listed (repeated n (own_or_earliest n) 0 (opening n) r)) tt)))
  where
    again_listed : (o : Option ℕ) → T (listed_if of_lift (again o))
    again_listed none = tt
    again_listed (some k) = tt

project_answer : (n : Net) (w : List ℕ) → T (listed_run of_project (project n w))
unfolding project projecting
project_answer n w =
    unless_listed of_project (too_long w) _ (long_listed of_project w tt)
    (unless_listed of_project (unfolding_refused n) _ (unfolding_listed of_project n tt tt)
    (unless_listed of_project (stuck model.of_unfolding (replay (basic n) 0 (opening (basic n)) w)) _ (stuck_listed of_project model.of_unfolding (replay (basic n) 0 (opening (basic n)) w) tt tt tt) tt))

pub lift_listed : (s r : List ℕ) (room : ℕ) → T (listed of_lift (lift_of s r room))
unfolding lift_of
lift_listed s r room = judged_listed of_lift s _ tt (λ n. fitted_listed of_lift (lift (net_of s) r) room tt (lift_answer (net_of s) r))

pub lift_end_listed : (s r : List ℕ) (room : ℕ) → T (listed of_lift (lift_end_of s r room))
unfolding lift_end_of
lift_end_listed s r room = judged_listed of_lift s _ tt (λ n. ended_listed of_lift (lift (net_of s) r) (basic (net_of s)).conditions room tt (lift_answer (net_of s) r))

pub project_listed : (s w : List ℕ) (room : ℕ) → T (listed of_project (project_of s w room))
unfolding project_of
project_listed s w room = judged_listed of_project s _ tt (λ n. fitted_listed of_project (project (net_of s) w) room tt (project_answer (net_of s) w))

pub unfolded_replay_listed : (s w : List ℕ) (room : ℕ) → T (listed of_project (unfolded_replay_of s w room))
unfolding unfolded_replay_of
unfolded_replay_listed s w room =
    judged_listed of_project s _ tt (λ n. ended_listed of_project (project (net_of s) w) (basic (net_of s)).conditions room tt (project_answer (net_of s) w))

-- ---- the unfolding

pub unfolding_of_listed : (l s : List ℕ) (own : Judged) → T (all (λ x. mem x l) of_unfolding) → T (listed l own) → T (listed l (unfolding_of s own))
unfolding unfolding_of
unfolding_of_listed l s own h t =
    judged_listed l s _ (table_in l h) (λ n. listed_or l (unfolding_refused (net_of s)) own (unfolding_listed l (net_of s) (all_at (λ x. mem x l) of_unfolding h 13 tt) (all_at (λ x. mem x l) of_unfolding h 14 tt)) t)
  where
    table_in : (l : List ℕ) → T (all (λ x. mem x l) of_unfolding) → T (all (λ x. mem x l) of_table)
    table_in l h = all_of (λ x. mem x l) of_table (λ k t. all_at (λ x. mem x l) of_unfolding h k (all_at (λ x. mem x of_unfolding) of_table tt k t))

pub listing_listed : (s : List ℕ) (post : Bool) (j room : ℕ) → T (listed of_listing (unfolded_list_of s post j room))
unfolding unfolded_list_of
listing_listed s post j room = unfolding_of_listed of_listing s _ tt (listed_need of_listing _ 10 0 _ tt (listed_fitting of_listing _ room tt))

pub element_listed : (s : List ℕ) (i room : ℕ) → T (listed of_listing (element_of s i room))
unfolding element_of
element_listed s i room = unfolding_of_listed of_listing s _ tt (listed_need of_listing _ 10 0 _ tt (listed_fitting of_listing _ room tt))

pub unfolded_start_listed : (s : List ℕ) (room : ℕ) → T (listed of_start (unfolded_start_of s room))
unfolding unfolded_start_of
unfolded_start_listed s room = unfolding_of_listed of_start s _ tt (listed_fitting of_start _ room tt)

pub unfolded_fire_listed : (s m : List ℕ) (j : ℕ) → T (listed of_unfolded_firing (unfolded_fire_of s m j))
unfolding unfolded_fire_of
unfolded_fire_listed s m j =
    unfolding_of_listed of_unfolded_firing s _ tt
    (lent_listed of_unfolded_firing (basic (net_of s)).conditions m _ tt
    (listed_or of_unfolded_firing (firing_stopped model.of_unfolding (stopping (basic (net_of s)) (marking m) j)) _
    (firing_stop_listed of_unfolded_firing model.of_unfolding (stopping (basic (net_of s)) (marking m) j) tt tt tt) tt))

-- ---- records of runs

pub read_listed : (kind : ℕ) (bytes : List ℕ) (room : ℕ) → T (listed of_reading (read_answer kind bytes room))
unfolding read_answer steps_in
read_listed kind bytes room =
    listed_then of_reading (steps_in kind bytes) _
    (listed_whole of_reading (header_of bytes 0) 0 _ tt (λ found len.
    listed_need of_reading (eqb found kind) 2 0 _ tt
    (listed_need of_reading (eqb (len % 2) 0) 3 0 _ tt
    (listed_need of_reading (leb (len / 2) most_steps) 3 0 _ tt
    (listed_need of_reading (leb (length bytes) (4 + len)) 9 (4 + len) _ tt tt)))))
    (λ steps. listed_fitting of_reading steps room tt)

pub write_listed : (r : List ℕ) (room : ℕ) → T (listed of_writing (write_answer r room))
unfolding write_answer
write_listed r room = listed_need of_writing (leb (length r) most_steps) 3 0 _ tt (listed_fitting of_writing (4 + 2 * length r) room tt)

-- ---- lists, start and lossy events of a table, and its records

asked_listed : (s : List ℕ) (e room : ℕ) (list : List ℕ) → T (listed of_list (and_then (asked_of s e) (λ at. fitting (length list) room)))
unfolding asked_of
asked_listed s e room list =
    listed_then of_list (asked_of s e) _
    (judged_listed of_list s _ tt (λ n. listed_need of_list (ltb e n) 10 0 _ tt tt)) (λ at. listed_fitting of_list (length list) room tt)

pub preconditions_listed : (s : List ℕ) (e room : ℕ) → T (listed of_list (preconditions_of s e room))
unfolding preconditions_of
preconditions_listed s e room = asked_listed s e room ((net_of s).preconditions e)

pub postconditions_listed : (s : List ℕ) (e room : ℕ) → T (listed of_list (postconditions_of s e room))
unfolding postconditions_of
postconditions_listed s e room = asked_listed s e room ((net_of s).postconditions e)

pub start_listed : (s : List ℕ) (room : ℕ) → T (listed of_table_start (start_of s room))
unfolding start_of
start_listed s room = judged_listed of_table_start s _ tt (λ n. listed_fitting of_table_start (net_of s).conditions room tt)

pub lossy_listed : (s : List ℕ) (room : ℕ) → T (listed of_lossy (lossy_of s room))
unfolding lossy_of
lossy_listed s room = judged_listed of_lossy s _ tt (λ n. listed_fitting of_lossy (net_of s).events room tt)

pub record_listed : (s : List ℕ) (at : ℕ) → T (listed of_table (record_of s at))
unfolding record_of
record_listed s at =
    listed_cond of_table (eqb at (front s)) (conditions_of s at) _ (conditions_listed s at)
    (listed_cond of_table (eqb at 0) (rule_of s) _ (rule_listed s)
    (listed_cond of_table (kind_is 2 (header_of s at)) _ (marking_of s at) (listed_need of_table (ltb at (offset_of s 256)) 6 at (event_of s at) tt (event_listed s at)) (marking_listed s at)))

-- ---- the listing

pub files_listed : (s r : List ℕ) (room : ℕ) → T (listed of_files (files_of s r room))
unfolding files_of
files_listed s r room =
    listed_need of_files (leb (length s) most_net_bytes) 19 0 _ tt
    (judged_listed of_files s _ tt (λ n.
    listed_need of_files (leb (length r) most_run_bytes) 19 0 _ tt
    (listed_more of_reading of_files (read_answer run_kind r room) tt (read_listed run_kind r room))))

pub piece_listed : (p : Piece) (l : List ℕ) (room : ℕ) → T (listed of_piece (piece_of p l room))
unfolding piece_of
piece_listed p l room = listed_need of_piece (leb (length l) most_unfolded) 18 most_unfolded _ tt (listed_fitting of_piece (length (text_of p l)) room tt)
