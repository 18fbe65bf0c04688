-- But for the condition that is named, and a firing's place with 11 and 12, every answer and every lent output is what it was before.
use mathlib.Core.Path.{◌≡◌, refl, ◌∙◌, ap}
use mathlib.Core.Bool.{Bool, true, false, not}
use mathlib.Core.Option.{Option, none, some}
use mathlib.Core.List.{List, [], ◌∷◌}
use Prim.Native.Nat.{ℕ}
use lib.Dec.{T, eqb, leb}
use lib.ListN.{length}
use Rattle.lists.specs.Lists.{mem, all}
use Rattle.lists.proofs.Bools.{and_left, is_false, not_out}
use Rattle.lists.proofs.Tests.{all_at}
use Rattle.model.specs.Net.{Net, begin, fire, Stop, unknown, lacks, meets, stopping}
use Rattle.model.specs.Runs.{Played, ends, refused, end, State, opening, replay}
use Rattle.model.specs.Unfolding.{basic}
use Rattle.model.specs.Exchange.{exchanged}
use Rattle.model.specs.Across.{Whose, stopped, Answer, run, refusal, unless, stuck, too_long, unfolding_refused, own_or_earliest, lifted, repeated, again, lifting, lift, read_back, projecting, project, no_step, not_apart, exchanging, exchange}
use Rattle.model.specs.Across as model
use Rattle.model.specs.Lent.{bytes, marking}
use Rattle.refusal.specs.Answer.{Judged, need, and_then, fitting, written}
use Rattle.std.specs.Prelude.{Ok, Err}
use Rattle.table.specs.Walk.{judge_of}
use Rattle.table.specs.Decoded.{net_of}
use Rattle.table.specs.Links.{refusal_by, refusing, refused_or}
use Rattle.game.specs.Lent.{lent, first_above}
use Rattle.game.specs.Calls.{on_marking, leaves, firing_stopped, firing_of, concession_of, fire_of, fired_of}
use Rattle.played.specs.Begun.{begun_at}
use Rattle.replay.specs.Calls.{played_of, replay_of, end_of, replay_from_of, end_from_of}
use Rattle.exchange.specs.Calls.{swapping, exchange_of, exchanged_of}
use Rattle.layout.specs.Unfolds.{unfolding_of}
use Rattle.firing.specs.Calls.{unfolded_fire_of, unfolded_fired_of}
use Rattle.across.specs.Calls.{fitted, ended, numbers_of}
use Rattle.lift.specs.Calls.{lift_of, lifted_of}
use Rattle.project.specs.Calls.{project_of, projected_of}
use Rattle.ends.specs.Calls.{lift_end_of, lift_ended_of, unfolded_replay_of, unfolded_replayed_of}
use Rattle.promises.specs.Refused.{of_table, by_condition, named, listed}
use Rattle.promises.specs.Before.{Old, fine, turned, bare, unplaced, old_then, old_need, old_or, old_stop, old_stuck, old_fitting, old_lent, old_written, old_leaves, old_firing, old_unfolded_fire, old_played, old_replay, old_replay_from, old_exchange, old_lifting, old_lift, old_lift_end, old_projecting, old_project, old_unfolded_replay}
use Rattle.promises.proofs.Refused.{listed_if, judge_listed, unfolding_listed}

-- ---- the links, with the condition left out

bare_need : (b : Bool) (number place : ℕ) (rest : Judged) → bare (need b number place rest) ≡ old_need b number place (bare rest)
unfolding need
bare_need true number place rest = refl
bare_need false number place rest = refl

bare_then : (a : Judged) (f : ℕ → Judged) (g : ℕ → Old) → ((v : ℕ) → bare (f v) ≡ g v) → bare (and_then a f) ≡ old_then (bare a) g
bare_then (Ok v) f g e = e v
bare_then (Err x) f g e = refl

bare_or : (o : Option model.Refusal) (rest : Judged) → bare (refused_or o rest) ≡ old_or o (bare rest)
bare_or none rest = refl
bare_or (some x) rest = refl

bare_stuck : (w : Whose) (p : Played) (rest : Judged) → bare (refused_or (stuck w p) rest) ≡ old_stuck p (bare rest)
bare_stuck w (ends s) rest = refl
bare_stuck w (refused v k) rest = refl

bare_fitting : (needed room : ℕ) → bare (fitting needed room) ≡ old_fitting needed room
unfolding fitting
bare_fitting needed room = bare_need (leb needed room) 16 needed (Ok needed)

bare_lent : (c : ℕ) (m : List ℕ) (rest : Judged) → bare (lent c m rest) ≡ old_lent c m (bare rest)
unfolding lent
bare_lent c m rest =
    bare_need (eqb (length m) c) 18 c (need (leb (length m) (first_above m)) 18 (first_above m) rest)
    ∙ ap (old_need (eqb (length m) c) 18 c) (bare_need (leb (length m) (first_above m)) 18 (first_above m) rest)

bare_played : (n : Net) (s : State) (r : List ℕ) (room : ℕ) → bare (played_of n s r room) ≡ old_played n s r room
unfolding played_of
bare_played n s r room =
    bare_or (too_long r) (refused_or (stuck model.of_table (replay n 0 s r)) (fitting n.conditions room))
    ∙ ap (old_or (too_long r)) (bare_stuck model.of_table (replay n 0 s r) (fitting n.conditions room) ∙ ap (old_stuck (replay n 0 s r)) (bare_fitting n.conditions room))

-- a model's answer, told by a call, link by link
module _ (f : Answer → Judged) (h : (x : model.Refusal) → f (refusal x) ≡ refusing x) where
  bare_unless : (o : Option model.Refusal) (a : Answer) (g : Old) → bare (f a) ≡ g → bare (f (unless o a)) ≡ old_or o g
  bare_unless none a g e = e
  bare_unless (some x) a g e = ap bare (h x)

  bare_steps : (w : Whose) (p : Played) (a : Answer) (g : Old) → bare (f a) ≡ g → bare (f (unless (stuck w p) a)) ≡ old_stuck p g
  bare_steps w (ends s) a g e = e
  bare_steps w (refused v k) a g e = ap bare (h (stopped w v k))

  bare_lift : (s r : List ℕ) (g : Old) → bare (f (run (lifted (net_of s) (own_or_earliest (net_of s)) (opening (net_of s)) r))) ≡ g
      → bare (and_then (judge_of s) (λ _. f (lift (net_of s) r))) ≡ old_lifting s r g
  unfolding lift lifting
  bare_lift s r g e =
      let n = net_of s in
      bare_then (judge_of s) _ _ (λ _.
      bare_unless (too_long r) _ _ (bare_unless (unfolding_refused n) _ _
      (bare_steps model.of_table (replay n 0 (opening n) r) _ _
      (bare_unless (again (repeated n (own_or_earliest n) 0 (opening n) r)) _ _ e))))

  bare_project : (s w : List ℕ) (g : Old) → bare (f (run (read_back (net_of s) w))) ≡ g
      → bare (and_then (judge_of s) (λ _. f (project (net_of s) w))) ≡ old_projecting s w g
  unfolding project projecting
  bare_project s w g e =
      let u = basic (net_of s) in
      bare_then (judge_of s) _ _ (λ _.
      bare_unless (too_long w) _ _ (bare_unless (unfolding_refused (net_of s)) _ _ (bare_steps model.of_unfolding (replay u 0 (opening u) w) _ _ e)))

-- ---- the answers of runs

pub replay_before : (s r : List ℕ) (room : ℕ) → bare (replay_of s r room) ≡ old_replay s r room
unfolding replay_of old_replay
replay_before s r room = bare_then (judge_of s) _ _ (λ n. bare_played (net_of s) (opening (net_of s)) r room)

pub replay_from_before : (s m r : List ℕ) (room : ℕ) → bare (replay_from_of s m r room) ≡ old_replay_from s m r room
unfolding replay_from_of on_marking old_replay_from
replay_from_before s m r room =
    bare_then (judge_of s) _ _ (λ n.
    bare_lent (net_of s).conditions m (played_of (net_of s) (begun_at (net_of s) (marking m)) r room)
    ∙ ap (old_lent (net_of s).conditions m) (bare_played (net_of s) (begun_at (net_of s) (marking m)) r room))

pub exchange_before : (s r : List ℕ) (k : ℕ) → bare (exchange_of s r k) ≡ old_exchange s r k
unfolding exchange_of exchange exchanging old_exchange
exchange_before s r k =
    let n = net_of s in
    bare_then (judge_of s) _ _ (λ _.
    bare_unless swapping (λ x. refl) (too_long r) _ _
    (bare_steps swapping (λ x. refl) model.of_table (replay n 0 (opening n) r) _ _
    (bare_unless swapping (λ x. refl) (no_step r k) _ _ (bare_unless swapping (λ x. refl) (not_apart n r k) _ _ refl))))

pub lift_before : (s r : List ℕ) (room : ℕ) → bare (lift_of s r room) ≡ old_lift s r room
unfolding lift_of fitted old_lift
lift_before s r room = bare_lift (λ a. fitted a room) (λ x. refl) s r _ (bare_fitting (length (lifted (net_of s) (own_or_earliest (net_of s)) (opening (net_of s)) r)) room)

pub lift_end_before : (s r : List ℕ) (room : ℕ) → bare (lift_end_of s r room) ≡ old_lift_end s r room
unfolding lift_end_of ended old_lift_end
lift_end_before s r room = bare_lift (λ a. ended a (basic (net_of s)).conditions room) (λ x. refl) s r _ (bare_fitting (basic (net_of s)).conditions room)

pub project_before : (s w : List ℕ) (room : ℕ) → bare (project_of s w room) ≡ old_project s w room
unfolding project_of fitted old_project
project_before s w room = bare_project (λ a. fitted a room) (λ x. refl) s w _ (bare_fitting (length (read_back (net_of s) w)) room)

pub unfolded_replay_before : (s w : List ℕ) (room : ℕ) → bare (unfolded_replay_of s w room) ≡ old_unfolded_replay s w room
unfolding unfolded_replay_of ended old_unfolded_replay
unfolded_replay_before s w room = bare_project (λ a. ended a (basic (net_of s)).conditions room) (λ x. refl) s w _ (bare_fitting (basic (net_of s)).conditions room)

-- ---- the answers of firings, with 11 and 12 back at 0

-- a refusal with another number keeps its place
place_kept : (l : List ℕ) (number place : ℕ) → T (all (λ x. not (mem x by_condition)) l) → T (mem number l) → unplaced (turned number place) ≡ turned number place
place_kept l number place h t =
    rw (is_false (mem number by_condition) (not_out (mem number by_condition) (all_at (λ x. not (mem x by_condition)) l h number t)))

unplaced_then : (a : Judged) (f : ℕ → Judged) (g : ℕ → Old) → T (listed of_table a) → ((v : ℕ) → unplaced (bare (f v)) ≡ g v) → unplaced (bare (and_then a f)) ≡ old_then (bare a) g
unplaced_then (Ok v) f g t e = e v
unplaced_then (Err x) f g t e = place_kept of_table x.number x.place tt (and_left (mem x.number of_table) (named x) t)

unplaced_or : (o : Option model.Refusal) (rest : Judged) (g : Old) → T (listed_if (13 ∷ 14 ∷ []) o) → unplaced (bare rest) ≡ g → unplaced (bare (refused_or o rest)) ≡ old_or o g
unplaced_or none rest g t e = e
unplaced_or (some x) rest g t e =
    place_kept (13 ∷ 14 ∷ []) (model.number_of x) (model.place_of x) tt
    (and_left (mem (model.number_of x) (13 ∷ 14 ∷ [])) (named (record { number = model.number_of x; place = model.place_of x; by = refusal_by x })) t)

unplaced_eighteen : (b : Bool) (place : ℕ) (rest : Judged) (g : Old) → unplaced (bare rest) ≡ g → unplaced (bare (need b 18 place rest)) ≡ old_need b 18 place g
unfolding need
unplaced_eighteen true place rest g e = e
unplaced_eighteen false place rest g e = refl

unplaced_lent : (c : ℕ) (m : List ℕ) (rest : Judged) (g : Old) → unplaced (bare rest) ≡ g → unplaced (bare (lent c m rest)) ≡ old_lent c m g
unfolding lent
unplaced_lent c m rest g e = unplaced_eighteen (eqb (length m) c) c _ _ (unplaced_eighteen (leb (length m) (first_above m)) (first_above m) rest g e)

unplaced_stop : (w : Whose) (o : Option Stop) (value : ℕ) → unplaced (bare (refused_or (firing_stopped w o) (Ok value))) ≡ old_stop o (fine value)
unplaced_stop w none value = refl
unplaced_stop w (some unknown) value = refl
unplaced_stop w (some (lacks b)) value = refl
unplaced_stop w (some (meets b)) value = refl

pub firing_before : (s m : List ℕ) (e value : ℕ) → unplaced (bare (firing_of s m e value)) ≡ old_firing s m e value
unfolding firing_of on_marking old_firing
firing_before s m e value =
    unplaced_then (judge_of s) _ _ (judge_listed s) (λ n. unplaced_lent (net_of s).conditions m _ _ (unplaced_stop model.of_table (stopping (net_of s) (marking m) e) value))

pub concession_before : (s m : List ℕ) (e : ℕ) → unplaced (bare (concession_of s m e)) ≡ old_firing s m e 0
concession_before s m e = firing_before s m e 0

pub fire_before : (s m : List ℕ) (e : ℕ) → unplaced (bare (fire_of s m e)) ≡ old_firing s m e (net_of s).conditions
fire_before s m e = firing_before s m e (net_of s).conditions

pub unfolded_fire_before : (s m : List ℕ) (j : ℕ) → unplaced (bare (unfolded_fire_of s m j)) ≡ old_unfolded_fire s m j
unfolding unfolded_fire_of unfolding_of old_unfolded_fire
unfolded_fire_before s m j =
    unplaced_then (judge_of s) _ _ (judge_listed s) (λ n.
    unplaced_or (unfolding_refused (net_of s)) _ _ (unfolding_listed (13 ∷ 14 ∷ []) (net_of s) tt tt)
    (unplaced_lent (basic (net_of s)).conditions m _ _ (unplaced_stop model.of_unfolding (stopping (basic (net_of s)) (marking m) j) (basic (net_of s)).conditions)))

-- ---- lent outputs

written_bare : (a : Judged) (o : Old) (w out : List ℕ) → bare a ≡ o → written a w out ≡ old_written o w out
written_bare a o w out e = go a ∙ ap (λ (z : Old). old_written z w out) e
  where
    go : (a : Judged) → written a w out ≡ old_written (bare a) w out
    go (Ok v) = refl
    go (Err x) = refl

leaves_bare : (a : Judged) (o : Old) (new old : List ℕ) → bare a ≡ o → leaves a new old ≡ old_leaves o new old
leaves_bare a o new old e = go a ∙ ap (λ (z : Old). old_leaves z new old) e
  where
    go : (a : Judged) → leaves a new old ≡ old_leaves (bare a) new old
    go (Ok v) = refl
    go (Err x) = refl

leaves_unplaced : (a : Judged) (o : Old) (new old : List ℕ) → unplaced (bare a) ≡ o → leaves a new old ≡ old_leaves o new old
leaves_unplaced a o new old e = go a ∙ ap (λ (z : Old). old_leaves z new old) e
  where
    go : (a : Judged) → leaves a new old ≡ old_leaves (unplaced (bare a)) new old
    go (Ok v) = refl
    go (Err x) = refl

pub fired_before : (s m : List ℕ) (e : ℕ)
    → fired_of s m e ≡ old_leaves (old_firing s m e (net_of s).conditions) (bytes (net_of s).conditions (fire (net_of s) (marking m) e)) m
unfolding fired_of
fired_before s m e = leaves_unplaced (fire_of s m e) _ _ m (fire_before s m e)

pub unfolded_fired_before : (s m : List ℕ) (j : ℕ)
    → unfolded_fired_of s m j ≡ old_leaves (old_unfolded_fire s m j) (bytes (basic (net_of s)).conditions (fire (basic (net_of s)) (marking m) j)) m
unfolding unfolded_fired_of
unfolded_fired_before s m j = leaves_unplaced (unfolded_fire_of s m j) _ _ m (unfolded_fire_before s m j)

pub end_before : (s r out : List ℕ) → end_of s r out ≡ old_written (old_replay s r (length out)) (bytes (net_of s).conditions (end (net_of s) (begin (net_of s)) r)) out
unfolding end_of
end_before s r out = written_bare (replay_of s r (length out)) _ _ out (replay_before s r (length out))

pub end_from_before : (s m r out : List ℕ)
    → end_from_of s m r out ≡ old_written (old_replay_from s m r (length out)) (bytes (net_of s).conditions (end (net_of s) (marking m) r)) out
unfolding end_from_of
end_from_before s m r out = written_bare (replay_from_of s m r (length out)) _ _ out (replay_from_before s m r (length out))

pub exchanged_before : (s r : List ℕ) (k : ℕ) → exchanged_of s r k ≡ old_leaves (old_exchange s r k) (exchanged k r) r
unfolding exchanged_of
exchanged_before s r k = leaves_bare (exchange_of s r k) _ _ r (exchange_before s r k)

pub lifted_before : (s r out : List ℕ) → lifted_of s r out ≡ old_written (old_lift s r (length out)) (numbers_of (lift (net_of s) r)) out
unfolding lifted_of
lifted_before s r out = written_bare (lift_of s r (length out)) _ _ out (lift_before s r (length out))

pub projected_before : (s w out : List ℕ) → projected_of s w out ≡ old_written (old_project s w (length out)) (numbers_of (project (net_of s) w)) out
unfolding projected_of
projected_before s w out = written_bare (project_of s w (length out)) _ _ out (project_before s w (length out))

pub lift_ended_before : (s r out : List ℕ)
    → lift_ended_of s r out
    ≡ old_written (old_lift_end s r (length out)) (bytes (basic (net_of s)).conditions (end (basic (net_of s)) (begin (basic (net_of s))) (numbers_of (lift (net_of s) r)))) out
unfolding lift_ended_of
lift_ended_before s r out = written_bare (lift_end_of s r (length out)) _ _ out (lift_end_before s r (length out))

pub unfolded_replayed_before : (s w out : List ℕ)
    → unfolded_replayed_of s w out ≡ old_written (old_unfolded_replay s w (length out)) (bytes (basic (net_of s)).conditions (end (basic (net_of s)) (begin (basic (net_of s))) w)) out
unfolding unfolded_replayed_of
unfolded_replayed_before s w out = written_bare (unfolded_replay_of s w (length out)) _ _ out (unfolded_replay_before s w (length out))
