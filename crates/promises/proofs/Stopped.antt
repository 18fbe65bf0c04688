-- Which condition a refused call names: exactly the lowest that stops the step, for every call that fires or runs.
use mathlib.Core.Path.{◌≡◌, refl, sym, ◌∙◌, ap, subst}
use mathlib.Core.Bool.{Bool, true, false, not}
use mathlib.Core.Logic.{◌⊎◌, inl, inr, ◌↔◌}
use mathlib.Core.Option.{Option, none, some}
use mathlib.Core.List.{List, [], ◌∷◌}
use Prim.Native.Nat.{ℕ, suc}
use native.Mathlib.Omega.{arith}
use lib.Dec.{T, eqb, leb, ltb}
use lib.ListN.{length}
use Rattle.lists.specs.Lists.{mem, all}
use Rattle.lists.proofs.Bools.{and_left, not_out}
use Rattle.lists.proofs.Tests.{all_at}
use Rattle.model.specs.Net.{Net, Sound, Marking, begin, Stop, unknown, lacks, meets, stop_number, stop_condition, stop_place, stopping}
use Rattle.model.specs.Runs.{State, opening, Played, ends, refused, replay}
use Rattle.model.specs.Unfolding.{basic}
use Rattle.model.specs.Exchange.{apart_step, exchanged}
use Rattle.model.specs.Across.{Whose, Refusal, stopped, Answer, run, refusal, unless, stuck, too_long, unfolding_refused, own_or_earliest, lifted, repeated, again, lifting, lift, read_back, projecting, project, no_step, not_apart, exchanging, exchange}
use Rattle.model.specs.Across as model
use Rattle.model.specs.Lent.{marking}
use Rattle.model.specs.Stopped.{StoppedBy, StoppedAt}
use Rattle.model.proofs.Sets.{basic_sound}
use Rattle.model.proofs.Stopped.{stopping_exactly, refused_exactly}
use Rattle.std.specs.Prelude.{None, Ok, Err}
use Rattle.refusal.specs.declared.Refusal as declared
use Rattle.refusal.specs.Answer.{Judged, number_of, place_of, by_of, condition_of, need, and_then, fitting}
use Rattle.refusal.proofs.Chain.{never_both, then_fine}
use Rattle.table.specs.Walk.{judge_of}
use Rattle.table.specs.Decoded.{net_of}
use Rattle.table.specs.Links.{by_in, refusal_by, refusing, refused_or}
use Rattle.table.proofs.Sound.{accepted_sound}
use Rattle.game.specs.Lent.{lent, first_above}
use Rattle.game.specs.Calls.{on_marking, firing_stopped, firing_of, concession_of, fire_of}
use Rattle.played.specs.Begun.{begun_at}
use Rattle.replay.specs.Calls.{played_of, replay_of, replay_from_of}
use Rattle.exchange.specs.Calls.{swapping, exchange_of}
use Rattle.layout.specs.Unfolds.{unfolding_of}
use Rattle.firing.specs.Calls.{unfolded_fire_of}
use Rattle.across.specs.Calls.{fitted, ended, across_of}
use Rattle.lift.specs.Calls.{lift_of}
use Rattle.project.specs.Calls.{project_of}
use Rattle.ends.specs.Calls.{lift_end_of, unfolded_replay_of}
use Rattle.promises.specs.Refused.{of_table, by_condition, named, listed}
use Rattle.promises.specs.Stopped.{before_firing, before_unfolded, before_run, before_run_from, Passes, FiringNames, RunNames}
use Rattle.promises.proofs.Refused.{listed_if, listed_or, listed_fitting, judge_listed, long_listed, unfolding_listed, if_listed}

-- ---- what is judged before

-- it passes all on, or refuses all alike, and then with a number that no condition stands behind
abbrev Judging : (Judged → Judged) → Type 0
Judging p = ((a : Judged) → p a ≡ a) ⊎ ((x : declared.Refusal) × (T (mem x.number by_condition) → ⊥) × ((a : Judged) → p a ≡ Err x))

-- numbers that no condition stands behind
abbrev plain : List ℕ → Bool
plain l = all (λ x. not (mem x by_condition)) l

plain_not : (l : List ℕ) → T (plain l) → (x : declared.Refusal) → T (listed {A = ℕ} l (Err x)) → T (mem x.number by_condition) → ⊥
plain_not l h x t = not_out (mem x.number by_condition) (all_at (λ y. not (mem y by_condition)) l h x.number (and_left (mem x.number l) (named x) t))

judging_judge : (s : List ℕ) → Judging (λ a. and_then (judge_of s) (λ n. a))
judging_judge s = go (judge_of s) (judge_listed s)
  where
    go : (j : Judged) → T (listed of_table j) → Judging (λ a. and_then j (λ n. a))
    go (Ok n) t = inl (λ a. refl)
    go (Err x) t = inr (x, plain_not of_table tt x t, λ a. refl)

judging_or : (l : List ℕ) → T (plain l) → (o : Option Refusal) → T (listed_if l o) → Judging (refused_or o)
judging_or l h none t = inl (λ a. refl)
judging_or l h (some x) t =
    let y : declared.Refusal = record { number = model.number_of x; place = model.place_of x; by = refusal_by x } in
    inr (y, plain_not l h y t, λ a. refl)

judging_eighteen : (b : Bool) (place : ℕ) → Judging (need b 18 place)
unfolding need
judging_eighteen true place = inl (λ a. refl)
judging_eighteen false place = inr (record { number = 18; place = place; by = None }, λ t. t, λ a. refl)

judging_both : (p q : Judged → Judged) → Judging p → Judging q → Judging (λ a. p (q a))
judging_both p q (inl f) (inl g) = inl (λ a. f (q a) ∙ g a)
judging_both p q (inl f) (inr y) = inr (y.0, y.1, λ a. f (q a) ∙ y.2 a)
judging_both p q (inr x) g = inr (x.0, x.1, λ a. x.2 (q a))

judging_lent : (c : ℕ) (m : List ℕ) → Judging (lent c m)
unfolding lent
judging_lent c m = judging_both (need (eqb (length m) c) 18 c) (need (leb (length m) (first_above m)) 18 (first_above m))
    (judging_eighteen (eqb (length m) c) c) (judging_eighteen (leb (length m) (first_above m)) (first_above m))

judging_long : (r : List ℕ) → Judging (refused_or (too_long r))
judging_long r = judging_or (3 ∷ []) tt (too_long r) (long_listed (3 ∷ []) r tt)

judging_unfolding : (s : List ℕ) → Judging (refused_or (unfolding_refused (net_of s)))
judging_unfolding s = judging_or (13 ∷ 14 ∷ []) tt (unfolding_refused (net_of s)) (unfolding_listed (13 ∷ 14 ∷ []) (net_of s) tt tt)

-- a refusal that names a condition comes after what passes
named_after : (p : Judged → Judged) → Judging p → (a : Judged) (x : declared.Refusal) → T (mem x.number by_condition) → (p a ≡ Err x) ↔ (Passes p × (a ≡ Err x))
named_after p (inl f) a x t = (λ h. (f (Ok 0), sym (f a) ∙ h), λ h. f a ∙ h.1)
named_after p (inr y) a x t = (
  λ h. let same : y.0.number ≡ x.number = ap number_of (sym (y.2 a) ∙ h) in
      absurd (y.1 (subst (λ (k : ℕ). T (mem k by_condition)) (sym same) t)),
  λ h. never_both (sym h.0 ∙ y.2 (Ok 0)),
)

-- ---- what is stopped

condition_in : (w : Whose) (o : Option ℕ) → condition_of (by_in w o) ≡ o
condition_in w none = refl
condition_in model.of_table (some b) = refl
condition_in model.of_unfolding (some b) = refl

-- a stop is told by its number and its condition
stop_same : (u v : Stop) → stop_number u ≡ stop_number v → stop_condition u ≡ stop_condition v → u ≡ v
stop_same unknown unknown e f = refl
stop_same unknown (lacks b) e f = absurd (omega arith)
stop_same unknown (meets b) e f = absurd (omega arith)
stop_same (lacks a) unknown e f = absurd (omega arith)
stop_same (lacks a) (lacks b) e f = let z : a ≡ b = cc in ap lacks z
stop_same (lacks a) (meets b) e f = absurd (omega arith)
stop_same (meets a) unknown e f = absurd (omega arith)
stop_same (meets a) (lacks b) e f = absurd (omega arith)
stop_same (meets a) (meets b) e f = let z : a ≡ b = cc in ap meets z

told_same : (w : Whose) (u v : Stop) (k i : ℕ) → refusing (stopped w u k) ≡ refusing (stopped w v i) → (u ≡ v) × (k ≡ i)
told_same w u v k i e = (
  stop_same u v (ap number_of e) (sym (condition_in w (stop_condition u)) ∙ ap (λ (z : Judged). condition_of (by_of z)) e ∙ condition_in w (stop_condition v)),
  ap place_of e,
)

-- what names a condition is one of the two stops that have one
names_one : (w : Whose) (v : Stop) (k : ℕ) (x : declared.Refusal) → refusing (stopped w v k) ≡ Err x → T (mem x.number by_condition)
    → (b : ℕ) × (stop_place v ≡ b) × (x.by ≡ by_in w (some b))
names_one w unknown k x e t = absurd (subst (λ (z : ℕ). T (mem z by_condition)) (sym (ap number_of e)) t)
names_one w (lacks b) k x e t = (b, refl, sym (ap by_of e))
names_one w (meets b) k x e t = (b, refl, sym (ap by_of e))

-- ---- firing

firing_told : (w : Whose) (o : Option Stop) (value : ℕ) (v : Stop) → (refused_or (firing_stopped w o) (Ok value) ≡ refusing (stopped w v (stop_place v))) ↔ (o ≡ some v)
firing_told w none value v = (λ h. never_both h, λ h. absurd (let z : ◌≡◌ {A = ℕ} 0 1 = cc in omega arith))
firing_told w (some u) value v = (
  λ h. ap some (told_same w u v (stop_place u) (stop_place v) h).0,
  λ h. let z : u ≡ v = cc in ap (λ (k : Stop). refusing (stopped w k (stop_place k))) z,
)

module _ (p : Judged → Judged) (j : Judging p) (w : Whose) (n : Net) (sound : Passes p → Sound n) where
  firing_stop : (m : Marking) (e value : ℕ) (v : Stop) (x : declared.Refusal) → refusing (stopped w v (stop_place v)) ≡ Err x → T (mem x.number by_condition)
      → (p (refused_or (firing_stopped w (stopping n m e)) (Ok value)) ≡ refusing (stopped w v (stop_place v))) ↔ (Passes p × StoppedBy n m e v)
  firing_stop m e value v x q t =
      let a = refused_or (firing_stopped w (stopping n m e)) (Ok value) in
      let after = named_after p j a x t in
      let told = firing_told w (stopping n m e) value v in (
        λ h. let r = after.0 (h ∙ q) in (r.0, (stopping_exactly n m e (sound r.0) v).0 (told.0 (r.1 ∙ sym q))),
        λ h. after.1 (h.0, told.1 ((stopping_exactly n m e (sound h.0) v).1 h.1) ∙ q) ∙ sym q,
      )

  firing_names : (m : Marking) (e value : ℕ) → FiringNames p w n m e (p (refused_or (firing_stopped w (stopping n m e)) (Ok value)))
  firing_names m e value = record {
    eleven = λ b. firing_stop m e value (lacks b) _ refl tt;
    twelve = λ b. firing_stop m e value (meets b) _ refl tt;
    only = λ x h t. go (stopping n m e) x ((named_after p j _ x t).0 h).1 t;
  }
    where
      go : (o : Option Stop) (x : declared.Refusal) → refused_or (firing_stopped w o) (Ok value) ≡ Err x → T (mem x.number by_condition) → x.by ≡ by_in w (some x.place)
      go none x h t = never_both h
      go (some v) x h t =
          let r = names_one w v (stop_place v) x h t in
          r.2 ∙ ap (λ (b : ℕ). by_in w (some b)) (sym r.1 ∙ ap place_of h)

-- ---- runs

-- what follows the steps names no condition
abbrev Unnamed : Judged → Type 0
Unnamed a = (x : declared.Refusal) → a ≡ Err x → T (mem x.number by_condition) → ⊥

unnamed : (l : List ℕ) → T (plain l) → (a : Judged) → T (listed l a) → Unnamed a
unnamed l h (Ok v) t x e k = never_both e
unnamed l h (Err y) t x e k = let z : y.number ≡ x.number = ap number_of e in plain_not l h y t (subst (λ (i : ℕ). T (mem i by_condition)) (sym z) k)

module _ (p : Judged → Judged) (j : Judging p) (w : Whose) (n : Net) (sound : Passes p → Sound n) (s : State) (r : List ℕ) (rest : Judged) (after : Unnamed rest) where
  run_told : (v : Stop) (i : ℕ) (x : declared.Refusal) → refusing (stopped w v i) ≡ Err x → T (mem x.number by_condition)
      → (refused_or (stuck w (replay n 0 s r)) rest ≡ refusing (stopped w v i)) ↔ (replay n 0 s r ≡ refused v i)
  run_told v i x q t = (λ h. go (replay n 0 s r) h, λ h. ap (λ (z : Played). refused_or (stuck w z) rest) h)
    where
      go : (z : Played) → refused_or (stuck w z) rest ≡ refusing (stopped w v i) → z ≡ refused v i
      go (ends y) h = absurd (after x (h ∙ q) t)
      go (refused u k) h =
          let (a, b) = told_same w u v k i h in
          ap (λ (y : Stop). refused y k) a ∙ ap (refused v) b

  run_stop : (v : Stop) (i : ℕ) (x : declared.Refusal) → refusing (stopped w v i) ≡ Err x → T (mem x.number by_condition)
      → (p (refused_or (stuck w (replay n 0 s r)) rest) ≡ refusing (stopped w v i)) ↔ (Passes p × StoppedAt n 0 s.marking r v i)
  run_stop v i x q t =
      let a = refused_or (stuck w (replay n 0 s r)) rest in
      let next = named_after p j a x t in
      let told = run_told v i x q t in (
        λ h. let z = next.0 (h ∙ q) in (z.0, (refused_exactly n (sound z.0) 0 s r v i).0 (told.0 (z.1 ∙ sym q))),
        λ h. next.1 (h.0, told.1 ((refused_exactly n (sound h.0) 0 s r v i).1 h.1) ∙ q) ∙ sym q,
      )

  run_names : RunNames p w n s.marking r (p (refused_or (stuck w (replay n 0 s r)) rest))
  run_names = record {
    eleven = λ i b. run_stop (lacks b) i _ refl tt;
    twelve = λ i b. run_stop (meets b) i _ refl tt;
    only = λ x h t. go (replay n 0 s r) x ((named_after p j _ x t).0 h).1 t;
  }
    where
      go : (z : Played) (x : declared.Refusal) → refused_or (stuck w z) rest ≡ Err x → T (mem x.number by_condition) → (b : ℕ) × (x.by ≡ by_in w (some b))
      go (ends y) x h t = absurd (after x h t)
      go (refused v k) x h t = let q = names_one w v k x h t in (q.0, q.2)

-- ---- the calls that fire

judged_sound : (s : List ℕ) (f : ℕ → Judged) → and_then (judge_of s) f ≡ Ok 0 → Sound (net_of s)
judged_sound s f h = let r = then_fine (judge_of s) f 0 h in accepted_sound s r.0 r.1

judging_marking : (s m : List ℕ) → Judging (before_firing s m)
unfolding on_marking
judging_marking s m =
    judging_both (λ a. and_then (judge_of s) (λ n. a)) (lent (net_of s).conditions m) (judging_judge s) (judging_lent (net_of s).conditions m)

firing_of_names : (s m : List ℕ) (e value : ℕ) → FiringNames (before_firing s m) model.of_table (net_of s) (marking m) e (firing_of s m e value)
unfolding firing_of on_marking
firing_of_names s m e value = firing_names (before_firing s m) (judging_marking s m) model.of_table (net_of s) (judged_sound s _) (marking m) e value

pub concession_names : (s m : List ℕ) (e : ℕ) → FiringNames (before_firing s m) model.of_table (net_of s) (marking m) e (concession_of s m e)
concession_names s m e = firing_of_names s m e 0

pub fire_names : (s m : List ℕ) (e : ℕ) → FiringNames (before_firing s m) model.of_table (net_of s) (marking m) e (fire_of s m e)
fire_names s m e = firing_of_names s m e (net_of s).conditions

pub unfolded_fire_names : (s m : List ℕ) (j : ℕ) → FiringNames (before_unfolded s m) model.of_unfolding (basic (net_of s)) (marking m) j (unfolded_fire_of s m j)
unfolding unfolded_fire_of unfolding_of
unfolded_fire_names s m j =
    let c = (basic (net_of s)).conditions in
    let inner = judging_both (refused_or (unfolding_refused (net_of s))) (lent c m) (judging_unfolding s) (judging_lent c m) in
    let outer = judging_both (λ a. and_then (judge_of s) (λ n. a)) (λ a. refused_or (unfolding_refused (net_of s)) (lent c m a)) (judging_judge s) inner in
    firing_names (before_unfolded s m) outer model.of_unfolding (basic (net_of s)) (λ h. basic_sound (net_of s)) (marking m) j c

-- ---- the calls that run

judging_run : (s r : List ℕ) → Judging (before_run s r)
judging_run s r = judging_both (λ a. and_then (judge_of s) (λ n. a)) (refused_or (too_long r)) (judging_judge s) (judging_long r)

judging_across : (s r : List ℕ) → Judging (across_of s r)
unfolding across_of
judging_across s r =
    judging_both (before_run s r) (refused_or (unfolding_refused (net_of s))) (judging_run s r) (judging_unfolding s)

room_unnamed : (c room : ℕ) → Unnamed (fitting c room)
room_unnamed c room = unnamed (16 ∷ []) tt (fitting c room) (listed_fitting (16 ∷ []) c room tt)

pub replay_names : (s r : List ℕ) (room : ℕ) → RunNames (before_run s r) model.of_table (net_of s) (begin (net_of s)) r (replay_of s r room)
unfolding replay_of played_of opening
replay_names s r room =
    let c = (net_of s).conditions in
    run_names (before_run s r) (judging_run s r) model.of_table (net_of s) (judged_sound s _) (opening (net_of s)) r (fitting c room) (room_unnamed c room)

pub replay_from_names : (s m r : List ℕ) (room : ℕ) → RunNames (before_run_from s m r) model.of_table (net_of s) (marking m) r (replay_from_of s m r room)
unfolding replay_from_of played_of on_marking begun_at
replay_from_names s m r room =
    let c = (net_of s).conditions in
    let judging = judging_both (before_firing s m) (refused_or (too_long r)) (judging_marking s m) (judging_long r) in
    run_names (before_run_from s m r) judging model.of_table (net_of s) (judged_sound s _) (begun_at (net_of s) (marking m)) r (fitting c room) (room_unnamed c room)

-- an answer of the model, told link by link
told_unless : (f : Answer → Judged) → ((x : Refusal) → f (refusal x) ≡ refusing x) → (o : Option Refusal) (a : Answer) → f (unless o a) ≡ refused_or o (f a)
told_unless f h none a = refl
told_unless f h (some x) a = h x

pub exchange_names : (s r : List ℕ) (k : ℕ) → RunNames (before_run s r) model.of_table (net_of s) (begin (net_of s)) r (exchange_of s r k)
unfolding exchange_of exchange exchanging no_step not_apart opening
exchange_names s r k =
    let n = net_of s in
    let steps = stuck model.of_table (replay n 0 (opening n) r) in
    let rest = refused_or (no_step r k) (refused_or (not_apart n r k) (Ok 2)) in
    let told : swapping (exchange n r k) ≡ refused_or (too_long r) (refused_or steps rest)
    = by_link (too_long r) _ ∙ ap (refused_or (too_long r)) (by_link steps _ ∙ ap (refused_or steps) (by_link (no_step r k) _ ∙ ap (refused_or (no_step r k)) (by_link (not_apart n r k) (run (exchanged k r))))) in
    let after = unnamed (10 ∷ 17 ∷ []) tt rest (listed_or (10 ∷ 17 ∷ []) (no_step r k) _ (if_listed (10 ∷ 17 ∷ []) (ltb (suc k) (length r)) 10 k tt)
    (listed_or (10 ∷ 17 ∷ []) (not_apart n r k) (Ok 2) (if_listed (10 ∷ 17 ∷ []) (apart_step n (begin n) r k) 17 k tt) tt)) in
    subst (λ (z : Judged). RunNames (before_run s r) model.of_table n (begin n) r (and_then (judge_of s) (λ _. z))) (sym told)
    (run_names (before_run s r) (judging_run s r) model.of_table n (judged_sound s _) (opening n) r rest after)
  where
    by_link : (o : Option Refusal) (a : Answer) → swapping (unless o a) ≡ refused_or o (swapping a)
    by_link o a = told_unless swapping (λ x. refl) o a

-- a lift, told by a call that writes it or its end
lift_told : (f : Answer → Judged) → ((x : Refusal) → f (refusal x) ≡ refusing x) → ((w : List ℕ) → Unnamed (f (run w)))
    → (s r : List ℕ) → RunNames (across_of s r) model.of_table (net_of s) (begin (net_of s)) r (and_then (judge_of s) (λ _. f (lift (net_of s) r)))
unfolding lift lifting across_of opening
lift_told f h g s r =
    let n = net_of s in
    let steps = stuck model.of_table (replay n 0 (opening n) r) in
    let repeat = again (repeated n (own_or_earliest n) 0 (opening n) r) in
    let numbers = f (run (lifted n (own_or_earliest n) (opening n) r)) in
    let told : f (lift n r) ≡ refused_or (too_long r) (refused_or (unfolding_refused n) (refused_or steps (refused_or repeat numbers)))
    = told_unless f h (too_long r) _ ∙ ap (refused_or (too_long r)) (told_unless f h (unfolding_refused n) _ ∙ ap (refused_or (unfolding_refused n)) (told_unless f h steps _ ∙ ap (refused_or steps) (told_unless f h repeat _))) in
    subst (λ (z : Judged). RunNames (across_of s r) model.of_table n (begin n) r (and_then (judge_of s) (λ _. z))) (sym told)
    (run_names (across_of s r) (judging_across s r) model.of_table n (judged_sound s _) (opening n) r (refused_or repeat numbers)
    (later (repeated n (own_or_earliest n) 0 (opening n) r) numbers (g (lifted n (own_or_earliest n) (opening n) r))))
  where
    later : (o : Option ℕ) (a : Judged) → Unnamed a → Unnamed (refused_or (again o) a)
    later none a u x e t = u x e t
    later (some k) a u x e t = subst (λ (z : ℕ). T (mem z by_condition)) (sym (ap number_of e)) t

pub lift_names : (s r : List ℕ) (room : ℕ) → RunNames (across_of s r) model.of_table (net_of s) (begin (net_of s)) r (lift_of s r room)
unfolding lift_of fitted
lift_names s r room = lift_told (λ a. fitted a room) (λ x. refl) (λ w. room_unnamed (length w) room) s r

pub lift_end_names : (s r : List ℕ) (room : ℕ) → RunNames (across_of s r) model.of_table (net_of s) (begin (net_of s)) r (lift_end_of s r room)
unfolding lift_end_of ended
lift_end_names s r room = lift_told (λ a. ended a (basic (net_of s)).conditions room) (λ x. refl) (λ w. room_unnamed (basic (net_of s)).conditions room) s r

-- the same for an unfolded run
project_told : (f : Answer → Judged) → ((x : Refusal) → f (refusal x) ≡ refusing x) → ((w : List ℕ) → Unnamed (f (run w)))
    → (s w : List ℕ) → RunNames (across_of s w) model.of_unfolding (basic (net_of s)) (begin (basic (net_of s))) w (and_then (judge_of s) (λ _. f (project (net_of s) w)))
unfolding project projecting across_of opening
project_told f h g s w =
    let n = net_of s in
    let u = basic n in
    let steps = stuck model.of_unfolding (replay u 0 (opening u) w) in
    let events = f (run (read_back n w)) in
    let told : f (project n w) ≡ refused_or (too_long w) (refused_or (unfolding_refused n) (refused_or steps events))
    = told_unless f h (too_long w) _ ∙ ap (refused_or (too_long w)) (told_unless f h (unfolding_refused n) _ ∙ ap (refused_or (unfolding_refused n)) (told_unless f h steps _)) in
    subst (λ (z : Judged). RunNames (across_of s w) model.of_unfolding u (begin u) w (and_then (judge_of s) (λ _. z))) (sym told)
    (run_names (across_of s w) (judging_across s w) model.of_unfolding u (λ z. basic_sound n) (opening u) w events (g (read_back n w)))

pub project_names : (s w : List ℕ) (room : ℕ) → RunNames (across_of s w) model.of_unfolding (basic (net_of s)) (begin (basic (net_of s))) w (project_of s w room)
unfolding project_of fitted
project_names s w room = project_told (λ a. fitted a room) (λ x. refl) (λ r. room_unnamed (length r) room) s w

pub unfolded_replay_names : (s w : List ℕ) (room : ℕ) → RunNames (across_of s w) model.of_unfolding (basic (net_of s)) (begin (basic (net_of s))) w (unfolded_replay_of s w room)
unfolding unfolded_replay_of ended
unfolded_replay_names s w room = project_told (λ a. ended a (basic (net_of s)).conditions room) (λ x. refl) (λ r. room_unnamed (basic (net_of s)).conditions room) s w
