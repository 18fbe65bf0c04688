-- A run played on words, a step at a time: what has been played is a run of the model, and what stops it is what the model's replay says.
use Prim.Native.Nat.{ℕ, suc, ◌+◌, ◌≤◌, ◌<◌}
use native.Mathlib.Numerals.{add-one}
use native.Mathlib.Nat.{zero-add}
use native.Mathlib.Omega.{arith}
use mathlib.Core.Path.{◌≡◌, refl, sym, ap, ◌∙◌, subst}
use mathlib.Core.Option.{Option, none, some}
use mathlib.Core.List.{List, [], ◌∷◌, ◌++◌}
use lib.Dec.{T, ltb→lt}
use lib.ListN.{length, get_or, take, drop}
use lib.Seq.{take-suc, take_all, split_at, length-take-le}
use Rattle.lists.specs.Lists.{mem}
use Rattle.lists.proofs.Bools.{is_false}
use Rattle.model.specs.Net.{Net, Sound, Marking, can, fire, Stop, stopping}
use Rattle.model.specs.Runs.{runs, end, replay}
use Rattle.model.specs.Across.{of_table, stopped, stuck, too_long, most_steps}
use Rattle.model.proofs.Firing.{can_event, none_can, fire_none, runs_snoc}
use Rattle.model.proofs.Replay.{stops_replay}
use Rattle.model.proofs.Answers.{stuck_none, length_short}
use Rattle.std.specs.Prelude.{Result, Ok, Err}
use Rattle.refusal.specs.declared.Refusal.{Refusal}
use Rattle.refusal.specs.declared.Condition.TheVariants.{Table}
use Rattle.refusal.specs.Answer.{refused_at}
use Rattle.refusal.proofs.Chain.{never_both, ok_is}
use borrow.Author.Tests.{lt-leb}
use Rattle.stopping.specs.Causes.{refusal_at}
use Rattle.held.specs.Held.{held_in}
use Rattle.step.specs.Tests.{Moves}
use Rattle.stopping.specs.Table.{Cause, stopped_at}
use Rattle.game.proofs.Found.{stopped_is}
use Rattle.model.specs.Lent.{bytes, marking}
use Rattle.played.specs.Begun.{begun_at}
use Rattle.played.specs.declared.Ended.{Ended}
use Rattle.played.specs.Played.{ended, Plays}
use Rattle.table.specs.Links.{refusing}
use Rattle.model.proofs.Lent.{tidy_marking, marking_bytes}

-- ---- one step more

module _ (n : Net) where
  end_snoc : (m : Marking) (a : List ℕ) (e : ℕ) → end n m (a ++ e ∷ []) ≡ fire n (end n m a) e
  unfolding end
  end_snoc m [] e = refl
  end_snoc m (x ∷ a) e = end_snoc (fire n m x) a e

-- firing an event that can fire puts nothing past the conditions, so the bytes tell the new marking
pub fired_marking : (n : Net) → Sound n → (l : List ℕ) (e : ℕ) → n.conditions ≤ length l → T (can n (marking l) e)
    → marking (bytes (length l) (fire n (marking l) e)) ≡ fire n (marking l) e
fired_marking n s l e h c =
    marking_bytes (length l) (fire n (marking l) e) (λ b p.
    fire_none n (marking l) e b
    (is_false (mem b (n.postconditions e)) (λ t. let q = s.post_in e b (ltb→lt e n.events (can_event n (marking l) e c)) t in omega arith))
    (tidy_marking l b p))

-- ---- a run that has come to step k

pub record Going (n : Net) (m : Marking) (r : List ℕ) (k : ℕ) (held : List ℕ) : Type 0 where
  pub upto : k ≤ length r
  pub here : held_in held ≡ end n m (take k r)
  pub plays : T (runs n m (take k r))

pub going_start : (n : Net) (r held : List ℕ) → Going n (held_in held) r 0 held
unfolding end runs
going_start n r held = record { upto = omega arith; here = refl; plays = tt }

module _ (n : Net) (m : Marking) (r : List ℕ) (k : ℕ) (held : List ℕ) (g : Going n m r k held) where
  module _ (h : k < length r) where
    pub going_on : stopping n (held_in held) (get_or r k 0) ≡ none → (new : List ℕ) → held_in new ≡ fire n (held_in held) (get_or r k 0) → Going n m r (k + 1) new
    going_on o new e =
        let can_fire = none_can n (held_in held) (get_or r k 0) o in
        let next : take (k + 1) r ≡ take k r ++ (get_or r k 0 ∷ []) = rw add-one (take-suc r k 0 h) in
        record {
          upto = omega arith;
          here = e ∙ ap (λ (x : Marking). fire n x (get_or r k 0)) g.here ∙ sym (end_snoc n m (take k r) (get_or r k 0)) ∙ ap (end n m) (sym next);
          plays = rw next (runs_snoc n m (take k r) (get_or r k 0) g.plays (subst (λ (x : Marking). T (can n x (get_or r k 0))) g.here can_fire));
        }

    pub going_stop : (v : Stop) → stopping n (held_in held) (get_or r k 0) ≡ some v → stuck of_table (replay n 0 (begun_at n m) r) ≡ some (stopped of_table v k)
    unfolding begun_at
    going_stop v o =
        ap (stuck of_table) (stops_replay n 0 (begun_at n m) r v k record {
          before = take k r;
          event = get_or r k 0;
          rest = drop (suc k) r;
          splits = split_at r k 0 h;
          place = rw (length-take-le k r g.upto, zero-add);
          plays = g.plays;
          stops = rw g.here at o;
        })

  module _ (h : length r ≤ k) where
    whole : take k r ≡ r
    whole = take_all k r h

    pub going_end : held_in held ≡ end n m r
    going_end = g.here ∙ ap (end n m) whole

    pub going_free : stuck of_table (replay n 0 (begun_at n m) r) ≡ none
    unfolding begun_at
    going_free = stuck_none of_table n 0 (begun_at n m) r (subst (λ (x : List ℕ). T (runs n m x)) whole g.plays)

-- ---- the step's answer q, for the step that stands at k

module _ (n : Net) (m : Marking) (r : List ℕ) (k : ℕ) (held : List ℕ) (g : Going n m r k held) (h : k < length r) where
  pub step_on : (new : List ℕ) → Moves (stopping n (held_in held) (get_or r k 0)) (fire n (held_in held) (get_or r k 0)) (Ok new) → Going n m r (k + 1) new
  step_on new moves = go (stopping n (held_in held) (get_or r k 0)) refl moves
    where
      go : (o : Option Stop) → stopping n (held_in held) (get_or r k 0) ≡ o → Moves o (fire n (held_in held) (get_or r k 0)) (Ok new) → Going n m r (k + 1) new
      go none e f = going_on n m r k held g h e new f
      go (some v) e f = absurd f

  pub step_ends : length r ≤ most_steps → (x : Cause) → Moves (stopping n (held_in held) (get_or r k 0)) (fire n (held_in held) (get_or r k 0)) (Err x)
      → (answer : Result Ended Refusal) → answer ≡ Err (refusal_at Table x k) → Plays n m r answer
  step_ends short x moves answer a = go (stopping n (held_in held) (get_or r k 0)) refl moves
    where
      go : (o : Option Stop) → stopping n (held_in held) (get_or r k 0) ≡ o → Moves o (fire n (held_in held) (get_or r k 0)) (Err x) → Plays n m r answer
      go none e f = absurd f
      go (some v) e f =
          let is : ended answer ≡ refusing (stopped of_table v k) = ap ended a ∙ ap (λ (y : Cause). stopped_at y k) f ∙ stopped_is v k in
          record { told = is ∙ rw (length_short r short, going_stop n m r k held g h v e); reached = λ y f. never_both (sym f ∙ a) }

-- ---- a run that is too long, and one that comes to its end

pub too_long_lem : (n : Net) (m : Marking) (r : List ℕ) → most_steps < length r → (answer : Result Ended Refusal) → answer ≡ refused_at 3 0 → Plays n m r answer
unfolding too_long
too_long_lem n m r long answer a = record { told = ap ended a ∙ rw (lt-leb (length r) most_steps long); reached = λ x f. never_both (sym f ∙ a) }

module _ (n : Net) (m : Marking) (r : List ℕ) (k : ℕ) (whole : Ended) (g : Going n m r k whole.held) (h : length r ≤ k) (short : length r ≤ most_steps) where
  pub comes_to_end : whole.conditions ≡ n.conditions → Plays n m r (Ok whole)
  comes_to_end c =
      let reached : (y : Ended) → Ok whole ≡ Ok y → held_in y.held ≡ end n m r =
      λ y f. ap (λ (e : Ended). held_in e.held) (sym (ok_is f)) ∙ going_end n m r k whole.held g h in
      record { told = rw (length_short r short, going_free n m r k whole.held g h) (ap Ok c); reached = reached }
