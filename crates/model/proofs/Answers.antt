-- What the answers of lift, project and exchange come to: which runs they give and when they refuse, for any rule of lifting.
use mathlib.Core.Path.{◌≡◌, refl, ap}
use mathlib.Core.Bool.{Bool, true, false, cond}
use mathlib.Core.Logic.{◌↔◌}
use mathlib.Core.Option.{Option, none, some}
use mathlib.Core.List.{List}
use Prim.Native.Nat.{ℕ, suc, ◌≤◌, ◌<◌}
use borrow.Author.Tests.{le-leb, leb-true}
use lib.Dec.{T, ltb, ltb→lt, lt→ltb, leb}
use lib.ListN.{length}
use native.Mathlib.Omega.{arith}
use Rattle.lists.proofs.Bools.{is_true, T_of, is_false, not-true}
use Rattle.model.specs.Net.{Net, begin, Stop}
use Rattle.model.specs.Runs.{runs, State, opening, Played, ends, refused, replay}
use Rattle.model.specs.Unfolding.{basic}
use Rattle.model.specs.Exchange.{apart_step, exchanged}
use Rattle.model.specs.Across.{Whose, of_table, of_unfolding, Refusal, stopped, other, Answer, run, refusal, unless, stuck, most_steps, too_long, Lifting, lifted, repeated, again, lifting, read_back, projecting, no_step, not_apart, exchanging}
use Rattle.model.specs.Demands.{Stops}
use Rattle.model.proofs.Replay.{replay_runs, runs_replay, replay_stops, stops_replay}

-- ---- the first refusal

pub unless_run : (o : Option Refusal) (a : Answer) (w : List ℕ) → unless o a ≡ run w → (o ≡ none) × (a ≡ run w)
unless_run none a w h = (refl, h)
unless_run (some x) a w h = absurd (let z : ◌≡◌ {A = ℕ} 0 1 = cc in omega arith)

-- a test passed, where its failure is refused
pub passed : (b : Bool) (x : Refusal) → cond b none (some x) ≡ none → b ≡ true
passed true x h = refl
passed false x h = absurd (let z : ◌≡◌ {A = ℕ} 0 1 = cc in omega arith)

-- a replay that is not refused ends
pub not_stuck : (o : Whose) (n : Net) (k : ℕ) (s : State) (r : List ℕ) → stuck o (replay n k s r) ≡ none → T (runs n s.marking r)
not_stuck o n k s r h = go (replay n k s r) refl h
  where
    go : (p : Played) → replay n k s r ≡ p → stuck o p ≡ none → T (runs n s.marking r)
    go (ends z) q h = (runs_replay n k s z r q).0
    go (refused v i) q h = absurd (let z : ◌≡◌ {A = ℕ} 0 1 = cc in omega arith)

pub stuck_none : (o : Whose) (n : Net) (k : ℕ) (s : State) (r : List ℕ) → T (runs n s.marking r) → stuck o (replay n k s r) ≡ none
stuck_none o n k s r t = ap (stuck o) (replay_runs n k s r t)

-- a step that stops a replay is what the whole answer tells, whatever would come after it
pub stopped_exactly : (o : Whose) (n : Net) (k : ℕ) (s : State) (r : List ℕ) (a : Answer) (v : Stop) (i : ℕ) → (a ≡ refusal (stopped o v i) → ⊥)
    → (unless (stuck o (replay n k s r)) a ≡ refusal (stopped o v i)) ↔ Stops n k s r v i
stopped_exactly o n k s r a v i e = (λ h. go (replay n k s r) refl h, λ p. ap (λ (z : Played). unless (stuck o z) a) (stops_replay n k s r v i p))
  where
    go : (p : Played) → replay n k s r ≡ p → unless (stuck o p) a ≡ refusal (stopped o v i) → Stops n k s r v i
    go (ends z) q h = absurd (e h)
    go (refused u j) q h =
        let x : u ≡ v = cc in
        let y : j ≡ i = cc in
        let z : replay n k s r ≡ refused v i = cc in
        replay_stops n k s r v i z

-- a refusal that is no stopped step comes after the replay
pub after_replay : (o : Whose) (n : Net) (k : ℕ) (s : State) (r : List ℕ) (a : Answer) (x i : ℕ) → unless (stuck o (replay n k s r)) a ≡ refusal (other x i)
    → T (runs n s.marking r) × (a ≡ refusal (other x i))
after_replay o n k s r a x i h = go (replay n k s r) refl h
  where
    go : (p : Played) → replay n k s r ≡ p → unless (stuck o p) a ≡ refusal (other x i) → T (runs n s.marking r) × (a ≡ refusal (other x i))
    go (ends z) q h = ((runs_replay n k s z r q).0, h)
    go (refused v j) q h = absurd (let z : ◌≡◌ {A = ℕ} 0 1 = cc in omega arith)

-- ---- lift

module _ (n : Net) (l : Lifting) (k : ℕ) (s : State) (r : List ℕ) where
  pub lifting_run : (w : List ℕ) → lifting n l k s r ≡ run w → T (runs n s.marking r) × (repeated n l k s r ≡ none) × (w ≡ lifted n l s r)
  unfolding lifting
  lifting_run w h =
      let x = unless_run (stuck of_table (replay n k s r)) (unless (again (repeated n l k s r)) (run (lifted n l s r))) w h in
      let y = unless_run (again (repeated n l k s r)) (run (lifted n l s r)) w x.1 in
      (not_stuck of_table n k s r x.0, none_of (repeated n l k s r) y.0, let z = y.1 in cc)
    where
      none_of : (o : Option ℕ) → again o ≡ none → o ≡ none
      none_of none h = refl
      none_of (some i) h = absurd (let z : ◌≡◌ {A = ℕ} 0 1 = cc in omega arith)

  pub run_lifting : T (runs n s.marking r) → repeated n l k s r ≡ none → lifting n l k s r ≡ run (lifted n l s r)
  unfolding lifting
  run_lifting t o = rw (replay_runs n k s r t, o)

  pub lifting_again : (i : ℕ) → (lifting n l k s r ≡ refusal (other 15 i)) ↔ (T (runs n s.marking r) × (repeated n l k s r ≡ some i))
  unfolding lifting
  lifting_again i = (
    λ h. let x = after_replay of_table n k s r (unless (again (repeated n l k s r)) (run (lifted n l s r))) 15 i h in (x.0, some_of (repeated n l k s r) x.1),
    λ h. rw (replay_runs n k s r h.0, h.1),
  )
    where
      some_of : (o : Option ℕ) → unless (again o) (run (lifted n l s r)) ≡ refusal (other 15 i) → o ≡ some i
      some_of none h = absurd (let z : ◌≡◌ {A = ℕ} 0 1 = cc in omega arith)
      some_of (some j) h = let x : j ≡ i = cc in ap some x

  pub lifting_stopped : (v : Stop) (i : ℕ) → (lifting n l k s r ≡ refusal (stopped of_table v i)) ↔ Stops n k s r v i
  unfolding lifting
  lifting_stopped v i = stopped_exactly of_table n k s r (unless (again (repeated n l k s r)) (run (lifted n l s r))) v i (other_than (repeated n l k s r))
    where
      other_than : (o : Option ℕ) → unless (again o) (run (lifted n l s r)) ≡ refusal (stopped of_table v i) → ⊥
      other_than none h = let z : ◌≡◌ {A = ℕ} 0 1 = cc in omega arith
      other_than (some j) h = let z : ◌≡◌ {A = ℕ} 0 1 = cc in omega arith

-- ---- project

module _ (n : Net) (w : List ℕ) where
  pub projecting_run : (r : List ℕ) → projecting n w ≡ run r → T (runs (basic n) (begin (basic n)) w) × (read_back n w ≡ r)
  unfolding projecting opening
  projecting_run r h =
      let x = unless_run (stuck of_unfolding (replay (basic n) 0 (opening (basic n)) w)) (run (read_back n w)) r h in
      (not_stuck of_unfolding (basic n) 0 (opening (basic n)) w x.0, let z = x.1 in cc)

  pub run_projecting : T (runs (basic n) (begin (basic n)) w) → projecting n w ≡ run (read_back n w)
  unfolding projecting opening
  run_projecting t = rw (replay_runs (basic n) 0 (opening (basic n)) w t)

  pub projecting_stopped : (v : Stop) (i : ℕ) → (projecting n w ≡ refusal (stopped of_unfolding v i)) ↔ Stops (basic n) 0 (opening (basic n)) w v i
  unfolding projecting
  projecting_stopped v i = stopped_exactly of_unfolding (basic n) 0 (opening (basic n)) w (run (read_back n w)) v i (λ h. let z : ◌≡◌ {A = ℕ} 0 1 = cc in omega arith)

-- ---- exchange

module _ (n : Net) (r : List ℕ) (k : ℕ) where
  pub exchanging_run : (q : List ℕ) → exchanging n r k ≡ run q
      → T (runs n (begin n) r) × (suc k < length r) × T (apart_step n (begin n) r k) × (q ≡ exchanged k r)
  unfolding exchanging opening no_step not_apart
  exchanging_run q h =
      let x = unless_run (stuck of_table (replay n 0 (opening n) r)) (unless (no_step r k) (unless (not_apart n r k) (run (exchanged k r)))) q h in
      let y = unless_run (no_step r k) (unless (not_apart n r k) (run (exchanged k r))) q x.1 in
      let z = unless_run (not_apart n r k) (run (exchanged k r)) q y.1 in (
        not_stuck of_table n 0 (opening n) r x.0,
        ltb→lt (suc k) (length r) (T_of (ltb (suc k) (length r)) (passed (ltb (suc k) (length r)) (other 10 k) y.0)),
        T_of (apart_step n (begin n) r k) (passed (apart_step n (begin n) r k) (other 17 k) z.0),
        let s = z.1 in cc,
      )

  pub run_exchanging : T (runs n (begin n) r) → suc k < length r → T (apart_step n (begin n) r k) → exchanging n r k ≡ run (exchanged k r)
  unfolding exchanging opening no_step not_apart
  run_exchanging t h a =
      rw (replay_runs n 0 (opening n) r t, is_true (ltb (suc k) (length r)) (lt→ltb (suc k) (length r) h), is_true (apart_step n (begin n) r k) a)

  pub exchanging_no_step : (exchanging n r k ≡ refusal (other 10 k)) ↔ (T (runs n (begin n) r) × (suc k < length r → ⊥))
  unfolding exchanging opening no_step not_apart
  exchanging_no_step = (
    λ h.
        let x = after_replay of_table n 0 (opening n) r (unless (no_step r k) (unless (not_apart n r k) (run (exchanged k r)))) 10 k h in
        (x.0, λ l. not-true (ltb (suc k) (length r)) (none_there (ltb (suc k) (length r)) (apart_step n (begin n) r k) x.1) (lt→ltb (suc k) (length r) l)),
    λ h. rw (replay_runs n 0 (opening n) r h.0, is_false (ltb (suc k) (length r)) (λ x. h.1 (ltb→lt (suc k) (length r) x))),
  )
    where
      none_there : (a b : Bool) → unless (cond a none (some (other 10 k))) (unless (cond b none (some (other 17 k))) (run (exchanged k r))) ≡ refusal (other 10 k) → a ≡ false
      none_there false b h = refl
      none_there true true h = absurd (let z : ◌≡◌ {A = ℕ} 0 1 = cc in omega arith)
      none_there true false h = absurd (let z : ◌≡◌ {A = ℕ} 17 10 = cc in omega arith)

  pub exchanging_not_apart : (exchanging n r k ≡ refusal (other 17 k)) ↔ (T (runs n (begin n) r) × (suc k < length r) × (apart_step n (begin n) r k ≡ false))
  unfolding exchanging opening no_step not_apart
  exchanging_not_apart = (
    λ h.
        let x = after_replay of_table n 0 (opening n) r (unless (no_step r k) (unless (not_apart n r k) (run (exchanged k r)))) 17 k h in
        let y = both_there (ltb (suc k) (length r)) (apart_step n (begin n) r k) x.1 in
        (x.0, ltb→lt (suc k) (length r) (T_of (ltb (suc k) (length r)) y.0), y.1),
    λ h. rw (replay_runs n 0 (opening n) r h.0, is_true (ltb (suc k) (length r)) (lt→ltb (suc k) (length r) h.1), h.2),
  )
    where
      both_there : (a b : Bool) → unless (cond a none (some (other 10 k))) (unless (cond b none (some (other 17 k))) (run (exchanged k r))) ≡ refusal (other 17 k) → (a ≡ true) × (b ≡ false)
      both_there false b h = absurd (let z : ◌≡◌ {A = ℕ} 10 17 = cc in omega arith)
      both_there true true h = absurd (let z : ◌≡◌ {A = ℕ} 0 1 = cc in omega arith)
      both_there true false h = (refl, refl)

  pub exchanging_stopped : (v : Stop) (i : ℕ) → (exchanging n r k ≡ refusal (stopped of_table v i)) ↔ Stops n 0 (opening n) r v i
  unfolding exchanging no_step not_apart
  exchanging_stopped v i =
      stopped_exactly of_table n 0 (opening n) r (unless (no_step r k) (unless (not_apart n r k) (run (exchanged k r)))) v i (other_than (ltb (suc k) (length r)) (apart_step n (begin n) r k))
    where
      other_than : (a b : Bool) → unless (cond a none (some (other 10 k))) (unless (cond b none (some (other 17 k))) (run (exchanged k r))) ≡ refusal (stopped of_table v i) → ⊥
      other_than false b h = let z : ◌≡◌ {A = ℕ} 0 1 = cc in omega arith
      other_than true true h = let z : ◌≡◌ {A = ℕ} 0 1 = cc in omega arith
      other_than true false h = let z : ◌≡◌ {A = ℕ} 0 1 = cc in omega arith

-- ---- the limit of steps

pub short_length : (r : List ℕ) → too_long r ≡ none → length r ≤ most_steps
unfolding too_long
short_length r h = leb-true (length r) most_steps (passed (leb (length r) most_steps) (other 3 0) h)

pub length_short : (r : List ℕ) → length r ≤ most_steps → too_long r ≡ none
unfolding too_long
length_short r h = rw (le-leb (length r) most_steps h)
