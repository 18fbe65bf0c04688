-- Replay: a run is replayed to the state after it, and a refused replay stops exactly where it says.
use mathlib.Core.Path.{◌≡◌, refl, sym, ◌∙◌, ap, subst}
use mathlib.Core.Bool.{◌&&◌}
use mathlib.Core.Option.{Option, none, some}
use mathlib.Core.List.{List, [], ◌∷◌, ◌++◌}
use Prim.Native.Nat.{ℕ, suc, ◌+◌}
use lib.Dec.{T}
use lib.ListN.{length}
use native.Mathlib.Nat.{add-zero, add-suc, suc-add}
use native.Mathlib.Omega.{arith}
use Rattle.lists.proofs.Bools.{and_both}
use Rattle.model.specs.Net.{Net, can, fire, Stop, stopping}
use Rattle.model.specs.Runs.{runs, end, State, step, after, Played, ends, refused, replay}
use Rattle.model.specs.Demands.{Stops}
use Rattle.model.proofs.Firing.{runs_first, runs_rest, none_can, can_none}

pub replay_runs : (n : Net) (k : ℕ) (s : State) (r : List ℕ) → T (runs n s.marking r) → replay n k s r ≡ ends (after n s r)
unfolding replay after step
replay_runs n k s [] t = refl
replay_runs n k s (e ∷ r) t =
    rw (can_none n s.marking e (runs_first n s.marking e r t), replay) (replay_runs n (suc k) (step n s e) r (runs_rest n s.marking e r t))

-- what is replayed is a run, and ends in the state after it
pub runs_replay : (n : Net) (k : ℕ) (s t : State) (r : List ℕ) → replay n k s r ≡ ends t → T (runs n s.marking r) × (t ≡ after n s r)
unfolding replay runs after step
runs_replay n k s t [] h = (tt, cc)
runs_replay n k s t (e ∷ r) h = go (stopping n s.marking e) refl h (runs_replay n (suc k) (step n s e) t r)
  where
    go : (x : Option Stop) → stopping n s.marking e ≡ x → ◌≡◌ {A = Played} (elim x [ none ↦ replay n (suc k) (step n s e) r | some v ↦ refused v k ]) (ends t)
        → (replay n (suc k) (step n s e) r ≡ ends t → T (runs n (fire n s.marking e) r) × (t ≡ after n (step n s e) r))
        → T (can n s.marking e && runs n (fire n s.marking e) r) × (t ≡ after n (step n s e) r)
    go none q h ih = let i = ih h in (and_both (can n s.marking e) (runs n (fire n s.marking e) r) (none_can n s.marking e q) i.0, i.1)
    go (some v) q h ih = absurd (let z : ◌≡◌ {A = ℕ} 0 1 = cc in omega arith)

-- a refused replay stops at the step that it names
pub replay_stops : (n : Net) (k : ℕ) (s : State) (r : List ℕ) (v : Stop) (i : ℕ) → replay n k s r ≡ refused v i → Stops n k s r v i
unfolding replay end runs step
replay_stops n k s [] v i h = absurd (let z : ◌≡◌ {A = ℕ} 0 1 = cc in omega arith)
replay_stops n k s (e ∷ r) v i h = go (stopping n s.marking e) refl h (λ q. replay_stops n (suc k) (step n s e) r v i q)
  where
    go : (x : Option Stop) → stopping n s.marking e ≡ x → ◌≡◌ {A = Played} (elim x [ none ↦ replay n (suc k) (step n s e) r | some v ↦ refused v k ]) (refused v i)
        → (replay n (suc k) (step n s e) r ≡ refused v i → Stops n (suc k) (step n s e) r v i) → Stops n k s (e ∷ r) v i
    go none q h ih =
        let x = ih h in
        record {
          before = e ∷ x.before;
          event = x.event;
          rest = x.rest;
          splits = ap {B = List ℕ} (λ z. e ∷ z) x.splits;
          place = omega (arith, x.place);
          plays = and_both (can n s.marking e) (runs n (fire n s.marking e) x.before) (none_can n s.marking e q) x.plays;
          stops = x.stops;
        }
    go (some w) q h ih =
        let x : w ≡ v = cc in
        let y : k ≡ i = cc in
        record { before = []; event = e; rest = r; splits = refl; place = omega arith; plays = tt; stops = q ∙ ap some x }

-- ---- step by step

pub replay_go : (n : Net) (k : ℕ) (s : State) (e : ℕ) (r : List ℕ) → stopping n s.marking e ≡ none → replay n k s (e ∷ r) ≡ replay n (suc k) (step n s e) r
unfolding replay
replay_go n k s e r h = rw (h, replay)

pub replay_stop : (n : Net) (k : ℕ) (s : State) (e : ℕ) (r : List ℕ) (v : Stop) → stopping n s.marking e ≡ some v → replay n k s (e ∷ r) ≡ refused v k
unfolding replay
replay_stop n k s e r v h = rw (h, replay)

-- what stops a step after a run is what the replay tells
stop_at : (n : Net) (k : ℕ) (s : State) (b : List ℕ) (e : ℕ) (q : List ℕ) (v : Stop) → T (runs n s.marking b) → stopping n (end n s.marking b) e ≡ some v
    → replay n k s (b ++ e ∷ q) ≡ refused v (k + length b)
unfolding end step
stop_at n k s [] e q v t h = rw add-zero (replay_stop n k s e q v h)
stop_at n k s (x ∷ b) e q v t h =
    replay_go n k s x (b ++ e ∷ q) (can_none n s.marking x (runs_first n s.marking x b t))
    ∙ (rw (suc-add, ← add-suc) at (stop_at n (suc k) (step n s x) b e q v (runs_rest n s.marking x b t) h))

pub stops_replay : (n : Net) (k : ℕ) (s : State) (r : List ℕ) (v : Stop) (i : ℕ) → Stops n k s r v i → replay n k s r ≡ refused v i
stops_replay n k s r v i p =
    subst (λ (r : List ℕ). replay n k s r ≡ refused v i) (sym p.splits)
    (stop_at n k s p.before p.event p.rest v p.plays p.stops ∙ ap (refused v) (sym p.place))
