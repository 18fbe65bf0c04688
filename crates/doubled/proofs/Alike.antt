-- A net of ordinary conditions and its doubled net have the same runs, and end in a marking and tokens that mirror it.
use mathlib.Core.Path.{◌≡◌, refl, subst}
use mathlib.Core.Bool.{Bool, true, false, not, ◌&&◌}
use mathlib.Core.List.{List, [], ◌∷◌}
use Prim.Native.Nat.{ℕ, ◌+◌, ◌-◌, ◌≤◌, ◌<◌}
use lib.Dec.{T}
use native.Mathlib.Decide.{dec_le}
use native.Mathlib.Nat.{lt_of_not-le}
use native.Mathlib.Omega.{arith}
use Rattle.lists.proofs.Bools.{T_of}
use Rattle.model.specs.Net.{Net, Sound, Marking, begin, can, fire}
use Rattle.model.specs.Runs.{runs, end}
use Rattle.model.proofs.Firing.{runs_first, runs_rest}
use Rattle.doubled.specs.Plain.{Tokens, initially, enabled, moved, plays, reached}
use Rattle.doubled.specs.Doubling.{second, doubled, token, Mirrors, StepsAlike, PlaysAlike}
use Rattle.doubled.proofs.Mirroring.{begins_mirrored, steps_alike}

-- ---- tokens that mirror a marking

module _ (n : Net) (m : Marking) (k : Tokens) (q : Mirrors n m k) where
  -- no place has more than one
  mirrors_safe : (x : ℕ) → x < (doubled n).places → k x ≤ 1
  unfolding doubled
  mirrors_safe x h = go (dec_le n.conditions x)
    where
      most : (t : Bool) → token t ≤ 1
      most true = omega arith
      most false = omega arith

      go : Dec (n.conditions ≤ x) → k x ≤ 1
      go (yes l) =
          let e : second n (x - n.conditions) ≡ x = omega arith in
          subst (λ (x : ℕ). k x ≤ 1) e (rw (q.second_place (x - n.conditions) (omega arith)) (most (not (m (x - n.conditions)))))
      go (no l) = rw (q.first_place x (lt_of_not-le l)) (most (m x))

  -- the two places of a condition have one between them
  mirrors_one : (b : ℕ) → b < n.conditions → k b + k (second n b) ≡ 1
  mirrors_one b h = rw (q.first_place b h, q.second_place b h) (one (m b))
    where
      one : (t : Bool) → token t + token (not t) ≡ 1
      one true = refl
      one false = refl

-- ---- runs

module _ (n : Net) (s : Sound n) (o : (b : ℕ) → n.persistent b ≡ false) where
  plays_from : (m : Marking) (k : Tokens) → Mirrors n m k → (r : List ℕ) → plays (doubled n) k r ≡ runs n m r
  unfolding plays runs
  plays_from m k q [] = refl
  plays_from m k q (e ∷ r) = go (can n m e) refl (λ t. plays_from (fire n m e) (moved (doubled n) k e) (step.after t) r)
    where
      step : StepsAlike n m k e
      step = steps_alike n s o m k q e

      go : (c : Bool) → can n m e ≡ c → (T (can n m e) → plays (doubled n) (moved (doubled n) k e) r ≡ runs n (fire n m e) r)
          → (enabled (doubled n) k e && plays (doubled n) (moved (doubled n) k e) r) ≡ (can n m e && runs n (fire n m e) r)
      go true c ih = rw (step.both, c) (ih (T_of (can n m e) c))
      go false c ih = rw (step.both, c)

  ends_from : (m : Marking) (k : Tokens) → Mirrors n m k → (r : List ℕ) → T (runs n m r) → Mirrors n (end n m r) (reached (doubled n) k r)
  unfolding end reached
  ends_from m k q [] t = q
  ends_from m k q (e ∷ r) t =
      ends_from (fire n m e) (moved (doubled n) k e) ((steps_alike n s o m k q e).after (runs_first n m e r t)) r (runs_rest n m e r t)

-- A net of ordinary conditions and its doubled net play alike.
pub plays_alike : (n : Net) → Sound n → ((b : ℕ) → n.persistent b ≡ false) → (r : List ℕ) → PlaysAlike n r
plays_alike n s o r =
    record {
      both = plays_from n s o (begin n) (initially (doubled n)) (begins_mirrored n s) r;
      ends = ends;
      safe = λ t. mirrors_safe n (end n (begin n) r) (reached (doubled n) (initially (doubled n)) r) (ends t);
    }
  where
    ends : T (runs n (begin n) r) → Mirrors n (end n (begin n) r) (reached (doubled n) (initially (doubled n)) r)
    ends t = ends_from n s o (begin n) (initially (doubled n)) (begins_mirrored n s) r t

-- After every list that the doubled net plays, a condition's two places hold one token between them.
pub one_token : (n : Net) → Sound n → ((b : ℕ) → n.persistent b ≡ false) → (r : List ℕ) → T (plays (doubled n) (initially (doubled n)) r)
    → (b : ℕ) → b < n.conditions
    → reached (doubled n) (initially (doubled n)) r b + reached (doubled n) (initially (doubled n)) r (second n b) ≡ 1
one_token n s o r t b h =
    let p = plays_alike n s o r in
    mirrors_one n (end n (begin n) r) (reached (doubled n) (initially (doubled n)) r) (p.ends (subst T p.both t)) b h
