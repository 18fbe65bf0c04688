-- Concession and firing at one condition: what every later theorem uses of the rule.
use mathlib.Core.Path.{◌≡◌, refl, ◌∙◌, ap, subst}
use mathlib.Core.Bool.{Bool, true, false, not, ◌&&◌, ◌||◌, and-true, and-false}
use mathlib.Core.Logic.{◌⊎◌, inl, inr}
use mathlib.Core.Option.{Option, none, some}
use mathlib.Core.List.Memᴰ
use mathlib.Core.List.{List, [], ◌∷◌, ◌++◌}
use Prim.Native.Nat.{ℕ, ◌<◌}
use lib.Dec.{T, ltb, ltb→lt}
use lib.ListN.{length, get_or}
use native.Mathlib.Omega.{arith}
use Rattle.lists.specs.Lists.{mem, nothing, ◌∈◌}
use Rattle.lists.proofs.Bools.{T_of, and_left, and_right, and_both, or_left, or_right, or_none, imp_or}
use Rattle.lists.proofs.Tests.{failing_at, failing_of_lem}
use Rattle.lists.proofs.Places.{in_at, at_some}
use Rattle.model.specs.Net.{Net, Marking, lacking, free, contact, concession, can, fire, first_stop, stopping}
use Rattle.model.specs.Runs.{runs, end}

-- ---- a run, step by step

pub runs_first : (n : Net) (m : Marking) (e : ℕ) (r : List ℕ) → T (runs n m (e ∷ r)) → T (can n m e)
unfolding runs
runs_first n m e r t = and_left (can n m e) (runs n (fire n m e) r) t

pub runs_rest : (n : Net) (m : Marking) (e : ℕ) (r : List ℕ) → T (runs n m (e ∷ r)) → T (runs n (fire n m e) r)
unfolding runs
runs_rest n m e r t = and_right (can n m e) (runs n (fire n m e) r) t

pub runs_cons : (n : Net) (m : Marking) (e : ℕ) (r : List ℕ) → T (can n m e) → T (runs n (fire n m e) r) → T (runs n m (e ∷ r))
unfolding runs
runs_cons n m e r s t = and_both (can n m e) (runs n (fire n m e) r) s t

pub can_event : (n : Net) (m : Marking) (e : ℕ) → T (can n m e) → T (ltb e n.events)
unfolding can
can_event n m e t = and_left (ltb e n.events) (concession n m e) t

pub can_concession : (n : Net) (m : Marking) (e : ℕ) → T (can n m e) → T (concession n m e)
unfolding can
can_concession n m e t = and_right (ltb e n.events) (concession n m e) t

pub can_of : (n : Net) (m : Marking) (e : ℕ) → T (ltb e n.events) → T (concession n m e) → T (can n m e)
unfolding can
can_of n m e s t = and_both (ltb e n.events) (concession n m e) s t

-- one step more
pub runs_snoc : (n : Net) (m : Marking) (a : List ℕ) (e : ℕ) → T (runs n m a) → T (can n (end n m a) e) → T (runs n m (a ++ e ∷ []))
unfolding runs end
runs_snoc n m [] e t c = and_both (can n m e) true c tt
runs_snoc n m (x ∷ a) e t c = runs_cons n m x (a ++ e ∷ []) (runs_first n m x a t) (runs_snoc n (fire n m x) a e (runs_rest n m x a t) c)

-- the steps before and the steps after a place
pub runs_before : (n : Net) (m : Marking) (a r : List ℕ) → T (runs n m (a ++ r)) → T (runs n m a)
unfolding runs
runs_before n m [] r t = tt
runs_before n m (x ∷ a) r t = runs_cons n m x a (runs_first n m x (a ++ r) t) (runs_before n (fire n m x) a r (runs_rest n m x (a ++ r) t))

pub runs_after : (n : Net) (m : Marking) (a r : List ℕ) → T (runs n m (a ++ r)) → T (runs n (end n m a) r)
unfolding end
runs_after n m [] r t = t
runs_after n m (x ∷ a) r t = runs_after n (fire n m x) a r (runs_rest n m x (a ++ r) t)

-- each step is an event of the net
pub runs_events : (n : Net) (m : Marking) (r : List ℕ) → T (runs n m r) → (e : ℕ) → e ∈ r → e < n.events
runs_events n m [] t e i = absurd (Memᴰ.not-nil i)
runs_events n m (x ∷ r) t e i = go (Memᴰ.cases_cons i) (runs_events n (fire n m x) r (runs_rest n m x r t) e)
  where
    go : (e ≡ x) ⊎ (e ∈ r) → (e ∈ r → e < n.events) → e < n.events
    go (inl q) ih = rw q (ltb→lt x n.events (can_event n m x (runs_first n m x r t)))
    go (inr j) ih = ih j

pub runs_event : (n : Net) (m : Marking) (r : List ℕ) (k : ℕ) → T (runs n m r) → k < length r → get_or r k 0 < n.events
runs_event n m r k t h = runs_events n m r t (get_or r k 0) (in_at r k (at_some r k 0 h))

-- ---- which postconditions are free: all that is used of the rule of contact

pub free_persistent : (n : Net) (e b : ℕ) → n.persistent b ≡ true → T (free n e b)
unfolding free
free_persistent n e b p = or_left (n.persistent b) (mem b (n.preconditions e) && not (n.old b)) (T_of (n.persistent b) p)

pub free_pre : (n : Net) (e b : ℕ) → n.persistent b ≡ false → T (free n e b) → T (mem b (n.preconditions e))
unfolding free
free_pre n e b p t =
    and_left (mem b (n.preconditions e)) (not (n.old b)) (subst (λ (x : Bool). T (x || mem b (n.preconditions e) && not (n.old b))) p t)

-- by the paper's rule, at a condition that follows it
pub free_taken : (n : Net) (e b : ℕ) → n.old b ≡ false → free n e b ≡ (n.persistent b || mem b (n.preconditions e))
unfolding free
free_taken n e b q = rw q (ap (λ (x : Bool). n.persistent b || x) (and-true (mem b (n.preconditions e))))

-- by the old rule, likewise
pub free_never : (n : Net) (e b : ℕ) → n.old b ≡ true → free n e b ≡ n.persistent b
unfolding free
free_never n e b q = rw q (ap (λ (x : Bool). n.persistent b || x) (and-false (mem b (n.preconditions e))) ∙ or_none (n.persistent b))

-- ---- concession, used and shown at one condition

module _ (n : Net) (m : Marking) (e : ℕ) where
  pub pre_holds : T (concession n m e) → (b : ℕ) → T (mem b (n.preconditions e)) → T (m b)
  unfolding concession lacking
  pre_holds t b h = failing_at m (n.preconditions e) (and_left (nothing (lacking n m e)) (nothing (contact n m e)) t) b h

  -- a postcondition that holds is free
  pub unblocked : T (concession n m e) → (b : ℕ) → T (mem b (n.postconditions e)) → T (m b) → T (free n e b)
  unfolding concession contact
  unblocked t b h k =
      imp_or (m b) (free n e b) k
      (failing_at (λ b. not (m b) || free n e b) (n.postconditions e) (and_right (nothing (lacking n m e)) (nothing (contact n m e)) t) b h)

  clear_at : (p x a : Bool) → (p ≡ true → T a) → (p ≡ false → T x → T a) → T (not x || a)
  clear_at true true a k f = k refl
  clear_at true false a k f = tt
  clear_at false true a k f = f refl tt
  clear_at false false a k f = tt

  pub concession_intro : ((b : ℕ) → T (mem b (n.preconditions e)) → T (m b))
      → ((b : ℕ) → T (mem b (n.postconditions e)) → n.persistent b ≡ false → T (m b) → T (free n e b)) → T (concession n m e)
  unfolding concession lacking contact
  concession_intro f g =
      and_both (nothing (lacking n m e)) (nothing (contact n m e)) (failing_of_lem m (n.preconditions e) f)
      (failing_of_lem (λ b. not (m b) || free n e b) (n.postconditions e)
      (λ b h. clear_at (n.persistent b) (m b) (free n e b) (free_persistent n e b) (g b h)))

  -- ---- firing at one condition
  pub fire_stays : (b : ℕ) → n.persistent b ≡ true → T (m b) → T (fire n m e b)
  unfolding fire
  fire_stays b p t =
      or_right (mem b (n.postconditions e)) (m b && (n.persistent b || not (mem b (n.preconditions e))))
      (and_both (m b) (n.persistent b || not (mem b (n.preconditions e))) t (or_left (n.persistent b) (not (mem b (n.preconditions e))) (T_of (n.persistent b) p)))

  pub fire_puts : (b : ℕ) → T (mem b (n.postconditions e)) → T (fire n m e b)
  unfolding fire
  fire_puts b t = or_left (mem b (n.postconditions e)) (m b && (n.persistent b || not (mem b (n.preconditions e)))) t

  pub fire_none : (b : ℕ) → mem b (n.postconditions e) ≡ false → m b ≡ false → fire n m e b ≡ false
  unfolding fire
  fire_none b p q = rw (p, q)

-- ---- nothing stops exactly what can fire

pub none_can : (n : Net) (m : Marking) (e : ℕ) → stopping n m e ≡ none → T (can n m e)
unfolding stopping can concession
none_can n m e h = go (ltb e n.events) (lacking n m e) (contact n m e) h
  where
    go : (a : Bool) (b c : Option ℕ) → first_stop a b c ≡ none → T (a && (nothing b && nothing c))
    go true none none h = tt
    go true none (some x) h = absurd (let z : ◌≡◌ {A = ℕ} 0 1 = cc in omega arith)
    go true (some x) c h = absurd (let z : ◌≡◌ {A = ℕ} 0 1 = cc in omega arith)
    go false b c h = absurd (let z : ◌≡◌ {A = ℕ} 0 1 = cc in omega arith)

pub can_none : (n : Net) (m : Marking) (e : ℕ) → T (can n m e) → stopping n m e ≡ none
unfolding stopping can concession
can_none n m e h = go (ltb e n.events) (lacking n m e) (contact n m e) h
  where
    go : (a : Bool) (b c : Option ℕ) → T (a && (nothing b && nothing c)) → first_stop a b c ≡ none
    go true none none h = refl
    go true none (some x) h = absurd h
    go true (some x) c h = absurd h
    go false b c h = absurd h
