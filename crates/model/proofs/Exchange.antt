-- Demand 3 on the table: neighbouring steps that may change places.
use mathlib.Core.Path.{◌≡◌, refl, ap, subst, fun_ext}
use mathlib.Core.Option.{none}
use mathlib.Core.Bool.{Bool, not, ◌&&◌, ◌||◌}
use mathlib.Core.List.{List, [], ◌∷◌}
use Prim.Native.Nat.{ℕ, zero, suc, ◌<◌}
use lib.Dec.{T, eqb, T_not, eqb→eq, eqb_refl}
use lib.ListN.{length}
use native.Mathlib.Nat.{not-suc-le-zero, le_of_suc-le-suc}
use Rattle.lists.specs.Lists.{mem, all, ◌⇒◌, same}
use Rattle.lists.proofs.Bools.{is_true, same_eq, not_in, and_left, and_right, and_both, and4, imp_elim, imp_intro, imp5, imp_or, or_imp, every, every_at}
use Rattle.lists.proofs.Members.{mem_append}
use Rattle.lists.proofs.Tests.{all_at, all_of}
use Rattle.model.specs.Net.{Net, Marking, free, concession, fire}
use Rattle.model.specs.Runs.{runs, end}
use Rattle.model.specs.Exchange.{touch, apart, apart_step, exchanged}
use Rattle.model.specs.Across.{too_long}
use Rattle.model.proofs.Firing.{runs_first, runs_rest, runs_cons, can_event, can_concession, can_of, free_persistent, pre_holds, unblocked, concession_intro}

-- the premises, one by one
pub record Apart (n : Net) (m : Marking) (e f : ℕ) : Type 0 where
  pub differ : e ≡ f → ⊥
  pub disjoint : (b : ℕ) → T (mem b (touch n e)) → T (mem b (touch n f)) → T (n.persistent b)
  pub held : (b : ℕ) → T (mem b (n.preconditions f)) → T (n.persistent b) → T (m b)
  pub once : (b : ℕ) → T (mem b (n.postconditions e)) → T (n.persistent b) → T (mem b (n.postconditions f)) → T (m b)

pub apart_parts : (n : Net) (m : Marking) (e f : ℕ) → T (apart n m e f) → Apart n m e f
unfolding apart
apart_parts n m e f t =
    let no_other = all (λ b. mem b (touch n f) ⇒ n.persistent b) (touch n e) in
    let held = all (λ b. n.persistent b ⇒ m b) (n.preconditions f) in
    let once = all (λ b. n.persistent b && mem b (n.postconditions f) ⇒ m b) (n.postconditions e) in
    let r = and4 (not (eqb e f)) no_other held once t in
    record {
      differ = λ q. T_not (eqb e f) r.0 (subst (λ (x : ℕ). T (eqb e x)) q (eqb_refl e));
      disjoint = λ b x. imp_elim (mem b (touch n f)) (n.persistent b)
          (all_at (λ b. mem b (touch n f) ⇒ n.persistent b) (touch n e) r.1 b x);
      held = λ b x. imp_elim (n.persistent b) (m b) (all_at (λ b. n.persistent b ⇒ m b) (n.preconditions f) r.2 b x);
      once = λ b x y z. imp_elim (n.persistent b && mem b (n.postconditions f)) (m b)
          (all_at (λ b. n.persistent b && mem b (n.postconditions f) ⇒ m b) (n.postconditions e) r.3 b x)
          (and_both (n.persistent b) (mem b (n.postconditions f)) y z);
    }

-- and the test passes where they hold
pub parts_apart : (n : Net) (m : Marking) (e f : ℕ) → Apart n m e f → T (apart n m e f)
unfolding apart
parts_apart n m e f p =
    let no_other = all (λ b. mem b (touch n f) ⇒ n.persistent b) (touch n e) in
    let held = all (λ b. n.persistent b ⇒ m b) (n.preconditions f) in
    let once = all (λ b. n.persistent b && mem b (n.postconditions f) ⇒ m b) (n.postconditions e) in
    let differ = not_in (eqb e f) (λ q. p.differ (eqb→eq e f q)) in
    and_both (not (eqb e f) && no_other && held) once
    (and_both (not (eqb e f) && no_other) held
    (and_both (not (eqb e f)) no_other differ
    (all_of (λ b. mem b (touch n f) ⇒ n.persistent b) (touch n e) (λ b x. imp_intro (mem b (touch n f)) (n.persistent b) (p.disjoint b x))))
    (all_of (λ b. n.persistent b ⇒ m b) (n.preconditions f) (λ b x. imp_intro (n.persistent b) (m b) (p.held b x))))
    (all_of (λ b. n.persistent b && mem b (n.postconditions f) ⇒ m b) (n.postconditions e)
    (λ b x. imp_intro (n.persistent b && mem b (n.postconditions f)) (m b) (λ y.
    p.once b x (and_left (n.persistent b) (mem b (n.postconditions f)) y) (and_right (n.persistent b) (mem b (n.postconditions f)) y))))

-- ---- at one condition: holding, before and after the event, free
abbrev pub ok_at : Bool → Bool → Bool → Bool → Bool
ok_at m a z w = (a ⇒ m) && (z ⇒ (not m || w))

abbrev pub fire_at : Bool → Bool → Bool → Bool → Bool
fire_at p m a z = z || m && (p || not a)

-- both may fire in the one order, and the premises: then in the other order, with the same end
abbrev swap_at : Bool → Bool → Bool → Bool → Bool → Bool → Bool → Bool → Bool
swap_at p m a z w a₂ z₂ w₂ =
    (p ⇒ w && w₂) ⇒ ok_at m a z w ⇒ ok_at (fire_at p m a z) a₂ z₂ w₂ ⇒ ((a || z) ⇒ (a₂ || z₂) ⇒ p) ⇒ (a₂ ⇒ p ⇒ m) ⇒ (z ⇒ p && z₂ ⇒ m)
    ⇒ ok_at m a₂ z₂ w₂ && (ok_at (fire_at p m a₂ z₂) a z w
    && same (fire_at p (fire_at p m a₂ z₂) a z) (fire_at p (fire_at p m a z) a₂ z₂))

swap_all : T (every λ p. every λ m. every λ a. every λ z. every λ w. every λ a₂. every λ z₂. every λ w₂. swap_at p m a z w a₂ z₂ w₂)
swap_all = tt

swap_at_lem : (p m a z w a₂ z₂ w₂ : Bool) → T (swap_at p m a z w a₂ z₂ w₂)
swap_at_lem p m a z w a₂ z₂ w₂ =
    every_at (λ w₂. swap_at p m a z w a₂ z₂ w₂) (every_at (λ z₂. every λ w₂. swap_at p m a z w a₂ z₂ w₂)
    (every_at (λ a₂. every λ z₂. every λ w₂. swap_at p m a z w a₂ z₂ w₂)
    (every_at (λ w. every λ a₂. every λ z₂. every λ w₂. swap_at p m a z w a₂ z₂ w₂)
    (every_at (λ z. every λ w. every λ a₂. every λ z₂. every λ w₂. swap_at p m a z w a₂ z₂ w₂)
    (every_at (λ a. every λ z. every λ w. every λ a₂. every λ z₂. every λ w₂. swap_at p m a z w a₂ z₂ w₂)
    (every_at (λ m. every λ a. every λ z. every λ w. every λ a₂. every λ z₂. every λ w₂. swap_at p m a z w a₂ z₂ w₂)
    (every_at (λ p. every λ m. every λ a. every λ z. every λ w. every λ a₂. every λ z₂. every λ w₂. swap_at p m a z w a₂ z₂ w₂) swap_all p) m) a) z) w) a₂) z₂) w₂

module _ (p m a z w a₂ z₂ w₂ : Bool) where
  abbrev fine : Bool
  fine = ok_at m a₂ z₂ w₂

  abbrev fine₂ : Bool
  fine₂ = ok_at (fire_at p m a₂ z₂) a z w

  abbrev alike : Bool
  alike = same (fire_at p (fire_at p m a₂ z₂) a z) (fire_at p (fire_at p m a z) a₂ z₂)

  abbrev rest : Bool
  rest = ok_at m a z w ⇒ ok_at (fire_at p m a z) a₂ z₂ w₂ ⇒ ((a || z) ⇒ (a₂ || z₂) ⇒ p) ⇒ (a₂ ⇒ p ⇒ m) ⇒ (z ⇒ p && z₂ ⇒ m) ⇒ (fine && (fine₂ && alike))

  swap_use : T (p ⇒ w && w₂) → T (ok_at m a z w) → T (ok_at (fire_at p m a z) a₂ z₂ w₂) → T ((a || z) ⇒ (a₂ || z₂) ⇒ p) → T (a₂ ⇒ p ⇒ m) → T (z ⇒ p && z₂ ⇒ m)
      → T fine × T fine₂ × (fire_at p (fire_at p m a₂ z₂) a z ≡ fire_at p (fire_at p m a z) a₂ z₂)
  swap_use f c d u v x =
      let r = imp5 (ok_at m a z w) (ok_at (fire_at p m a z) a₂ z₂ w₂) ((a || z) ⇒ (a₂ || z₂) ⇒ p) (a₂ ⇒ p ⇒ m) (z ⇒ p && z₂ ⇒ m) (fine && (fine₂ && alike))
      (imp_elim (p ⇒ w && w₂) rest (swap_at_lem p m a z w a₂ z₂ w₂) f) c d u v x in
      let q = and_right fine (fine₂ && alike) r in (
        and_left fine (fine₂ && alike) r,
        and_left fine₂ alike q,
        same_eq (fire_at p (fire_at p m a₂ z₂) a z) (fire_at p (fire_at p m a z) a₂ z₂) (and_right fine₂ alike q),
      )

-- ---- from the lists to one condition, and back
module _ (n : Net) where
  -- concession at one condition
  abbrev pub ok : Marking → ℕ → ℕ → Bool
  ok m e b = ok_at (m b) (mem b (n.preconditions e)) (mem b (n.postconditions e)) (free n e b)

  pub concession_at : (m : Marking) (e : ℕ) → T (concession n m e) → (b : ℕ) → T (ok m e b)
  concession_at m e t b =
      and_both (mem b (n.preconditions e) ⇒ m b) (mem b (n.postconditions e) ⇒ (not (m b) || free n e b))
      (imp_intro (mem b (n.preconditions e)) (m b) (pre_holds n m e t b))
      (imp_intro (mem b (n.postconditions e)) (not (m b) || free n e b) (λ h. or_imp (m b) (free n e b) (unblocked n m e t b h)))

  pub concession_of_lem : (m : Marking) (e : ℕ) → ((b : ℕ) → T (ok m e b)) → T (concession n m e)
  concession_of_lem m e h =
      concession_intro n m e
      (λ b. imp_elim (mem b (n.preconditions e)) (m b) (and_left (mem b (n.preconditions e) ⇒ m b) (mem b (n.postconditions e) ⇒ (not (m b) || free n e b)) (h b)))
      (λ b t p k. imp_or (m b) (free n e b) k (imp_elim (mem b (n.postconditions e)) (not (m b) || free n e b)
      (and_right (mem b (n.preconditions e) ⇒ m b) (mem b (n.postconditions e) ⇒ (not (m b) || free n e b)) (h b)) t))

-- ---- the exchange of two steps
module _ (n : Net) (m : Marking) (e f : ℕ) (c : T (concession n m e)) (d : T (concession n (fire n m e) f)) (t : T (apart n m e f)) where
  swap : (b : ℕ) → T (ok n m f b) × T (ok n (fire n m f) e b) × (fire n (fire n m f) e b ≡ fire n (fire n m e) f b)
  unfolding fire touch
  swap b =
      let q = apart_parts n m e f t in
      swap_use (n.persistent b) (m b) (mem b (n.preconditions e)) (mem b (n.postconditions e)) (free n e b) (mem b (n.preconditions f)) (mem b (n.postconditions f)) (free n f b)
      (imp_intro (n.persistent b) (free n e b && free n f b) (λ p.
      let x = is_true (n.persistent b) p in and_both (free n e b) (free n f b) (free_persistent n e b x) (free_persistent n f b x)))
      (concession_at n m e c b) (concession_at n (fire n m e) f d b)
      (imp_intro (mem b (n.preconditions e) || mem b (n.postconditions e)) ((mem b (n.preconditions f) || mem b (n.postconditions f)) ⇒ n.persistent b)
      (λ x. imp_intro (mem b (n.preconditions f) || mem b (n.postconditions f)) (n.persistent b) (λ y. q.disjoint b (rw mem_append x) (rw mem_append y))))
      (imp_intro (mem b (n.preconditions f)) (n.persistent b ⇒ m b) (λ x. imp_intro (n.persistent b) (m b) (q.held b x)))
      (imp_intro (mem b (n.postconditions e)) (n.persistent b && mem b (n.postconditions f) ⇒ m b) (λ x. imp_intro (n.persistent b && mem b (n.postconditions f)) (m b)
      (λ y. q.once b x (and_left (n.persistent b) (mem b (n.postconditions f)) y) (and_right (n.persistent b) (mem b (n.postconditions f)) y))))

  pub swap_first : T (concession n m f)
  swap_first = concession_of_lem n m f (λ b. (swap b).0)

  pub swap_second : T (concession n (fire n m f) e)
  swap_second = concession_of_lem n (fire n m f) e (λ b. (swap b).1)

  pub swap_end : fire n (fire n m f) e ≡ fire n (fire n m e) f
  swap_end = fun_ext (λ b. (swap b).2)

-- With the two exchanged it is a run still, with the same end.
pub exchange_runs : (n : Net) (m : Marking) (r : List ℕ) (k : ℕ) → suc k < length r → T (runs n m r) → T (apart_step n m r k)
    → T (runs n m (exchanged k r)) × (end n m (exchanged k r) ≡ end n m r)
unfolding end apart_step
exchange_runs n m [] zero h r t = absurd (not-suc-le-zero h)
exchange_runs n m (e ∷ []) zero h r t = absurd (not-suc-le-zero (le_of_suc-le-suc h))
exchange_runs n m (e ∷ f ∷ q) zero h r t =
    let s = runs_rest n m e (f ∷ q) r in
    let a = runs_first n m e (f ∷ q) r in
    let b = runs_first n (fire n m e) f q s in
    let c = can_concession n m e a in
    let d = can_concession n (fire n m e) f b in
    let same_end = swap_end n m e f c d t in (
      runs_cons n m f (e ∷ q) (can_of n m f (can_event n (fire n m e) f b) (swap_first n m e f c d t))
          (runs_cons n (fire n m f) e q (can_of n (fire n m f) e (can_event n m e a) (swap_second n m e f c d t))
          (rw same_end (runs_rest n (fire n m e) f q s))),
      ap (λ (k : Marking). end n k q) same_end,
    )
exchange_runs n m [] (suc k) h r t = absurd (not-suc-le-zero h)
exchange_runs n m (x ∷ p) (suc k) h r t =
    let i = exchange_runs n (fire n m x) p k (le_of_suc-le-suc h) (runs_rest n m x p r) t in
    (runs_cons n m x (exchanged k p) (runs_first n m x p r) i.0, i.1)

-- ---- exchanged twice, a list is itself again, and no longer than before

pub exchanged_twice : (k : ℕ) (r : List ℕ) → exchanged k (exchanged k r) ≡ r
exchanged_twice zero [] = refl
exchanged_twice zero (e ∷ []) = refl
exchanged_twice zero (e ∷ f ∷ q) = refl
exchanged_twice (suc k) [] = refl
exchanged_twice (suc k) (x ∷ r) = ap {B = List ℕ} (λ z. x ∷ z) (exchanged_twice k r)

pub length_exchanged : (k : ℕ) (r : List ℕ) → length (exchanged k r) ≡ length r
length_exchanged zero [] = refl
length_exchanged zero (e ∷ []) = refl
length_exchanged zero (e ∷ f ∷ q) = refl
length_exchanged (suc k) [] = refl
length_exchanged (suc k) (x ∷ r) = ap suc (length_exchanged k r)

pub exchanged_short : (k : ℕ) (r : List ℕ) → too_long r ≡ none → too_long (exchanged k r) ≡ none
unfolding too_long
exchanged_short k r h = rw (length_exchanged k r) h
