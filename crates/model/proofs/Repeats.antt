-- Repeats: the first of them is told, and only that.
use mathlib.Core.Path.{◌≡◌, refl, sym, ◌∙◌, ap, subst}
use mathlib.Core.Bool.{Bool, true, false}
use mathlib.Core.Option.{Option, none, some}
use mathlib.Core.List.{List, [], ◌∷◌, ◌++◌}
use Prim.Native.Nat.{ℕ, suc, ◌+◌}
use lib.ListN.{length}
use native.Mathlib.Nat.{add-zero, add-suc, suc-add}
use native.Mathlib.Omega.{arith}
use Rattle.model.specs.Net.{Net}
use Rattle.model.specs.Runs.{State, step, after}
use Rattle.model.specs.Across.{Lifting, repeated}

-- at step i stands a repeat, and no step before it is one
pub record Repeat (n : Net) (l : Lifting) (k : ℕ) (s : State) (r : List ℕ) (i : ℕ) : Type 0 where
  pub before : List ℕ
  pub event : ℕ
  pub rest : List ℕ
  pub splits : r ≡ before ++ event ∷ rest
  pub place : i ≡ k + length before
  pub repeat : l.repeats (after n s before) event ≡ true
  pub first : repeated n l k s before ≡ none

pub repeated_cons : (n : Net) (l : Lifting) (k : ℕ) (s : State) (e : ℕ) (r : List ℕ) → repeated n l k s (e ∷ r) ≡ none
    → (l.repeats s e ≡ false) × (repeated n l (suc k) (step n s e) r ≡ none)
unfolding repeated
repeated_cons n l k s e r h = go (l.repeats s e) refl h
  where
    go : (b : Bool) → l.repeats s e ≡ b → ◌≡◌ {A = Option ℕ} (elim b [ true ↦ some k | false ↦ repeated n l (suc k) (step n s e) r ]) none
        → (l.repeats s e ≡ false) × (repeated n l (suc k) (step n s e) r ≡ none)
    go true q h = absurd (let z : ◌≡◌ {A = ℕ} 0 1 = cc in omega arith)
    go false q h = (q, h)

pub repeated_build : (n : Net) (l : Lifting) (k : ℕ) (s : State) (e : ℕ) (r : List ℕ) → l.repeats s e ≡ false → repeated n l (suc k) (step n s e) r ≡ none → repeated n l k s (e ∷ r) ≡ none
unfolding repeated
repeated_build n l k s e r p q = rw (p, repeated) q

-- what is told is the first repeat
pub repeated_first : (n : Net) (l : Lifting) (k : ℕ) (s : State) (r : List ℕ) (i : ℕ) → repeated n l k s r ≡ some i → Repeat n l k s r i
unfolding repeated after
repeated_first n l k s [] i h = absurd (let z : ◌≡◌ {A = ℕ} 0 1 = cc in omega arith)
repeated_first n l k s (e ∷ r) i h = go (l.repeats s e) refl h (λ q. repeated_first n l (suc k) (step n s e) r i q)
  where
    go : (b : Bool) → l.repeats s e ≡ b → ◌≡◌ {A = Option ℕ} (elim b [ true ↦ some k | false ↦ repeated n l (suc k) (step n s e) r ]) (some i)
        → (repeated n l (suc k) (step n s e) r ≡ some i → Repeat n l (suc k) (step n s e) r i) → Repeat n l k s (e ∷ r) i
    go true q h ih =
        record { before = []; event = e; rest = r; splits = refl; place = let x : k ≡ i = cc in omega arith; repeat = q; first = refl }
    go false q h ih =
        let x = ih h in
        record {
          before = e ∷ x.before;
          event = x.event;
          rest = x.rest;
          splits = ap {B = List ℕ} (λ z. e ∷ z) x.splits;
          place = omega (arith, x.place);
          repeat = x.repeat;
          first = repeated_build n l k s e x.before q x.first;
        }

-- and the first of them is what is told
repeat_at : (n : Net) (l : Lifting) (k : ℕ) (s : State) (b : List ℕ) (e : ℕ) (q : List ℕ) → repeated n l k s b ≡ none → l.repeats (after n s b) e ≡ true
    → repeated n l k s (b ++ e ∷ q) ≡ some (k + length b)
unfolding after repeated
repeat_at n l k s [] e q o h = rw (h, repeated, add-zero)
repeat_at n l k s (x ∷ b) e q o h =
    let a = repeated_cons n l k s x b o in
    rw (a.0, repeated) (rw (suc-add, ← add-suc) at (repeat_at n l (suc k) (step n s x) b e q a.1 h))

pub first_repeated : (n : Net) (l : Lifting) (k : ℕ) (s : State) (r : List ℕ) (i : ℕ) → Repeat n l k s r i → repeated n l k s r ≡ some i
first_repeated n l k s r i p =
    subst (λ (r : List ℕ). repeated n l k s r ≡ some i) (sym p.splits) (repeat_at n l k s p.before p.event p.rest p.first p.repeat ∙ ap some (sym p.place))

-- where none is told, no step is a repeat
pub none_repeats : (n : Net) (l : Lifting) (k : ℕ) (s : State) (b : List ℕ) (e : ℕ) (a : List ℕ) → repeated n l k s (b ++ e ∷ a) ≡ none → l.repeats (after n s b) e ≡ false
unfolding after
none_repeats n l k s [] e a h = (repeated_cons n l k s e a h).0
none_repeats n l k s (x ∷ b) e a h = none_repeats n l (suc k) (step n s x) b e a (repeated_cons n l k s x (b ++ e ∷ a) h).1

-- one step more that is none
pub repeated_snoc : (n : Net) (l : Lifting) (k : ℕ) (s : State) (b : List ℕ) (e : ℕ) → repeated n l k s b ≡ none → l.repeats (after n s b) e ≡ false
    → repeated n l k s (b ++ e ∷ []) ≡ none
unfolding after repeated
repeated_snoc n l k s [] e o h = repeated_build n l k s e [] h o
repeated_snoc n l k s (x ∷ b) e o h =
    let a = repeated_cons n l k s x b o in
    repeated_build n l k s x (b ++ e ∷ []) a.0 (repeated_snoc n l (suc k) (step n s x) b e a.1 h)
