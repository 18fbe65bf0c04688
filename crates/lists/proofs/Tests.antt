-- Tests over the members of a list: what every member passes, what some member passes, and the first that fails.
use mathlib.Core.Path.{◌≡◌, refl, sym, subst}
use mathlib.Core.Bool.{Bool, true, false, ◌&&◌, ◌||◌, cond}
use mathlib.Core.Option.{some}
use mathlib.Core.List.{List, [], ◌∷◌}
use Prim.Native.Nat.{ℕ, suc, ◌+◌, ◌≤◌, ◌<◌}
use native.Mathlib.Omega.{arith}
use lib.Dec.{T, eqb, eqb→eq, eqb_refl, leb, leb→le, ltb, ltb→lt, lt→ltb}
use lib.ListN.{length}
use Rattle.lists.specs.Lists.{mem, all, any, ascending_from, ascending, fits, ◌⇒◌, failing, nothing}
use Rattle.lists.proofs.Bools.{T_of, and_left, and_right, and_both, or_left, or_right, or_cases, imp_elim}

-- ---- all

pub all_at : (f : ℕ → Bool) (l : List ℕ) → T (all f l) → (k : ℕ) → T (mem k l) → T (f k)
all_at f l t k h = imp_elim (mem k l) (f k) (each l t) h
  where
    each : (l : List ℕ) → T (all f l) → T (mem k l ⇒ f k)
    each [] t = tt
    each (x ∷ xs) t = go (eqb k x) refl (each xs (and_right (f x) (all f xs) t))
      where
        go : (b : Bool) → eqb k x ≡ b → T (mem k xs ⇒ f k) → T ((b || mem k xs) ⇒ f k)
        go true e ih = subst (λ (y : ℕ). T (f y)) (sym (eqb→eq k x (T_of (eqb k x) e))) (and_left (f x) (all f xs) t)
        go false e ih = ih

pub all_of : (f : ℕ → Bool) (l : List ℕ) → ((k : ℕ) → T (mem k l) → T (f k)) → T (all f l)
all_of f [] h = tt
all_of f (x ∷ xs) h =
    and_both (f x) (all f xs) (h x (or_left (eqb x x) (mem x xs) (eqb_refl x))) (all_of f xs (λ k s. h k (or_right (eqb k x) (mem k xs) s)))

-- ---- any

pub any_in : (t : ℕ → Bool) (r : List ℕ) (e : ℕ) → T (mem e r) → T (t e) → T (any t r)
any_in t [] e i h = absurd i
any_in t (x ∷ r) e i h =
    or_cases (eqb e x) (mem e r) i (λ q. or_left (t x) (any t r) (subst (λ (y : ℕ). T (t y)) (eqb→eq e x q) h)) (λ q. or_right (t x) (any t r) (any_in t r e q h))

pub any_out : (t : ℕ → Bool) (r : List ℕ) → T (any t r) → (e : ℕ) × T (mem e r) × T (t e)
any_out t [] h = absurd h
any_out t (x ∷ r) h =
    or_cases (t x) (any t r) h (λ p. (x, or_left (eqb x x) (mem x r) (eqb_refl x), p))
    (λ p. let i = any_out t r p in (i.0, or_right (eqb i.0 x) (mem i.0 r) i.1, i.2))

-- ---- failing

pub nothing_fails : (f : ℕ → Bool) (l : List ℕ) → nothing (failing f l) ≡ all f l
nothing_fails f [] = refl
nothing_fails f (x ∷ xs) = go (f x) (nothing_fails f xs)
  where
    go : (b : Bool) → nothing (failing f xs) ≡ all f xs → nothing (cond b (failing f xs) (some x)) ≡ (b && all f xs)
    go true ih = ih
    go false ih = refl

pub failing_at : (f : ℕ → Bool) (l : List ℕ) → T (nothing (failing f l)) → (k : ℕ) → T (mem k l) → T (f k)
failing_at f l t k h = all_at f l (subst T (nothing_fails f l) t) k h

pub failing_of_lem : (f : ℕ → Bool) (l : List ℕ) → ((k : ℕ) → T (mem k l) → T (f k)) → T (nothing (failing f l))
failing_of_lem f l h = subst T (sym (nothing_fails f l)) (all_of f l h)

-- ---- a list that ascends below a number

pub fits_ascends : (n : ℕ) (l : List ℕ) → T (fits n l) → T (ascending l)
unfolding fits
fits_ascends n l t = and_left (ascending l) (all (λ b. ltb b n) l) t

pub fits_in : (n : ℕ) (l : List ℕ) → T (fits n l) → (b : ℕ) → T (mem b l) → b < n
unfolding fits
fits_in n l t b i = ltb→lt b n (all_at (λ b. ltb b n) l (and_right (ascending l) (all (λ b. ltb b n) l) t) b i)

pub fits_of : (n : ℕ) (l : List ℕ) → T (ascending l) → ((b : ℕ) → T (mem b l) → b < n) → T (fits n l)
unfolding fits
fits_of n l a h = and_both (ascending l) (all (λ b. ltb b n) l) a (all_of (λ b. ltb b n) l (λ b i. lt→ltb b n (h b i)))

-- it has no more members than the numbers below n
room : (n k : ℕ) (l : List ℕ) → k ≤ n → T (ascending_from k l) → T (all (λ b. ltb b n) l) → k + length l ≤ n
room n k [] h a b = omega arith
room n k (x ∷ l) h a b =
    let low = leb→le k x (and_left (leb k x) (ascending_from (suc x) l) a) in
    let high = ltb→lt x n (and_left (ltb x n) (all (λ b. ltb b n) l) b) in
    let ih = room n (suc x) l high (and_right (leb k x) (ascending_from (suc x) l) a) (and_right (ltb x n) (all (λ b. ltb b n) l) b) in
    omega arith

pub fits_short : (n : ℕ) (l : List ℕ) → T (fits n l) → length l ≤ n
unfolding fits
fits_short n l t =
    let r = room n 0 l (omega arith) (and_left (ascending l) (all (λ b. ltb b n) l) t) (and_right (ascending l) (all (λ b. ltb b n) l) t) in
    omega arith
