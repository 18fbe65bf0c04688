-- A table with a lent marking: how 18 is decided, and what an answer past it tells.
use Prim.Native.Nat.{ℕ, zero, suc, ◌≤◌, ◌<◌}
use native.Mathlib.Omega.{arith}
use mathlib.Core.Path.{◌≡◌, refl, sym, ap, ◌∙◌}
use mathlib.Core.Bool.{Bool, true, false, cond}
use mathlib.Core.List.{List, [], ◌∷◌}
use lib.Dec.{eqb, ltb, leb}
use lib.ListN.{length, get_or}
use borrow.Author.Tests.{eq-eqb, ne_eqb, lt-leb, le-leb, eqb-true, leb-true, ltb-false}
use Rattle.refusal.specs.Answer.{Judged, refused_at, need, and_then}
use Rattle.std.specs.Prelude.{Ok, Err}
use Rattle.refusal.proofs.Chain.{need_passes, need_refuses, need_fine, then_fine}
use Rattle.records.specs.Records.{conditions}
use Rattle.table.specs.Walk.{judge_of}
use Rattle.table.specs.Decoded.{net_of}
use Rattle.table.proofs.Walk.{accepted}
use Rattle.table.proofs.Decoded.{conditions_are_all}
use Rattle.step.specs.Lent.{Lent}
use Rattle.game.specs.Lent.{first_above, lent}
use Rattle.game.specs.Calls.{on_marking}
use Rattle.step.proofs.Bytes.{lent_of}

-- ---- a link of the chain, and what follows the chain

then_need : (b : Bool) (number place : ℕ) (rest : Judged) (f : ℕ → Judged) → and_then (need b number place rest) f ≡ need b number place (and_then rest f)
unfolding need
then_need true number place rest f = refl
then_need false number place rest f = refl

-- ---- 18

module _ (c : ℕ) (l : List ℕ) (rest : Judged) where
  pub wrong_length : (length l ≡ c → ⊥) → refused_at 18 c ≡ lent c l rest
  unfolding lent
  wrong_length h = sym (need_refuses 18 c _ (ne_eqb (length l) c h))

  pub byte_above : length l ≡ c → first_above l < length l → refused_at 18 (first_above l) ≡ lent c l rest
  unfolding lent
  byte_above e h = sym (need_passes 18 c (eq-eqb (length l) c e) ∙ need_refuses 18 (first_above l) rest (lt-leb (length l) (first_above l) h))

  pub all_right : length l ≡ c → length l ≤ first_above l → rest ≡ lent c l rest
  unfolding lent
  all_right e h = sym (need_passes 18 c (eq-eqb (length l) c e) ∙ need_passes 18 (first_above l) (le-leb (length l) (first_above l) h))

  then_lent : (f : ℕ → Judged) → and_then (lent c l rest) f ≡ lent c l (and_then rest f)
  unfolding lent
  then_lent f =
      then_need (eqb (length l) c) 18 c (need (leb (length l) (first_above l)) 18 (first_above l) rest) f
      ∙ ap (need (eqb (length l) c) 18 c) (then_need (leb (length l) (first_above l)) 18 (first_above l) rest f)

-- no byte above 1
pub none_above : (l : List ℕ) → length l ≤ first_above l → (i : ℕ) → i < length l → get_or l i 0 ≤ 1
none_above [] h i p = absurd (omega arith)
none_above (x ∷ l) h i p = go (ltb 1 x) refl h i p (λ q j r. none_above l q j r)
  where
    go : (t : Bool) → ltb 1 x ≡ t → suc (length l) ≤ cond t 0 (suc (first_above l)) → (i : ℕ) → i < suc (length l)
        → (length l ≤ first_above l → (j : ℕ) → j < length l → get_or l j 0 ≤ 1) → get_or (x ∷ l) i 0 ≤ 1
    go true e h i p ih = absurd (omega arith)
    go false e h zero p ih = ltb-false 1 x e
    go false e h (suc i) p ih = ih (omega arith) i (omega arith)

-- ---- a table and its lent marking

pub on_judged : (s m : List ℕ) (rest : ℕ → Judged) (n : ℕ) → judge_of s ≡ Ok n → on_marking s m rest ≡ lent (conditions s) m (rest n)
unfolding on_marking
on_judged s m rest n j = simp (j, sym (conditions_are_all s n j))

-- what follows a table and a marking that are judged
pub on_then : (s m : List ℕ) (f g : ℕ → Judged) → and_then (on_marking s m f) g ≡ on_marking s m (λ n. and_then (f n) g)
unfolding on_marking
on_then s m f g = go (judge_of s)
  where
    go : (j : Judged) → and_then (and_then j (λ n. lent (net_of s).conditions m (f n))) g ≡ and_then j (λ n. lent (net_of s).conditions m (and_then (f n) g))
    go (Ok n) = then_lent (net_of s).conditions m (f n) g
    go (Err x) = refl

-- what an answer past 18 tells
pub record Marked (s m : List ℕ) (rest : ℕ → Judged) (x : ℕ) : Type 0 where
  pub events : ℕ
  pub judged : judge_of s ≡ Ok events
  pub long : length m ≡ conditions s
  pub few : length m ≤ 256
  pub lents : Lent m
  pub goes : rest events ≡ Ok x

pub on_fine : (s m : List ℕ) (rest : ℕ → Judged) (x : ℕ) → on_marking s m rest ≡ Ok x → Marked s m rest x
unfolding on_marking lent
on_fine s m rest x e =
    let (n, j, r) = then_fine (judge_of s) _ x e in
    let (t, u) = need_fine (eqb (length m) (net_of s).conditions) 18 (net_of s).conditions x _ r in
    let (v, w) = need_fine (leb (length m) (first_above m)) 18 (first_above m) x _ u in
    let long : length m ≡ conditions s = eqb-true (length m) (net_of s).conditions t ∙ sym (conditions_are_all s n j) in
    record {
      events = n;
      judged = j;
      long = long;
      few = omega (arith, long, (accepted s n j).conditions_fine.most);
      lents = lent_of m (none_above m (leb-true (length m) (first_above m) v));
      goes = w;
    }
