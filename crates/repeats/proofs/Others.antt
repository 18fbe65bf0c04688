-- Whether an event has others beside it among the users of a condition, told from how many users there are.
use Prim.Native.Nat.{ℕ, zero, suc, ◌<◌}
use native.Mathlib.Omega.{arith}
use native.Mathlib.Decide.{ℕ_discrete}
use mathlib.Core.Path.{◌≡◌, refl, sym, ap, ◌∙◌}
use mathlib.Core.Bool.{Bool, true, false, not, ◌||◌, ◌&&◌, cond}
use mathlib.Core.List.{List, [], ◌∷◌}
use lib.Dec.{T, eqb, leb, ltb}
use lib.ListN.{length}
use borrow.Author.Tests.{eq-eqb, ne_eqb, lt-ltb}
use Rattle.lists.specs.Lists.{mem, any, ascending_from, count}
use Rattle.lists.proofs.Bools.{is_true, T_of, is_false, and_right}
use Rattle.lists.proofs.Members.{mem_in, in_mem, mem_keep, count_in_lem}
use Rattle.lists.proofs.Distinct.{ascending_least, count_ascends, ascending_keep}
use Rattle.model.specs.Net.{Net}
use Rattle.model.specs.Unfolding.{users}

-- some member of a list that ascends is another than e exactly if the list is longer than e alone makes it
others_ascending : (e k : ℕ) (l : List ℕ) → T (ascending_from k l) → any (λ u. not (eqb u e)) l ≡ ltb (cond (mem e l) 1 0) (length l)
others_ascending e k [] a = refl
others_ascending e k (x ∷ l) a = go (ℕ_discrete x e) (others_ascending e (suc x) l rest)
  where
    rest : T (ascending_from (suc x) l)
    rest = and_right (leb k x) (ascending_from (suc x) l) a

    less : (k : ℕ) → ltb 0 k ≡ ltb 1 (suc k)
    less zero = refl
    less (suc k) = lt-ltb 0 (suc k) (omega arith) ∙ sym (lt-ltb 1 (suc (suc k)) (omega arith))

    more : (t : Bool) (l : List ℕ) → (t ≡ true → T (mem e l)) → ltb (cond t 1 0) (suc (length l)) ≡ true
    more false l f = lt-ltb 0 (suc (length l)) (omega arith)
    more true [] f = absurd (f refl)
    more true (y ∷ l) f = lt-ltb 1 (suc (suc (length l))) (omega arith)

    go : Dec (x ≡ e) → any (λ u. not (eqb u e)) l ≡ ltb (cond (mem e l) 1 0) (length l)
        → (not (eqb x e) || any (λ u. not (eqb u e)) l) ≡ ltb (cond (eqb e x || mem e l) 1 0) (suc (length l))
    go (yes q) ih =
        let past : mem e l ≡ false = is_false (mem e l) (λ t. let z = ascending_least (suc x) l rest e (mem_in e l t) in omega arith) in
        rw (eq-eqb x e q, eq-eqb e x (sym q)) (ih ∙ rw past (less (length l)))
    go (no q) ih = rw (ne_eqb x e q, ne_eqb e x (λ z. q (sym z))) (sym (more (mem e l) l (λ z. T_of (mem e l) z)))

module _ (n : Net) (b e : ℕ) (h : e < n.events) where
  -- an event is a user exactly if it has the condition as precondition
  pub user_if : mem e (users n b) ≡ mem b (n.preconditions e)
  unfolding users
  user_if =
      mem_keep (λ e. mem b (n.preconditions e)) e (count 0 n.events)
      ∙ ap (λ (t : Bool). t && mem b (n.preconditions e)) (is_true (mem e (count 0 n.events)) (in_mem (count_in_lem e 0 n.events (omega arith) (omega arith))))

  pub others_counted : any (λ u. not (eqb u e)) (users n b) ≡ ltb (cond (mem b (n.preconditions e)) 1 0) (length (users n b))
  unfolding users
  others_counted =
      others_ascending e 0 (users n b) (ascending_keep (λ e. mem b (n.preconditions e)) 0 (count 0 n.events) (count_ascends 0 n.events))
      ∙ ap (λ (t : Bool). ltb (cond t 1 0) (length (users n b))) user_if
