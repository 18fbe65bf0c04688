-- The unfolded conditions that a stopped event is told by: what they stand for, and that there are such.
use mathlib.Core.Path.{◌≡◌, refl, ◌∙◌, subst}
use mathlib.Core.Bool.{Bool, true, false, not, ◌||◌, cond}
use mathlib.Core.Option.{Option, none, some}
use mathlib.Core.List.{List}
use Prim.Native.Nat.{ℕ, ◌<◌}
use lib.Dec.{T}
use Rattle.lists.specs.Lists.{mem, all, ascending, failing, nothing, count, ◌∈◌}
use Rattle.lists.proofs.Tests.{nothing_fails}
use Rattle.lists.proofs.Members.{mem_in}
use Rattle.lists.proofs.Distinct.{count_ascends, ascending_keep}
use Rattle.lists.proofs.Lowest.{Lowest, failing_lowest}
use Rattle.model.specs.Net.{Net, Sound, Marking}
use Rattle.model.specs.Runs.{by_event}
use Rattle.model.specs.Unfolding.{ordinary, copy, markers, users, unfolded_conditions}
use Rattle.model.proofs.Unfolded.{event_marks, event_uses, ordinary_in_lem, copy_in}
use Rattle.decided.specs.Decided.{Picks, Seen, given_back, clear, lacked_condition, met_user, met_condition}
use Rattle.decided.proofs.Orders.{owner}

-- what fails where a test is asked only if another passes
pub neither : (a c : Bool) → (not a || c) ≡ false → T a × (c ≡ false)
neither true c q = (tt, q)
neither false c q = absurd (subst T q tt)

users_ascend : (n : Net) (b : ℕ) → T (ascending (users n b))
unfolding users
users_ascend n b = ascending_keep (λ e. mem b (n.preconditions e)) 0 (count 0 n.events) (count_ascends 0 n.events)

-- where not every member passes, one is found
pub some_fails : (f : ℕ → Bool) (l : List ℕ) → all f l ≡ false → failing f l ≡ some (met_user (failing f l))
some_fails f l a = go (failing f l) (nothing_fails f l ∙ a)
  where
    go : (o : Option ℕ) → nothing o ≡ false → o ≡ some (met_user o)
    go none z = absurd (subst T z tt)
    go (some v) z = refl

module _ (n : Net) (pick : Picks) (e b : ℕ) where
  pub lacked_owner : owner (lacked_condition n pick e b) ≡ b
  lacked_owner = go (n.persistent b)
    where
      go : (x : Bool) → owner (cond x (copy b (pick b) e) (ordinary b)) ≡ b
      go true = refl
      go false = refl

  -- the user that a copy in contact is for
  abbrev pub left : ℕ
  left = met_user (failing (given_back pick e b) (users n b))

  pub met_owner : owner (met_condition n pick e b) ≡ b
  met_owner = go (n.persistent b)
    where
      go : (x : Bool) → owner (cond x (copy b (by_event e) left) (ordinary b)) ≡ b
      go true = refl
      go false = refl

  -- a persistent condition that is not clear has a user whose copy is not given back
  pub not_clear : (m : Marking) (seen : Seen) → clear n m seen pick e b ≡ false → n.persistent b ≡ true → all (given_back pick e b) (users n b) ≡ false
  not_clear m seen q p = (neither (seen e) (all (given_back pick e b) (users n b)) (rw p at q)).1

  -- the lowest such user
  pub left_lowest : all (given_back pick e b) (users n b) ≡ false → Lowest (given_back pick e b) (users n b) left
  left_lowest a = failing_lowest (given_back pick e b) (users n b) (users_ascend n b) left (some_fails (given_back pick e b) (users n b) a)

  module _ (d : Sound n) (h : e < n.events) where
    pub lacked_in : T (mem b (n.preconditions e)) → (n.persistent b ≡ true → pick b ∈ markers n b) → lacked_condition n pick e b ∈ unfolded_conditions n
    lacked_in t m = go (n.persistent b) refl
      where
        go : (x : Bool) → n.persistent b ≡ x → cond x (copy b (pick b) e) (ordinary b) ∈ unfolded_conditions n
        go false p = ordinary_in_lem n b (d.pre_in e b h t) p
        go true p = copy_in n b (pick b) e (d.pre_in e b h t) p (m p) (event_uses n b e h t)

    pub met_in : T (mem b (n.postconditions e)) → (n.persistent b ≡ true → all (given_back pick e b) (users n b) ≡ false) → met_condition n pick e b ∈ unfolded_conditions n
    met_in t a = go (n.persistent b) refl
      where
        go : (x : Bool) → n.persistent b ≡ x → cond x (copy b (by_event e) left) (ordinary b) ∈ unfolded_conditions n
        go false p = ordinary_in_lem n b (d.post_in e b h t) p
        go true p = copy_in n b (by_event e) left (d.post_in e b h t) p (event_marks n b e h t) (mem_in left (users n b) (left_lowest (a p)).inside)
