-- What is promised of exchange both ways: the premises of demand 3 in the paper's sets, and which answer is given exactly when.
use Rattle.std.specs.Prelude.{◌≡◌, ◌↔◌, List, ℕ, suc, ◌≤◌, ◌<◌, T, length, get_or, take, Ok}
use Rattle.model.specs.Net.{Net, begin}
use Rattle.model.specs.Runs.{runs, end}
use Rattle.model.specs.Exchange.{exchanged}
use Rattle.model.specs.Paper.{Set, ∅, ◌∪◌, ◌∩◌, ◌∖◌, ◌⊆◌, ◌≐◌, P, pre, post, holding}
use Rattle.refusal.specs.Answer.{Judged, refused_at}

-- •e ∪ e•, the conditions that an event touches (01, Runs across).
abbrev pub touching : Net → ℕ → Set ℕ
touching n e = pre n e ∪ post n e

-- The premises for events e and f that are fired in this order where M holds: they are different; no ordinary condition is touched by both;
-- every persistent precondition of f held before e; and no persistent condition that did not hold before e is marked by both (README, What
-- is promised: 3).
pub record Premises (n : Net) (M : Set ℕ) (e f : ℕ) : Type 0 where
  pub different : e ≡ f → ⊥
  pub disjoint : (touching n e ∩ touching n f) ∖ P n ≐ ∅
  pub held : pre n f ∩ P n ⊆ M
  pub once : (post n e ∩ post n f ∩ P n) ∖ M ≐ ∅

-- The premises for steps k and k + 1 of a run of a table, where what held before step k decides (01, Runs across).
abbrev pub PremisesAt : Net → List ℕ → ℕ → Type 0
PremisesAt n r k = Premises n (holding (end n (begin n) (take k r))) (get_or r k 0) (get_or r (suc k) 0)

-- A list of numbers is a run of a table from its start, and has a step k + 1 (01, Runs across).
pub record HasNext (n : Net) (r : List ℕ) (k : ℕ) : Type 0 where
  pub run : T (runs n (begin n) r)
  pub next : suc k < length r

-- Of an accepted table and at most 4,096 numbers, an exchange is made exactly if they are a run that has the two steps and the premises
-- hold, and then these two change places; 17 is given, at k, exactly if they do not hold; and on a run 10 is given, at k, exactly if it
-- has no step k + 1 (01, Runs across and Refusal numbers: demand 3).
pub record ExchangedExactly (n : Net) (r : List ℕ) (k : ℕ) (answer : Judged) (left : List ℕ) : Type 0 where
  pub made : (answer ≡ Ok 2) ↔ (HasNext n r k × PremisesAt n r k)
  pub swapped : answer ≡ Ok 2 → left ≡ exchanged k r
  pub seventeen : (i : ℕ) → (answer ≡ refused_at 17 i) ↔ ((i ≡ k) × HasNext n r k × (PremisesAt n r k → ⊥))
  pub ten : T (runs n (begin n) r) → (i : ℕ) → (answer ≡ refused_at 10 i) ↔ ((i ≡ k) × (length r ≤ suc k))
