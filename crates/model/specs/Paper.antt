-- The paper's own definitions in set notation, and the old rule beside them: the executable ones are proved to be these
-- (proofs/Rule, proofs/Sets), so that nobody has to believe that our lists are its sets.
use Rattle.std.specs.Prelude.{◌≡◌, ◌⊎◌, ◌↔◌, List, ℕ, ◌<◌, T}
use Rattle.std.proofs.Math.Option.{some}
use Rattle.std.proofs.Math.ListN.{get_elem?}
use Rattle.lists.specs.Lists.{◌∈◌}
use Rattle.model.specs.Net.{Net, Marking}
use Rattle.model.specs.Runs.{Marker, at_start, by_event}
use Rattle.model.specs.Unfolding.{UnfoldedCondition, ordinary, copy, unfolded_conditions, UnfoldedEvent, reads, picked}

-- ---- sets

-- A set is told by its members.
abbrev pub Set : Type 0 → Type 1
Set A = A → Type 0

module _ {A : Type 0} where
  infixl 60 ◌∪◌
  infixl 65 ◌∩◌
  infixl 65 ◌∖◌
  infix 30 ◌⊆◌
  infix 30 ◌≐◌
  -- the set with one member
  abbrev pub only : A → Set A
  only x = λ y. y ≡ x

  -- the empty set
  abbrev pub ∅ : Set A
  ∅ = λ x. ⊥

  -- union
  abbrev pub ◌∪◌ : Set A → Set A → Set A
  X ∪ Y = λ x. X x ⊎ Y x

  -- intersection
  abbrev pub ◌∩◌ : Set A → Set A → Set A
  X ∩ Y = λ x. X x × Y x

  -- difference
  abbrev pub ◌∖◌ : Set A → Set A → Set A
  X ∖ Y = λ x. X x × (Y x → ⊥)

  -- every member of the one is a member of the other
  abbrev pub ◌⊆◌ : Set A → Set A → Type 0
  X ⊆ Y = (x : A) → X x → Y x

  -- two sets have the same members
  abbrev pub ◌≐◌ : Set A → Set A → Type 0
  X ≐ Y = (x : A) → X x ↔ Y x

-- ---- a net (B, P, E, pre, post) and its token game

-- B, the conditions (paper, section 5).
abbrev pub B : Net → Set ℕ
B n = λ b. b < n.conditions

-- P, the persistent conditions (paper, section 5).
abbrev pub P : Net → Set ℕ
P n = λ b. T (n.persistent b)

-- E, the events (paper, section 5).
abbrev pub E : Net → Set ℕ
E n = λ e. e < n.events

-- •e, the preconditions of an event (paper, section 3).
abbrev pub pre : Net → ℕ → Set ℕ
pre n e = λ b. b ∈ n.preconditions e

-- e•, the postconditions of an event (paper, section 3).
abbrev pub post : Net → ℕ → Set ℕ
post n e = λ b. b ∈ n.postconditions e

-- A marking as the set of the conditions that hold (paper, section 3).
abbrev pub holding : Marking → Set ℕ
holding m = λ b. T (m b)

-- Concession: •e ⊆ M and (M ∖ (•e ∪ P)) ∩ e• = ∅ (paper, section 5).
pub record Concession (n : Net) (M : Set ℕ) (e : ℕ) : Type 0 where
  pub all_hold : pre n e ⊆ M
  pub no_contact : (M ∖ (pre n e ∪ P n)) ∩ post n e ≐ ∅

-- Concession by the old rule: •e ⊆ M and (M ∖ P) ∩ e• = ∅, so that a precondition is no excuse (001, Boolean marking; 02, No. 4).
pub record OldConcession (n : Net) (M : Set ℕ) (e : ℕ) : Type 0 where
  pub all_hold : pre n e ⊆ M
  pub no_contact : (M ∖ P n) ∩ post n e ≐ ∅

-- M —e→ M' where concession is that of a rule: it is given, and M' = (M ∖ •e) ∪ e• ∪ (M ∩ P) (paper, section 5; 02, No. 4).
pub record Fires (Rule : Net → Set ℕ → ℕ → Type 0) (n : Net) (M : Set ℕ) (e : ℕ) (M' : Set ℕ) : Type 0 where
  pub concession : Rule n M e
  pub result : M' ≐ (M ∖ pre n e) ∪ post n e ∪ (M ∩ P n)

-- M —e→ M' in a basic net: •e ⊆ M, (M ∖ •e) ∩ e• = ∅, and M' = (M ∖ •e) ∪ e• (paper, section 3).
pub record BasicFires (n : Net) (M : Set ℕ) (e : ℕ) (M' : Set ℕ) : Type 0 where
  pub all_hold : pre n e ⊆ M
  pub no_contact : (M ∖ pre n e) ∩ post n e ≐ ∅
  pub result : M' ≐ (M ∖ pre n e) ∪ post n e

-- The same where taking excuses only the conditions in K: (M ∖ (•e ∩ K)) ∩ e• = ∅ (02, No. 4).
pub record MixedFires (K : Set ℕ) (n : Net) (M : Set ℕ) (e : ℕ) (M' : Set ℕ) : Type 0 where
  pub all_hold : pre n e ⊆ M
  pub no_contact : (M ∖ (pre n e ∩ K)) ∩ post n e ≐ ∅
  pub result : M' ≐ (M ∖ pre n e) ∪ post n e

-- ---- the unfolding

-- •b, the events that mark a condition, and * for the start (paper, section 6).
abbrev pub Marks : Net → ℕ → Set Marker
Marks n b = (λ k. (e : ℕ) × E n e × post n e b × (k ≡ by_event e)) ∪ only at_start

-- b•, the events that have the condition as precondition (paper, section 6).
abbrev pub Uses : Net → ℕ → Set ℕ
Uses n b = λ e. E n e × pre n e b

-- Δ(e), the product of {b} × •b over b in •e ∩ P: a colour c chooses one marker for each such b, and (b, k) ∈ c is written
-- c b k; where •e ∩ P is empty, the empty choice is the one colour, the paper's δ (paper, section 6.1).
pub record Δ (n : Net) (e : ℕ) (c : ℕ → Marker → Type 0) : Type 0 where
  pub chooses : (b : ℕ) → (pre n e ∩ P n) b → (k : Marker) × c b k
  pub one : (b : ℕ) (k q : Marker) → c b k → c b q → k ≡ q
  pub from : (b : ℕ) (k : Marker) → c b k → (pre n e ∩ P n) b × Marks n b k

-- E', the union of {e} × Δ(e) over the events (paper, section 6.1).
abbrev pub E' : Net → ℕ → (ℕ → Marker → Type 0) → Type 0
E' n e c = E n e × Δ n e c

-- B', the union of {b} × Δ(b), where Δ(b) is {δ} for an ordinary b and •b × b• for a persistent one: (b, δ) is written ordinary
-- b, and (b, (k, u)) is written copy b k u (paper, section 6.1).
abbrev pub B' : Net → Set UnfoldedCondition
B' n =
    (λ p. (b : ℕ) × (B n ∖ P n) b × (p ≡ ordinary b))
    ∪ (λ p. (b : ℕ) × (k : Marker) × (u : ℕ) × (B n ∩ P n) b × Marks n b k × Uses n b u × (p ≡ copy b k u))

-- pre'(e, c) = {(b, δ) | b ∈ •e ∖ P} ∪ {(b, (k, e)) | (b, k) ∈ c} (paper, section 6.1).
abbrev pub pre' : Net → ℕ → (ℕ → Marker → Type 0) → Set UnfoldedCondition
pre' n e c =
    (λ p. (b : ℕ) × (pre n e ∖ P n) b × (p ≡ ordinary b))
    ∪ (λ p. (b : ℕ) × (k : Marker) × c b k × (p ≡ copy b k e))

-- post'(e, c) = {(b, δ) | b ∈ e• ∖ P} ∪ {(b, (e, u)) | b ∈ e• ∩ P, u ∈ b•} ∪ {(b, (k, e)) | (b, k) ∈ c} (paper, section 6.1).
abbrev pub post' : Net → ℕ → (ℕ → Marker → Type 0) → Set UnfoldedCondition
post' n e c =
    (λ p. (b : ℕ) × (post n e ∖ P n) b × (p ≡ ordinary b))
    ∪ (λ p. (b : ℕ) × (u : ℕ) × (post n e ∩ P n) b × Uses n b u × (p ≡ copy b (by_event e) u))
    ∪ (λ p. (b : ℕ) × (k : Marker) × c b k × (p ≡ copy b k e))

-- The unfolded start: (b, δ) for ordinary b, and (b, (*, u)) for persistent b and u in b•, where b holds at the start (paper,
-- section 6.1, closing words; 01, Unfolding).
abbrev pub start' : Net → Set UnfoldedCondition
start' n =
    (λ p. (b : ℕ) × ((λ b. b ∈ n.start) ∖ P n) b × (p ≡ ordinary b))
    ∪ (λ p. (b : ℕ) × (u : ℕ) × ((λ b. b ∈ n.start) ∩ P n) b × Uses n b u × (p ≡ copy b at_start u))

-- ---- how the executable definitions are read as these sets

-- (b, k) ∈ c, for the colour c of an unfolded event.
abbrev pub chosen : Net → UnfoldedEvent → ℕ → Marker → Type 0
chosen n x b k = T (picked (reads n x.event) x.colour b k)

-- The unfolded conditions that a list names by their numbers.
abbrev pub named : Net → List ℕ → Set UnfoldedCondition
named n l = λ p. (k : ℕ) × (k ∈ l) × (get_elem? (unfolded_conditions n) k ≡ some p)

-- The numbers of the copies of persistent conditions, which keep the paper's rule where the table has the old one (02, No. 4).
abbrev pub copied : Net → Set ℕ
copied n = λ k. (b : ℕ) × (m : Marker) × (u : ℕ) × (get_elem? (unfolded_conditions n) k ≡ some (copy b m u))
