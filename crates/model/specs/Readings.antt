-- What is promised of refusal 15: a run is turned away exactly if no run of the unfolded net reads back as it, and when that is so.
use Rattle.std.specs.Prelude.{◌≡◌, List, [], ◌∷◌, ◌++◌, ℕ, T, length}
use Rattle.lists.specs.Lists.{mem, ◌∈◌}
use Rattle.model.specs.Net.{Net, begin}
use Rattle.model.specs.Runs.{runs, by_event}
use Rattle.model.specs.Unfolding.{users, reads, picked, origin, basic}
use Rattle.model.specs.Across.{read_back}

-- ---- in the unfolded net

-- A reading of a list of events is a run of the unfolded net from its start that reads back as it (02, No. 3).
pub record Reading (n : Net) (r : List ℕ) : Type 0 where
  pub unfolded : List ℕ
  pub run : T (runs (basic n) (begin (basic n)) unfolded)
  pub back : read_back n unfolded ≡ r

-- Step i is the first that no reading goes past: the steps before it have one, and together with it they have none (02, No. 3).
pub record Unread (n : Net) (r : List ℕ) (i : ℕ) : Type 0 where
  pub before : List ℕ
  pub event : ℕ
  pub rest : List ℕ
  pub splits : r ≡ before ++ event ∷ rest
  pub place : i ≡ length before
  pub read : Reading n before
  pub broken : Reading n (before ++ event ∷ []) → ⊥

-- The picks of an unfolded list are forced: where the event behind a step came before, it is what the step picks for each persistent
-- precondition that the event marks (02, No. 3).
abbrev pub Forced : Net → List ℕ → Type 0
Forced n w =
    (before : List ℕ) (j : ℕ) (rest : List ℕ) → w ≡ before ++ j ∷ rest → T (mem (origin n j).event (read_back n before))
    → (b : ℕ) → b ∈ reads n (origin n j).event → T (mem b (n.postconditions (origin n j).event))
    → T (picked (reads n (origin n j).event) (origin n j).colour b (by_event (origin n j).event))

-- ---- in the table

-- An event marks for another: a persistent postcondition of it has a user other than itself (02, No. 3).
pub record ForAnother (n : Net) (e : ℕ) : Type 0 where
  pub condition : ℕ
  pub user : ℕ
  pub marks : T (mem condition (n.postconditions e))
  pub persists : T (n.persistent condition)
  pub uses : user ∈ users n condition
  pub other : user ≡ e → ⊥

-- At step i an event that marks for another comes again (02, No. 3).
pub record Again (n : Net) (r : List ℕ) (i : ℕ) : Type 0 where
  pub before : List ℕ
  pub event : ℕ
  pub rest : List ℕ
  pub splits : r ≡ before ++ event ∷ rest
  pub place : i ≡ length before
  pub marking : ForAnother n event
  pub earlier : T (mem event before)

-- Step i is the first of them, for none is among the steps before it: the place of refusal 15 (02, No. 3).
pub record FirstAgain (n : Net) (r : List ℕ) (i : ℕ) : Type 0 where
  pub here : Again n r i
  pub first : (j : ℕ) → Again n here.before j → ⊥
