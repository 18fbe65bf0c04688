-- What is promised of a stopped step: by which condition, the lowest of those that stop it.
use Rattle.std.specs.Prelude.{◌≡◌, Bool, not, ◌&&◌, ◌||◌, List, ◌∷◌, ◌++◌, ℕ, ◌+◌, ◌<◌, ◌≤◌, T, length}
use Rattle.lists.specs.Lists.{mem}
use Rattle.model.specs.Net.{Net, Marking, Stop, unknown, lacks, meets}
use Rattle.model.specs.Runs.{runs, end}

-- ---- one firing

-- A number passes a test, and none below it does (02, No. 2).
pub record Least (P : ℕ → Bool) (b : ℕ) : Type 0 where
  pub passes : T (P b)
  pub least : (c : ℕ) → T (P c) → b ≤ c

-- An event lacks a condition that is a precondition of it and does not hold (01, Playing the table).
unfoldable pub lacked : Net → Marking → ℕ → ℕ → Bool
lacked n m e b = mem b (n.preconditions e) && not (m b)

-- An event is in contact on a condition that is a postcondition of it, ordinary, holds, and is no precondition of it or under the old
-- rule (01, Playing the table; 02, No. 4).
unfoldable pub touched : Net → Marking → ℕ → ℕ → Bool
touched n m e b = mem b (n.postconditions e) && (m b && (not (n.persistent b) && (not (mem b (n.preconditions e)) || n.old b)))

-- A number is stopped because it is that of no event; an event by the lowest condition that it lacks, or, where all its preconditions
-- hold, by the lowest on which it is in contact (02, No. 2).
abbrev pub StoppedBy : Net → Marking → ℕ → Stop → Type 0
StoppedBy n m e unknown = e < n.events → ⊥
StoppedBy n m e (lacks b) = (e < n.events) × Least (lacked n m e) b
StoppedBy n m e (meets b) = (e < n.events) × ((c : ℕ) → T (mem c (n.preconditions e)) → T (m c)) × Least (touched n m e) b

-- ---- a run

-- A run begun at a marking is stopped at step i, steps counted from k: those before it are a run, and the next is stopped by that where
-- they end (02, No. 2).
pub record StoppedAt (n : Net) (k : ℕ) (m : Marking) (r : List ℕ) (v : Stop) (i : ℕ) : Type 0 where
  pub before : List ℕ
  pub event : ℕ
  pub rest : List ℕ
  pub splits : r ≡ before ++ event ∷ rest
  pub place : i ≡ k + length before
  pub plays : T (runs n m before)
  pub by : StoppedBy n (end n m before) event v
