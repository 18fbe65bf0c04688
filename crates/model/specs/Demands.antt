-- What is promised of runs, lifts, projections and exchanges: the statements of the theorems, demands 2 and 3 among them.
use Rattle.std.specs.Prelude.{◌≡◌, Bool, true, ◌&&◌, ◌↔◌, List, ◌∷◌, ◌++◌, ℕ, ◌+◌, ◌<◌, T, length}
use Rattle.std.proofs.Math.Option.{none, some}
use Rattle.std.proofs.Math.ListN.{get_elem?}
use Rattle.lists.specs.Lists.{mem, ◌∈◌}
use Rattle.model.specs.Net.{Net, Marking, begin, Stop, stopping}
use Rattle.model.specs.Runs.{runs, end, Marker, at_start, by_event, State, opening}
use Rattle.model.specs.Unfolding.{UnfoldedCondition, ordinary, copy, users, unfolded_conditions, basic}
use Rattle.model.specs.Exchange.{exchanged}
use Rattle.model.specs.Across.{Lifting, lifted, repeated, read_back}

-- ---- replay

-- A replay stops at step i: the steps before it are a run, and this stops the next (01, Refusal numbers).
pub record Stops (n : Net) (k : ℕ) (s : State) (r : List ℕ) (v : Stop) (i : ℕ) : Type 0 where
  pub before : List ℕ
  pub event : ℕ
  pub rest : List ℕ
  pub splits : r ≡ before ++ event ∷ rest
  pub place : i ≡ k + length before
  pub plays : T (runs n s.marking before)
  pub stops : stopping n (end n s.marking before) event ≡ some v

-- ---- demand 2

-- A marking of the table and one of its unfolding correspond: an ordinary condition holds exactly if its unfolded condition
-- does; where a persistent one holds each of its users has a copy that does, and where a copy holds so does its condition (paper,
-- theorem 6.1).
pub record Correspond (n : Net) (m u : Marking) : Type 0 where
  pub same : (k b : ℕ) → get_elem? (unfolded_conditions n) k ≡ some (ordinary b) → u k ≡ m b
  pub copied : (b v : ℕ) → b < n.conditions → n.persistent b ≡ true → v ∈ users n b → T (m b)
      → (k : ℕ) × (q : Marker) × (get_elem? (unfolded_conditions n) k ≡ some (copy b q v)) × T (u k)
  pub back : (k b : ℕ) (q : Marker) (v : ℕ) → get_elem? (unfolded_conditions n) k ≡ some (copy b q v) → T (u k) → T (m b)

-- A lift is a run of the unfolded net from its start, it reads back as the run that was lifted, and the two ends correspond
-- (paper, theorem 6.1).
pub record Lifts (n : Net) (r w : List ℕ) : Type 0 where
  pub run : T (runs (basic n) (begin (basic n)) w)
  pub back : read_back n w ≡ r
  pub ends : Correspond n (end n (begin n) r) (end (basic n) (begin (basic n)) w)

-- A projection is a run of the table, read back from a run of the unfolded net, and the two ends correspond (paper, theorem
-- 6.1).
pub record Projects (n : Net) (w r : List ℕ) : Type 0 where
  pub unfolded : T (runs (basic n) (begin (basic n)) w)
  pub back : read_back n w ≡ r
  pub run : T (runs n (begin n) r)
  pub ends : Correspond n (end n (begin n) r) (end (basic n) (begin (basic n)) w)

-- Whether an unfolded condition holds after a run of the unfolded net, told from the run r that it reads back as alone: an
-- ordinary condition as in the table, a copy exactly if its marker has marked it (paper, section 6.1).
unfoldable pub holds_after : Net → List ℕ → UnfoldedCondition → Bool
unfolding end begin
holds_after n r (ordinary b) = end n (begin n) r b
holds_after n r (copy b at_start v) = mem b n.start
holds_after n r (copy b (by_event e) v) = mem e r && mem b (n.postconditions e)

-- ---- demand 3

-- With steps k and k + 1 exchanged it is still a run and ends the same; one has a repeat exactly if the other has; and without one
-- the lifted runs differ by the same exchange alone and end alike (README, What is promised: 3).
pub record Exchanged (n : Net) (l : Lifting) (r : List ℕ) (k : ℕ) : Type 0 where
  pub run : T (runs n (begin n) (exchanged k r))
  pub same_end : end n (begin n) (exchanged k r) ≡ end n (begin n) r
  pub both_lift : (repeated n l 0 (opening n) r ≡ none) ↔ (repeated n l 0 (opening n) (exchanged k r) ≡ none)
  pub swapped : lifted n l (opening n) (exchanged k r) ≡ exchanged k (lifted n l (opening n) r)
  pub lifted_end : repeated n l 0 (opening n) r ≡ none
      → end (basic n) (begin (basic n)) (lifted n l (opening n) (exchanged k r)) ≡ end (basic n) (begin (basic n)) (lifted n l (opening n) r)
