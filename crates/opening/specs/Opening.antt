-- What the two files are opened to.
use Rattle.std.specs.Prelude.{◌≡◌, List, ℕ, ◌≤◌, length, take, replicate, Result, Ok, Err}
use Rattle.model.specs.Net.{begin}
use Rattle.model.specs.Lent.{bytes}
use Rattle.model.specs.Runs.{end}
use Rattle.model.specs.Unfolding.{basic}
use Rattle.model.specs.Across.{lift, most_steps, most_unfolded}
use Rattle.refusal.specs.Answer.{Judged, and_then}
use Rattle.refusal.specs.declared.Refusal.{Refusal}
use Rattle.table.specs.Walk.{judge_of}
use Rattle.table.specs.Decoded.{net_of}
use Rattle.runs.specs.Runs.{run_of}
use Rattle.played.specs.Played.{Indexed}
use Rattle.across.specs.Calls.{numbers_of}
use Rattle.lift.specs.Calls.{lift_of}
use Rattle.ends.specs.Calls.{unfolded_replay_of}
use Rattle.listing.specs.Calls.{files_of}
use Rattle.opening.specs.declared.Opened.{Opened}

-- The lifted run of a run (01, Nets to test with: Listing).
unfoldable pub lifted_run : List ℕ → List ℕ → List ℕ
lifted_run s r = numbers_of (lift (net_of s) r)

-- The bytes of the marking at the start (01, Nets to test with: Listing).
unfoldable pub start_bytes : List ℕ → List ℕ
start_bytes s = bytes (net_of s).conditions (begin (net_of s))

-- The bytes of the unfolded marking that the lift of a run ends in (01, Nets to test with: Listing).
unfoldable pub end_bytes : List ℕ → List ℕ → List ℕ
end_bytes s r = bytes (basic (net_of s)).conditions (end (basic (net_of s)) (begin (basic (net_of s))) (lifted_run s r))

-- A run lifted and its lift replayed: the lift's own refusals, then those of the replay; fine: the number of unfolded conditions (01,
-- Nets to test with: Listing).
unfoldable pub reach_of : List ℕ → List ℕ → Judged
reach_of s r = and_then (lift_of s r most_steps) (λ _. unfolded_replay_of s (lifted_run s r) most_unfolded)

-- The two files opened: the refusals of the files, then those of the run; fine: the number of steps (01, Nets to test with: Listing).
unfoldable pub open_of : List ℕ → List ℕ → Judged
open_of s r = and_then (files_of s r most_steps) (λ steps. and_then (reach_of s (run_of r)) (λ _. Ok steps))

-- Lent memory before the files are opened: long enough, and nothing holds.
pub record Empty (steps lifted offsets marking end : List ℕ) : Type 0 where
  pub many : length steps ≡ most_steps
  pub beside : length lifted ≡ most_steps
  pub indexes : 256 ≤ length offsets
  pub clear : marking ≡ replicate 256 0
  pub roomy : length end ≡ most_unfolded

-- A run lifted into lent memory, and the end of its lift beside it.
pub record Reaches (s r : List ℕ) (answer : Judged) (lifted end : List ℕ) : Type 0 where
  pub told : answer ≡ reach_of s r
  pub few : (unfolded : ℕ) → answer ≡ Ok unfolded → unfolded ≤ most_unfolded
  pub lifts : (unfolded : ℕ) → answer ≡ Ok unfolded → take (length r) lifted ≡ lifted_run s r
  pub ended : (unfolded : ℕ) → answer ≡ Ok unfolded → take unfolded end ≡ end_bytes s r

-- The index of a table and the marking at its start in lent memory.
pub record SetsUp (s : List ℕ) (answer : Judged) (offsets marking : List ℕ) : Type 0 where
  pub told : answer ≡ judge_of s
  pub indexed : (events : ℕ) → answer ≡ Ok events → Indexed s events offsets
  pub begun : (events : ℕ) → answer ≡ Ok events → marking ≡ bytes 256 (begin (net_of s))

-- What lent memory holds once the files are opened, for a run of so many steps.
pub record Holds (s r : List ℕ) (count events conditions unfolded : ℕ) (steps lifted offsets marking end : List ℕ) : Type 0 where
  pub judged : judge_of s ≡ Ok events
  pub indexed : Indexed s events offsets
  pub short : count ≤ most_steps
  pub run : take count steps ≡ run_of r
  pub lifts : take count lifted ≡ lifted_run s (run_of r)
  pub are : conditions ≡ (net_of s).conditions
  pub begun : take conditions marking ≡ start_bytes s
  pub few : unfolded ≤ most_unfolded
  pub ended : take unfolded end ≡ end_bytes s (run_of r)

-- The number of steps that two files are opened to, or the refusal.
abbrev pub steps_in : Result Opened Refusal → Judged
steps_in (Ok o) = Ok o.steps
steps_in (Err refusal) = Err refusal

-- The answer to two files, and what lent memory holds where they are not refused.
pub record Opens (s r : List ℕ) (answer : Result Opened Refusal) (steps lifted offsets marking end : List ℕ) : Type 0 where
  pub told : steps_in answer ≡ open_of s r
  pub holds : (o : Opened) → answer ≡ Ok o → Holds s r o.steps o.events o.conditions o.unfolded steps lifted offsets marking end
