-- What the inner functions need and leave.
use Rattle.std.specs.Prelude.{ℕ, ◌≤◌, ◌<◌, ◌≡◌, List, length, get_or, Result, Ok, Err}
use Rattle.model.specs.Net.{begin}
use Rattle.model.specs.Lent.{bit}
use Rattle.model.specs.Unfolding.{basic}
use Rattle.refusal.specs.declared.Refusal.{Refusal}
use Rattle.refusal.specs.Answer.{Judged}
use Rattle.table.specs.Decoded.{net_of}
use Rattle.layout.specs.Unfolds.{unfolding_of}
use Rattle.export_places.specs.Needs.{Numbered}
use Rattle.elements.specs.declared.Opened.{Opened}

-- A table that unfolds, with its numbers and the bytes of the unfolded start (01, Unfolding).
pub record Ready (s : List ℕ) (events conditions transitions : ℕ) (ms us bs start : List ℕ) : Type 0 where
  pub numbered : Numbered s events conditions transitions ms us bs
  pub roomy : conditions ≤ length start
  pub begun : (b : ℕ) → b < conditions → get_or start b 0 ≡ bit (begin (basic (net_of s)) b)

-- The number of events that a table is opened to, or the refusal.
abbrev pub events_in : Result Opened Refusal → Judged
events_in (Ok o) = Ok o.events
events_in (Err refusal) = Err refusal

-- The answer to a table that is opened, and what lent memory holds where it is not refused.
pub record Opens (s : List ℕ) (answer : Result Opened Refusal) (ms us bs start : List ℕ) : Type 0 where
  pub told : events_in answer ≡ unfolding_of s (Ok (net_of s).events)
  pub ready : (o : Opened) → answer ≡ Ok o → Ready s o.events o.conditions o.transitions ms us bs start
