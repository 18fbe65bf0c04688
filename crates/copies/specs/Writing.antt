-- What the writers of an unfolded marking need and leave, byte by byte.
use Rattle.std.specs.Prelude.{◌≡◌, Bool, true, false, cond, List, ℕ, ◌+◌, ◌*◌, ◌≤◌, ◌<◌, T, ltb, length, get_or}
use Rattle.std.proofs.Math.Option.{some}
use Rattle.std.proofs.Math.ListN.{get_elem?}
use Rattle.lists.specs.Lists.{mem}
use Rattle.model.specs.Net.{Net, Marking, begin}
use Rattle.model.specs.Lent.{bit}
use Rattle.model.specs.Runs.{at_start, by_event}
use Rattle.model.specs.Unfolding.{UnfoldedCondition, ordinary, copy, unfolded_conditions, basic}
use Rattle.model.specs.Across.{most_unfolded}
use Rattle.table.specs.Decoded.{net_of}
use Rattle.colours.specs.Colours.{flagged}
use Rattle.layout.specs.Laid.{Laid}
use Rattle.copies.specs.Copies.{holds_by}

-- ---- ranges of bytes

-- A place is one of so many from a place on.
abbrev pub Within : ℕ → ℕ → ℕ → Type 0
Within from count k = (from ≤ k) × (k < from + count)

-- A range lies in the bytes, and within the limit of unfolded conditions (01, Unfolding).
pub record Fits (from count : ℕ) (out : List ℕ) : Type 0 where
  pub inside : from + count ≤ length out
  pub small : from + count ≤ most_unfolded

-- A range was set to a byte, and all else stayed.
pub record Ranged (from count value : ℕ) (before after : List ℕ) : Type 0 where
  pub same : length after ≡ length before
  pub inside : (k : ℕ) → Within from count k → get_or after k 0 ≡ value
  pub outside : (k : ℕ) → (Within from count k → ⊥) → get_or after k 0 ≡ get_or before k 0

-- How many bytes a condition has of its own, as ordinary one or for the start as marker (01, Unfolding).
abbrev pub own_count : List ℕ → List ℕ → ℕ → ℕ
own_count s users b = cond (flagged s b) (get_or users b 0) 1

-- What these bytes tell: whether it holds, or whether it held at the start (01, Unfolding).
abbrev pub own_holds : List ℕ → Marking → Marking → ℕ → Bool
own_holds s begun m b = cond (flagged s b) (begun b) (m b)

-- Where the copies of a condition for the marker at its running place begin (01, Unfolding).
abbrev pub copies_from : List ℕ → List ℕ → List ℕ → ℕ → ℕ
copies_from users bases places b = get_or bases b 0 + get_or places b 0 * get_or users b 0

-- How many these are: one for each user, and none where the condition is ordinary (01, Unfolding).
abbrev pub copies_count : List ℕ → List ℕ → ℕ → ℕ
copies_count s users b = cond (flagged s b) (get_or users b 0) 0

-- The range of a persistent condition lies in the bytes.
abbrev pub CopiesFit : List ℕ → List ℕ → List ℕ → List ℕ → ℕ → List ℕ → Type 0
CopiesFit s users bases places b out = flagged s b ≡ true → Fits (copies_from users bases places b) (get_or users b 0) out

-- So do those of all conditions of a list.
abbrev pub ListFits : List ℕ → List ℕ → List ℕ → List ℕ → List ℕ → List ℕ → Type 0
ListFits s users bases places list out = (b : ℕ) → T (mem b list) → CopiesFit s users bases places b out

-- The ranges of a list of conditions were set to a byte, and all else stayed.
pub record Listed (s users bases places list : List ℕ) (value : ℕ) (before after : List ℕ) : Type 0 where
  pub same : length after ≡ length before
  pub inside : (b k : ℕ) → T (mem b list) → Within (copies_from users bases places b) (copies_count s users b) k → get_or after k 0 ≡ value
  pub outside : (k : ℕ) → ((b : ℕ) → T (mem b list) → Within (copies_from users bases places b) (copies_count s users b) k → ⊥) → get_or after k 0 ≡ get_or before k 0

-- ---- the unfolded marking, as far as it is written

-- The bytes of the unfolded conditions that pass a test are right, and what lies past the last stayed.
pub record Right (n : Net) (m : Marking) (seen : ℕ → Bool) (test : UnfoldedCondition → Bool) (before after : List ℕ) : Type 0 where
  pub same : length after ≡ length before
  pub right : (k : ℕ) (p : UnfoldedCondition) → get_elem? (unfolded_conditions n) k ≡ some p → T (test p) → get_or after k 0 ≡ bit (holds_by n m seen p)
  pub rest : (k : ℕ) → length (unfolded_conditions n) ≤ k → get_or after k 0 ≡ get_or before k 0

-- An unfolded condition is one of the first conditions', ordinary or marked by the start.
abbrev pub own_below : ℕ → UnfoldedCondition → Bool
own_below c (ordinary b) = ltb b c
own_below c (copy b at_start v) = ltb b c
own_below c (copy b (by_event e) v) = false

-- Every ordinary condition and every copy that the start marks is right, whatever events have occurred.
abbrev pub OwnRight : Net → Marking → List ℕ → List ℕ → Type 0
OwnRight n m before after = (seen : ℕ → Bool) → Right n m seen (own_below n.conditions) before after

-- An unfolded condition is ordinary, or marked by the start or by one of the first events.
abbrev pub marked_below : ℕ → UnfoldedCondition → Bool
marked_below e (ordinary b) = true
marked_below e (copy b at_start v) = true
marked_below e (copy b (by_event x) v) = ltb x e

-- A table is laid out, and there is room for every unfolded condition.
pub record Roomy (s users bases : List ℕ) (room : ℕ) : Type 0 where
  pub markers : List ℕ
  pub laid : Laid s markers users bases
  pub fits : (basic (net_of s)).conditions ≤ room

-- Beside that a marking is its start.
pub record Prepared (s users bases : List ℕ) (begun : Marking) (room : ℕ) : Type 0 where
  pub roomy : Roomy s users bases room
  pub started : begun ≡ begin (net_of s)

-- Where all but what events mark was right, everything is now, whatever the table's marking is.
abbrev pub EventsRight : Net → (ℕ → Bool) → List ℕ → List ℕ → Type 0
EventsRight n seen out after =
    (m : Marking) (before : List ℕ) → Right n m seen (marked_below 0) before out → Right n m seen (marked_below n.events) before after
