-- The lists of an unfolded event as ranges of numbers: what each condition of the table adds to them, and how the ranges are kept.
use Rattle.std.specs.Prelude.{ℕ, ◌+◌, ◌/◌, ◌%◌, ◌≤◌, ◌<◌, ◌≡◌, Bool, true, false, ◌&&◌, cond, List, [], ◌∷◌, ◌++◌, map, T, ltb, length, get_or, set}
use Rattle.lists.specs.Lists.{mem, count, spread, places_from, sum}
use Rattle.model.specs.Net.{Net}
use Rattle.model.specs.Runs.{Marker, at_start}
use Rattle.model.specs.Unfolding.{same_marker, markers, reads, picked, copies, UnfoldedEvent, UnfoldedCondition, takes, puts, basic}
use Rattle.model.specs.Numbering.{ways, digits, size, width, condition_count}
use Rattle.model.specs.Across.{most_unfolded}
use Rattle.words.specs.Words.{words}
use Rattle.table.specs.Walk.{offset_of}
use Rattle.table.specs.Decoded.{net_of}
use Rattle.table.specs.Tabled.{Tabled}
use Rattle.tally.specs.Having.{Members, Tally, list_of}
use Rattle.colours.specs.Colours.{flagged}
use Rattle.layout.specs.Laid.{Marked, Laid, Sums}
use Rattle.unfolding.specs.Numbers.{choices_of}
use Rattle.segments.specs.declared.Segment.{Segment}

-- ---- ranges

-- The numbers of so many ranges from range i on, each from its start on and as many as its size says.
unfoldable pub ranged_from : List ℕ → List ℕ → ℕ → ℕ → List ℕ
ranged_from starts sizes i k = spread (λ r. count (get_or starts r 0) (get_or sizes r 0)) (count i k)

-- The numbers of the first k ranges.
abbrev pub ranged : List ℕ → List ℕ → ℕ → List ℕ
ranged starts sizes k = ranged_from starts sizes 0 k

-- The numbers of a segment: those of its two ranges.
abbrev pub within : Segment → List ℕ
within g = count g.first g.size ++ count g.next g.more

-- One range alone.
abbrev pub alone_of : ℕ → ℕ → Segment
alone_of first size = record { first = first; size = size; next = first + size; more = 0 }

-- One number and a range, in order, the number once where the range has it (01, Unfolding).
abbrev pub joined_of : ℕ → ℕ → ℕ → Segment
joined_of taken first size =
    cond (ltb taken first) (record { first = taken; size = 1; next = first; more = size })
    (cond (ltb taken (first + size)) (alone_of first size)
    (record { first = first; size = size; next = taken; more = 1 }))

-- ---- chosen markers

-- How many choices condition b leaves to a colour: its markers, or one where it is ordinary (01, Unfolding).
abbrev pub choices_at : List ℕ → List ℕ → ℕ → ℕ
choices_at s ms b = cond (flagged s b) (get_or ms b 0) 1

-- For each of a list of preconditions the place of its marker, read from what is left of a colour's number (01, Unfolding).
unfoldable pub chosen_from : List ℕ → List ℕ → ℕ → List ℕ → List ℕ
chosen_from s [] rest chosen = chosen
chosen_from s (b ∷ l) rest chosen = chosen_from s l (rest % ways (choices_of s l)) (set chosen b (rest / ways (choices_of s l)))

-- What must hold to take a colour's number apart.
pub record Choosing (s ms l : List ℕ) (weight rest : ℕ) : Type 0 where
  pub marked : Marked s ms
  pub inside : (b : ℕ) → T (mem b l) → b < 256
  pub whole : weight ≡ ways (choices_of s l)
  pub limit : weight ≤ most_unfolded
  pub below : rest < weight

-- ---- what one condition of the table adds

-- An unfolded event of event e by what is left of its number (01, Runs across).
abbrev pub event_at : Net → ℕ → ℕ → UnfoldedEvent
event_at n e rest = record { event = e; colour = digits (map (markers n) (reads n e)) rest }

-- What an unfolded event puts, or takes (01, Unfolding).
abbrev pub touching : Net → Bool → UnfoldedEvent → UnfoldedCondition → Bool
touching n true x = puts n x
touching n false x = takes n x

-- The numbers that condition b adds to a list of an unfolded event (01, Unfolding).
unfoldable pub added : Net → Bool → UnfoldedEvent → ℕ → List ℕ
added n post x b = places_from (sum (width n) b) (touching n post x) (copies n b)

-- The size of a range that counts and whose condition is a member.
abbrev pub size_if : Bool → Bool → ℕ → ℕ
size_if counts member size = cond (counts && member) size 0

-- The place of the chosen marker is written for each persistent precondition (01, Unfolding).
abbrev pub Chosen : Net → ℕ → ℕ → List ℕ → Type 0
Chosen n e rest chosen =
    (b : ℕ) → T (mem b (n.preconditions e)) → n.persistent b ≡ true
    → (get_or chosen b 0 < length (markers n b))
    × ((m : Marker) → picked (reads n e) (digits (map (markers n) (reads n e)) rest) b m ≡ same_marker m (get_or (markers n b) (get_or chosen b 0) at_start))

-- All that is read of one unfolded event and one of its lists: the table's numbers, the places of its event among markers and users,
-- the places of the chosen markers, its preconditions and the list's members (01, Unfolding).
pub record Known (s users bases marks uses chosen pre members : List ℕ) (post : Bool) (e rest : ℕ) : Type 0 where
  pub limits : Tabled (net_of s)
  pub flags : (b : ℕ) → flagged s b ≡ (net_of s).persistent b
  pub used : Tally (net_of s) false 0 (net_of s).events users
  pub sums : Sums (width (net_of s)) (net_of s).conditions bases
  pub few : condition_count (net_of s) ≤ most_unfolded
  pub event : e < (net_of s).events
  pub own_marks : Tally (net_of s) true 1 e marks
  pub own_uses : Tally (net_of s) false 0 e uses
  pub places : Chosen (net_of s) e rest chosen
  pub reading : words pre ≡ (net_of s).preconditions e
  pub listing : Members (list_of (net_of s) post e) members

-- An event of a table that is laid out, with its record's offset, its number of colours and what is left of a number (01, Unfolding).
pub record Owned (s ms us bases : List ℕ) (e at weight rest : ℕ) : Type 0 where
  pub laid : Laid s ms us bases
  pub event : e < (net_of s).events
  pub offset : at ≡ offset_of s e
  pub whole : weight ≡ size (net_of s) e
  pub below : rest < weight

-- ---- a whole list

-- So many ranges, at most two for each of 256 conditions, have the numbers of one list of unfolded event j, each below the most that
-- there can be (01, Unfolding).
pub record Ranges (n : Net) (post : Bool) (j : ℕ) (starts sizes : List ℕ) (k : ℕ) : Type 0 where
  pub numbers : ranged starts sizes k ≡ list_of (basic n) post j
  pub low : (b : ℕ) → T (mem b (ranged starts sizes k)) → b < 65535
  pub few : k ≤ 512
