-- The arcs of one transition of the exported net, as ranges of places.
use Rattle.std.specs.Prelude.{ℕ, ◌+◌, ◌*◌, ◌<◌, ◌≡◌, true, false, cond, List, ◌++◌, T, eqb, length}
use Rattle.lists.specs.Lists.{mem, sum}
use Rattle.model.specs.Net.{Net}
use Rattle.model.specs.Unfolding.{basic}
use Rattle.doubled.specs.Plain.{Plain}
use Rattle.doubled.specs.Doubling.{doubled}
use Rattle.table.specs.Decoded.{net_of}
use Rattle.tally.specs.Having.{Tally}
use Rattle.segments.specs.Ranges.{ranged}
use Rattle.sides.specs.declared.Side.{Side}
use Rattle.sides.specs.declared.Side.TheVariants.{Takes, Fills, Puts, Empties}

-- The net that is exported: the unfolded net doubled (02, No. 1).
unfoldable pub exported : Net → Plain
exported n = doubled (basic n)

-- How many arcs a transition has (02, No. 1).
unfoldable pub arcs_at : Net → ℕ → ℕ
unfolding exported
arcs_at n j = length ((exported n).inputs j) + length ((exported n).outputs j)

-- How many arcs the first transitions have (02, No. 1).
abbrev pub arcs_before : Net → ℕ → ℕ
arcs_before n j = sum (arcs_at n) j

-- Of the ranges, two for each condition of the table and each side, the first half are the places of the arcs into a transition, the
-- other those of the arcs out of it (02, No. 1).
pub record Arcs (n : Net) (j : ℕ) (starts sizes : List ℕ) : Type 0 where
  pub in_starts : length starts ≡ 2048
  pub in_sizes : length sizes ≡ 2048
  pub into : ranged starts sizes (4 * n.conditions) ≡ (exported n).inputs j
  pub all : ranged starts sizes (8 * n.conditions) ≡ (exported n).inputs j ++ (exported n).outputs j
  pub low : (x : ℕ) → T (mem x (ranged starts sizes (8 * n.conditions))) → x < 131070

-- The places of event e among the markers and the users of each condition (01, Unfolding).
pub record Shared (s : List ℕ) (e : ℕ) (marks uses : List ℕ) : Type 0 where
  pub marks_are : Tally (net_of s) true 1 e marks
  pub uses_are : Tally (net_of s) false 0 e uses

-- Lent numbers before a transition is opened: those of its event, or any where it is the first of its event.
pub record Lent (s : List ℕ) (e rest : ℕ) (marks uses : List ℕ) : Type 0 where
  pub in_marks : length marks ≡ 256
  pub in_uses : length uses ≡ 256
  pub shared : 0 < rest → Shared s e marks uses

-- The side that is laid at a place: into the transition what is taken and filled, then out of it what is put and emptied (02, No. 1).
abbrev pub side_at : ℕ → Side
side_at i = cond (eqb i 0) Takes (cond (eqb i 1) Fills (cond (eqb i 2) Puts Empties))

-- What makes a number of a side a place: taken and put are first places, filled and emptied second ones (02, No. 1).
abbrev pub shift_of : ℕ → Side → ℕ
shift_of firsts Takes = 0
shift_of firsts Fills = firsts
shift_of firsts Puts = 0
shift_of firsts Empties = firsts
