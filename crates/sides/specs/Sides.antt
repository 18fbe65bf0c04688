-- The four sides of an unfolded event: which unfolded conditions are on each, and how they are kept as ranges.
use Rattle.std.specs.Prelude.{ℕ, ◌+◌, ◌-◌, Bool, true, false, not, ◌&&◌, cond, List, ltb}
use Rattle.lists.specs.Lists.{places_from, sum}
use Rattle.model.specs.Net.{Net}
use Rattle.model.specs.Unfolding.{copies, UnfoldedEvent, UnfoldedCondition, takes, puts, follows}
use Rattle.model.specs.Numbering.{width}
use Rattle.segments.specs.declared.Segment.{Segment}
use Rattle.segments.specs.Ranges.{alone_of, Known}
use Rattle.sides.specs.declared.Side.{Side}
use Rattle.sides.specs.declared.Side.TheVariants.{Takes, Fills, Puts, Empties}

-- An unfolded condition is on a side of an unfolded event: it is taken, put without being taken, put, or taken without being put; what
-- follows the old rule is filled and emptied even where it is both (02, No. 1 and No. 4).
abbrev pub sided : Net → Side → UnfoldedEvent → UnfoldedCondition → Bool
sided n Takes x p = takes n x p
sided n Fills x p = puts n x p && not (takes n x p && not (follows n p))
sided n Puts x p = puts n x p
sided n Empties x p = takes n x p && not (puts n x p && not (follows n p))

-- The numbers that condition b adds to a side of an unfolded event (02, No. 1).
unfoldable pub added_on : Net → Side → UnfoldedEvent → ℕ → List ℕ
added_on n side x b = places_from (sum (width n) b) (sided n side x) (copies n b)

-- A range without one number, which may be outside it.
abbrev pub parted_of : ℕ → ℕ → ℕ → Segment
parted_of taken first size =
    cond (ltb taken first) (alone_of first size)
    (cond (ltb taken (first + size)) (record { first = first; size = taken - first; next = taken + 1; more = (first + size) - (taken + 1) })
    (alone_of first size))

-- All that is read of one unfolded event: what is known of it with the members of its preconditions, and with those of its postconditions.
pub record Sided (s users bases marks uses chosen pre before after : List ℕ) (e rest : ℕ) : Type 0 where
  pub taking : Known s users bases marks uses chosen pre before false e rest
  pub putting : Known s users bases marks uses chosen pre after true e rest
