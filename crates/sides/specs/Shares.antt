-- What an unfolded event has of one condition of the table, read from what is kept, and what of that is on each side.
use Rattle.std.specs.Prelude.{ℕ, ◌+◌, ◌*◌, ◌≤◌, ◌≡◌, Bool, true, false, ◌&&◌, cond, List, get_or}
use Rattle.tally.specs.Having.{one_at}
use Rattle.colours.specs.Colours.{flagged}
use Rattle.segments.specs.declared.Segment.{Segment}
use Rattle.segments.specs.Ranges.{alone_of, joined_of, size_if}
use Rattle.sides.specs.declared.Side.{Side}
use Rattle.sides.specs.declared.Side.TheVariants.{Takes, Fills, Puts, Empties}
use Rattle.sides.specs.declared.Share.{Share}
use Rattle.sides.specs.Sides.{parted_of}

-- What an unfolded event has of one condition, from its parts.
abbrev pub share_of : ℕ → ℕ → Bool → ℕ → ℕ → Share
share_of number takes back first size = record { number = number; takes = takes; back = back; first = first; size = size }

-- What it has of condition b, by the numbers that are read: of a persistent one the copy that it takes and gives back, and the copies that
-- its event marks; an ordinary one that is both is given back where the table has the paper's rule (01, Unfolding; 02, No. 4).
abbrev pub share_at : List ℕ → List ℕ → List ℕ → List ℕ → List ℕ → List ℕ → List ℕ → List ℕ → Bool → ℕ → Share
share_at s users bases marks uses chosen before after paper b =
    cond (flagged s b)
    (cond (one_at before b)
    (share_of (get_or bases b 0 + get_or chosen b 0 * get_or users b 0 + get_or uses b 0) 1 true
    (get_or bases b 0 + get_or marks b 0 * get_or users b 0) (size_if true (one_at after b) (get_or users b 0)))
    (share_of (get_or bases b 0 + get_or marks b 0 * get_or users b 0) 0 false
    (get_or bases b 0 + get_or marks b 0 * get_or users b 0) (size_if true (one_at after b) (get_or users b 0))))
    (share_of (get_or bases b 0) (size_if true (one_at before b) 1) (one_at before b && one_at after b && paper) (get_or bases b 0) (size_if true (one_at after b) 1))

-- The numbers that are read are small.
pub record Sharing (s users bases marks uses chosen before : List ℕ) (b : ℕ) : Type 0 where
  pub marked : flagged s b ≡ true → get_or bases b 0 + get_or marks b 0 * get_or users b 0 ≤ 65535
  pub taken : flagged s b ≡ true → one_at before b ≡ true → get_or bases b 0 + get_or chosen b 0 * get_or users b 0 + get_or uses b 0 ≤ 65535

-- The numbers of it that are on a side: what is given back is neither filled nor emptied (02, No. 1 and No. 4).
abbrev pub side_of : Side → Share → Segment
side_of Takes g = alone_of g.number g.takes
side_of Fills g = cond g.back (parted_of g.number g.first g.size) (alone_of g.first g.size)
side_of Puts g = cond g.back (joined_of g.number g.first g.size) (alone_of g.first g.size)
side_of Empties g = cond g.back (alone_of g.number 0) (alone_of g.number g.takes)
