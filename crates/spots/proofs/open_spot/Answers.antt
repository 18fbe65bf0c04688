-- `spots::open_spot` meets its contract.
use mathlib.Core.Path.{refl}
use native.Mathlib.Omega.{arith}
use Rattle.spots.proofs.Spots.{due_owned, due_lent, due_ranges, due_open, spot_first}
use Rattle.spots.proofs.open_spot.Goals as goal

pub open_transition-requires : goal.open_transition-requires
open_transition-requires c =
    record {
      owned = due_owned c.requires;
      lent = due_lent c.requires;
      starts_len = (c.requires.sized.in_starts, c.requires.sized.in_sizes);
    }

pub next_range-range-requires : goal.next_range-range-requires
next_range-range-requires c =
    (omega arith, omega (arith, (due_ranges c.requires c.range_count.result c.range_count.ensures).1, c.open_transition.ensures.laid.in_sizes))

pub returns : goal.returns
returns c =
    (spot_first (due_open c.requires _ _ _ _ c.open_transition.ensures.shared c.open_transition.ensures.laid) c.requires.table c.range_count.result c.next_range-range.result (due_ranges c.requires c.range_count.result c.range_count.ensures).0 c.next_range-range.ensures, refl)
