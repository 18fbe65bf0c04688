-- What each turn of a loop in `sides::lay_side` keeps.
use Prim.Native.Nat.{◌*◌}
use mathlib.Core.Path.{◌≡◌}
use lib.ListN.{length}
use Rattle.lists.specs.Lists.{count, spread}
use Rattle.segments.specs.Ranges.{ranged, within}
use Rattle.sides.specs.Shares.{share_at, side_of}
use Rattle.sides.proofs.Raised.{raise}
use Rattle.sides.proofs.lay_side.Given as goal

abbrev pub invariant-loop-b : goal.invariant-loop-b
invariant-loop-b l =
    (length l.starts ≡ length l.initial.starts)
    × (length l.sizes ≡ length l.initial.sizes)
    × (ranged l.starts l.sizes (2 * l.b) ≡ raise l.shift (spread (λ i. within (side_of l.side (share_at l.table l.users l.bases l.marks l.uses l.chosen l.before l.after l.paper i))) (count 0 l.b)))
