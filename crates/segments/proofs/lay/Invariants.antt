-- What each turn of a loop in `segments::lay` keeps.
use Prim.Native.Nat.{◌*◌}
use mathlib.Core.Path.{◌≡◌}
use lib.ListN.{length}
use Rattle.lists.specs.Lists.{count, spread}
use Rattle.table.specs.Decoded.{net_of}
use Rattle.segments.specs.Ranges.{ranged, event_at, added}
use Rattle.segments.proofs.lay.Given as goal

abbrev pub invariant-loop-b : goal.invariant-loop-b
invariant-loop-b l =
    (length l.starts ≡ 512)
    × (length l.sizes ≡ 512)
    × (ranged l.starts l.sizes (2 * l.b) ≡ spread (added (net_of l.table) l.post (event_at (net_of l.table) l.own.event l.own.rest)) (count 0 l.b))
