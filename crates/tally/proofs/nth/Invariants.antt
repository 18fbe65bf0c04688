-- What each turn of a loop in `tally::nth` keeps.
use mathlib.Core.Path.{◌≡◌}
use Prim.Native.Nat.{◌-◌, ◌≤◌}
use lib.ListN.{get_or}
use Rattle.table.specs.Decoded.{net_of}
use Rattle.table.proofs.InOrder.{Over}
use Rattle.tally.specs.Having.{having, having_from}
use Rattle.tally.proofs.nth.Given as goal

abbrev pub invariant-loop-event : goal.invariant-loop-event
invariant-loop-event l =
    let i = l.event-iterator.number in
    Over l.table l.upto l.event-iterator
    × (l.left ≤ l.wanted)
    × (get_or (having_from (net_of l.table) l.post l.b i (l.upto - i)) l.left 0 ≡ get_or (having (net_of l.table) l.post l.b l.upto) l.wanted 0)
