-- What each turn of a loop in `tally::place` keeps.
use mathlib.Core.Path.{◌≡◌}
use Prim.Native.Nat.{◌+◌, ◌-◌, ◌≤◌}
use Rattle.lists.specs.Lists.{index}
use lib.Dec.{eqb}
use Rattle.table.specs.Decoded.{net_of}
use Rattle.table.proofs.InOrder.{Over}
use Rattle.tally.specs.Having.{having, having_from}
use Rattle.tally.proofs.place.Given as goal

abbrev pub invariant-loop-event : goal.invariant-loop-event
invariant-loop-event l =
    let i = l.event-iterator.number in
    Over l.table l.upto l.event-iterator
    × (l.found ≤ i)
    × (index (eqb l.e) (having (net_of l.table) l.post l.b l.upto) ≡ l.found + index (eqb l.e) (having_from (net_of l.table) l.post l.b i (l.upto - i)))
