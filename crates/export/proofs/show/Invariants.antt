-- What an element is written from is there at the next place, and one element fewer is left.
use Rattle.std.proofs.Common.{◌≡◌, ◌-◌, ◌≤◌, length}
use Rattle.table.specs.Decoded.{net_of}
use Rattle.spots.specs.Spots.{Sized}
use Rattle.export_places.specs.declared.Place.TheVariants.{Over}
use Rattle.export_places.specs.Places.{index_at, Stands}
use Rattle.export.proofs.show.Given as goal

abbrev pub invariant-loop-opened : goal.invariant-loop-opened
invariant-loop-opened g l =
    Sized l.marks l.uses l.starts l.sizes × Stands l.table l.markers l.users l.bases l.marks l.uses l.starts l.sizes l.place × (l.gathered ≤ 65280) × (length l.element ≡ 256) × (length l.text ≡ 65536)

abbrev pub decreases-loop-opened : goal.decreases-loop-opened
decreases-loop-opened g l = index_at (net_of l.table) Over - index_at (net_of l.table) l.place
