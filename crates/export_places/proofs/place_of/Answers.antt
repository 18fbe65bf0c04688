-- `export_places::place_of` meets its contract.
use mathlib.Core.Path.{sym, ap}
use Rattle.export_places.specs.Places.{place_of}
use Rattle.export_places.proofs.place_of.Goals as goal

pub returns-in-Some : goal.returns-in-Some
returns-in-Some c =
    ap place_of (sym c.in-Some.is)
