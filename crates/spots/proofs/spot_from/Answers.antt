-- `spots::spot_from` meets its contract.
use Rattle.spots.proofs.Spots.{due_past, due_by}
use Rattle.spots.proofs.spot_from.Goals as goal

pub returns-in_default : goal.returns-in_default
returns-in_default c =
    due_past _ _ _ c.in_default.is c.requires

pub open_spot-spot-requires : goal.open_spot-spot-requires
open_spot-spot-requires c =
    due_by _ _ _ _ c.in-Some.is c.requires
