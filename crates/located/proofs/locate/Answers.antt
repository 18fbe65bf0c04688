-- `located::locate` meets its contract.
use Rattle.table.specs.Decoded.{net_of}
use Rattle.decided.specs.Kept.{marker_at}
use Rattle.located.proofs.Placed.{told_named}
use Rattle.located.proofs.Answers.{told_stops, goes_there}
use Rattle.located.proofs.locate.Goals as goal

pub relocated-requires : goal.relocated-requires
relocated-requires c =
    record {
      locating = c.requires.locating;
      named = told_named c.args.table.now c.args.markers.now c.args.users.now c.args.events c.args.e c.args.places.now c.args.kept.now c.requires.locating c.in-Err.cause (told_stops (net_of c.args.table.now) (marker_at (net_of c.args.table.now) c.args.places.now) c.args.e c.in-Err.is c.requires.told);
    }

pub returns-in-Ok : goal.returns-in-Ok
returns-in-Ok c =
    goes_there (net_of c.args.table.now) (marker_at (net_of c.args.table.now) c.args.places.now) c.args.e c.in-Ok.is

pub returns-in-Err : goal.returns-in-Err
returns-in-Err c =
    rw c.in-Err.is c.relocated.ensures
