-- `tally::members` meets its contract.
use mathlib.Core.Path.{refl}
use Rattle.tally.proofs.Tallies.{members_room, members_one}
use Rattle.tally.proofs.members.Goals as goal

pub raise-requires : goal.raise-requires
raise-requires c =
    members_room c.args.list.now _ c.requires refl tt

pub returns : goal.returns
returns c =
    members_one c.args.list.now _ c.requires refl tt c.raise.new.counts c.raise.ensures
