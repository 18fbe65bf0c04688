-- `starting::write_start` meets its contract.
use Rattle.table.specs.Decoded.{net_of}
use Rattle.table.proofs.Decoded.{events_are_all}
use Rattle.starting.proofs.Starts.{start_written}
use Rattle.starting.proofs.write_start.Goals as goal

pub write_copies-requires : goal.write_copies-requires
write_copies-requires c =
    record {
      prepared = record { roomy = c.requires.roomy; started = c.start_held-held.ensures };
      events_value = events_are_all _ _ c.requires.table_value;
      places_len = c.requires.places_len;
    }

pub returns : goal.returns
returns c =
    start_written (net_of c.args.table.now) _ c.start_held-held.ensures c.args.out.now _ c.write_copies.ensures
