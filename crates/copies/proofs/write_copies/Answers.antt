-- `copies::write_copies` meets its contract.
use mathlib.Core.Path.{sym, subst}
use Prim.Native.Nat.{ℕ}
use Rattle.model.specs.Lent.{marking}
use Rattle.held.specs.Held.{held_in}
use Rattle.table.specs.Decoded.{net_of}
use Rattle.copies.specs.Writing.{Roomy}
use Rattle.copies.proofs.Steps.{right_own}
use Rattle.copies.proofs.Ends.{right_all}
use Rattle.copies.proofs.write_copies.Goals as goal

pub write_events-requires : goal.write_events-requires
write_events-requires c =
    record {
      roomy = subst (λ (r : ℕ). Roomy c.args.table.now c.args.users.now c.args.bases.now r) (sym (c.write_first.ensures (marking c.args.seen.now)).same) c.requires.prepared.roomy;
      events_value = c.requires.events_value;
      tally = c.tally.ensures;
    }

pub returns : goal.returns
returns c =
    right_all (net_of c.args.table.now) (held_in c.args.held) (marking c.args.seen.now) c.args.out.now _ c.requires.prepared.roomy.fits (c.write_events.ensures (held_in c.args.held) c.args.out.now (right_own (net_of c.args.table.now) (held_in c.args.held) (marking c.args.seen.now) c.args.out.now _ (c.write_first.ensures (marking c.args.seen.now))))
