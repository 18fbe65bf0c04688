-- `copies::write_first` meets its contract.
use mathlib.Core.Bool.{false}
use native.Mathlib.Omega.{arith}
use Rattle.held.specs.Held.{held_in}
use Rattle.table.specs.Decoded.{net_of}
use Rattle.copies.proofs.Steps.{right_none, own_end, conditions_read, own_fits, own_next}
use Rattle.copies.proofs.write_first.Goals as goal

pub loop-b-init : goal.loop-b-init
loop-b-init c =
    λ seen. right_none (net_of c.args.table.now) (held_in c.args.held) seen c.args.out.now

pub write_own-requires : goal.write_own-requires
write_own-requires c =
    let roomy = c.requires.roomy in
    let few = conditions_read _ _ _ _ roomy c.conditions-n.result c.conditions-n.ensures in
    own_fits _ _ _ _ roomy c.loop-b.b (omega arith) c.loop-b.out (c.loop-b.invariant (λ _. false)).same

pub loop-b-preserved : goal.loop-b-preserved
loop-b-preserved c =
    let roomy = c.requires.roomy in
    let few = conditions_read _ _ _ _ roomy c.conditions-n.result c.conditions-n.ensures in
    let held = held_in c.args.held in
    λ seen. own_next _ _ _ _ roomy _ held c.requires.started seen c.loop-b.b (omega arith) _ _ _ (c.loop-b.invariant seen) c.write_own.ensures

pub returns : goal.returns
returns c =
    let few = conditions_read _ _ _ _ c.requires.roomy c.conditions-n.result c.conditions-n.ensures in
    λ seen. own_end (net_of c.args.table.now) (held_in c.args.held) seen c.loop-b.b (omega arith) _ _ (c.loop-b.invariant seen)
