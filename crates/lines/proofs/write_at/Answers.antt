-- At each place its own text is written.
use native.Mathlib.Omega.{arith}
use mathlib.Core.Path.{refl}
use Rattle.table.specs.Decoded.{net_of}
use Rattle.lines.proofs.Long.{start_fits, end_fits, more_fits}
use Rattle.lines.proofs.Writing.{nothing_put, at_place, steady_few}
use Rattle.lines.proofs.write_at.Goals as goal

pub put-requires : goal.put-requires
put-requires c =
    let few = steady_few c.requires.0.steady in
    (omega (arith, few), omega (arith, start_fits c.args.marking.now few, c.requires.1))

pub write_step-requires : goal.write_step-requires
write_step-requires c =
    (c.requires.0.steady, c.requires.0.here _ c.in-Step.is, c.requires.1)

pub put-requires-in-End : goal.put-requires-in-End
put-requires-in-End c =
    (c.requires.0.few, omega (arith, end_fits c.args.end.now c.requires.0.few, c.requires.1))

pub put-requires-in-More : goal.put-requires-in-More
put-requires-in-More c =
    (c.requires.0.few, omega (arith, more_fits c.args.end.now c.requires.0.few c.in-More.from, c.requires.1))

pub returns-in-Start : goal.returns-in-Start
returns-in-Start c =
    let whole = at_place (net_of c.args.table.now) c.args.steps.now c.args.lifted.now c.args.end.now c.args.marking.now c.in-Start.is (refl, c.put.ensures) in
    record {
      moved = whole.0;
      wrote = whole.1;
    }

pub returns-in-End : goal.returns-in-End
returns-in-End c =
    let whole = at_place (net_of c.args.table.now) c.args.steps.now c.args.lifted.now c.args.end.now c.args.marking.now c.in-End.is (refl, c.put-in-End.ensures) in
    record {
      moved = whole.0;
      wrote = whole.1;
    }

pub returns-in-More : goal.returns-in-More
returns-in-More c =
    let whole = at_place (net_of c.args.table.now) c.args.steps.now c.args.lifted.now c.args.end.now c.args.marking.now c.in-More.is (refl, c.put-in-More.ensures) in
    record {
      moved = whole.0;
      wrote = whole.1;
    }

pub returns-in-Last : goal.returns-in-Last
returns-in-Last c =
    let whole = at_place (net_of c.args.table.now) c.args.steps.now c.args.lifted.now c.args.end.now c.args.marking.now c.in-Last.is (refl, c.put_newline.ensures) in
    record {
      moved = whole.0;
      wrote = whole.1;
    }

pub returns-in-Over : goal.returns-in-Over
returns-in-Over c =
    let whole = at_place (net_of c.args.table.now) c.args.steps.now c.args.lifted.now c.args.end.now c.args.marking.now c.in-Over.is (refl, nothing_put c.args.out.now) in
    record {
      moved = whole.0;
      wrote = whole.1;
    }

pub returns-in-Step : goal.returns-in-Step
returns-in-Step c =
    let whole = at_place (net_of c.args.table.now) c.args.steps.now c.args.lifted.now c.args.end.now c.args.marking.now c.in-Step.is (c.write_step.ensures.moved, c.write_step.ensures.wrote) in
    record {
      moved = whole.0;
      wrote = whole.1;
    }
