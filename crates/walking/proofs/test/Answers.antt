-- `walking::test` meets its contract.
use Rattle.model.specs.Unfolding.{basic}
use Rattle.model.specs.Lent.{marking}
use Rattle.table.specs.Decoded.{net_of}
use Rattle.segments.specs.Ranges.{ranged}
use Rattle.walking.proofs.Tested.{test_lacks, test_meets, test_goes}
use Rattle.walking.proofs.test.Goals as goal

pub first_failing-lacking-requires : goal.first_failing-lacking-requires
first_failing-lacking-requires c =
    record {
      summed = c.requires.summed;
      below = c.requires.below;
      below_2 = c.requires.below;
    }

pub first_failing-contact-requires : goal.first_failing-contact-requires
first_failing-contact-requires c =
    record {
      summed = c.requires.summed;
      below = c.requires.below;
      below_2 = c.requires.below_2;
    }

pub returns-in-Some : goal.returns-in-Some
returns-in-Some c =
    test_lacks (marking c.args.state.now) (ranged c.args.starts.now c.args.sizes.now c.args.ranges) (ranged c.args.firsts.now c.args.widths.now c.args.all) (basic (net_of c.args.table.now)).old c.first_failing-lacking.result c.first_failing-lacking.ensures _ c.in-Some.is

pub returns-in-Some-contact : goal.returns-in-Some-contact
returns-in-Some-contact c =
    test_meets (marking c.args.state.now) (ranged c.args.starts.now c.args.sizes.now c.args.ranges) (ranged c.args.firsts.now c.args.widths.now c.args.all) (basic (net_of c.args.table.now)).old c.first_failing-lacking.result c.first_failing-lacking.ensures c.in_default.is c.first_failing-contact.result c.first_failing-contact.ensures _ c.in-Some-contact.is

pub returns : goal.returns
returns c =
    test_goes (marking c.args.state.now) (ranged c.args.starts.now c.args.sizes.now c.args.ranges) (ranged c.args.firsts.now c.args.widths.now c.args.all) (basic (net_of c.args.table.now)).old c.first_failing-lacking.result c.first_failing-lacking.ensures c.in_default.is c.first_failing-contact.result c.first_failing-contact.ensures c.in_default-contact.is
