-- `step::test_at` meets its contract.
use Rattle.step.proofs.Tests.{record_listed, record_told}
use Rattle.step.proofs.test_at.Goals as goal

pub test-requires : goal.test-requires
test-requires c =
    (record_listed c.args.table.now c.args.at _ _ c.pre_at-pre.ensures.reads c.post_at.ensures.reads c.requires.0, c.requires.1)

pub returns : goal.returns
returns c =
    record_told c.args.table.now c.args.at _ _ c.pre_at-pre.ensures.reads c.post_at.ensures.reads _ _ c.test.ensures
