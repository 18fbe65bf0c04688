-- `project::write_back` meets its contract.
use Rattle.project.proofs.Back.{short_written, fits_written}
use Rattle.project.proofs.write_back.Goals as goal

pub returns-then-out-steps : goal.returns-then-out-steps
returns-then-out-steps c =
    let whole = short_written _ _ _ _ _ c.refused.ensures c.if-out-steps.true in
    record {
      answer = whole.0;
      after = whole.1;
    }

pub returns : goal.returns
returns c =
    let whole = fits_written _ _ _ _ _ c.read_back.ensures c.if-out-steps.false in
    record {
      answer = whole.0;
      after = whole.1;
    }
