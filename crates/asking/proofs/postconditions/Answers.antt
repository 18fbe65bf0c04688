-- `asking::postconditions` meets its contract.
use Rattle.std.proofs.Common.{rules}
use mathlib.Core.Path.{◌≡◌, sym, ap, ◌∙◌}
use lib.ListN.{length}
use Rattle.asking.specs.Calls.{postconditions_of, postconditions_into}
use Rattle.asking.proofs.Listed.{listed_refused, listed_fine, post_read}
use Rattle.asking.proofs.postconditions.Goals as goal

pub returns-in_err-at : goal.returns-in_err-at
unfolding postconditions_of postconditions_into
returns-in_err-at c =
    let same : c.from_residual.result ≡ c.asked.result = search rules in
    let whole = listed_refused _ _ _ _ _ _ c.asked.ensures c.in_err-at.was in
    record {
      answer = same ∙ whole.0;
      after = whole.1;
    }

pub returns : goal.returns
unfolding postconditions_of postconditions_into
returns c =
    let found = sym c.asked.ensures ∙ c.in_ok-at.was in
    let read = post_read _ _ _ found _ c.post_at.ensures.reads in
    let whole = listed_fine _ _ _ _ _ found _ _ _ _ read (ap length read) c.write_list.ensures.answer c.write_list.ensures.after in
    record {
      answer = whole.0;
      after = whole.1;
    }
