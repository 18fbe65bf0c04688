-- `asking::start` meets its contract.
use Rattle.std.proofs.Common.{rules}
use mathlib.Core.Path.{◌≡◌, sym, ◌∙◌}
use Rattle.asking.specs.Calls.{start_of, start_into}
use Rattle.asking.proofs.Listed.{listed_refused, start_fine}
use Rattle.asking.proofs.start.Goals as goal

pub returns-in_err-n : goal.returns-in_err-n
unfolding start_of start_into
returns-in_err-n c =
    let same : c.from_residual.result ≡ c.judge.result = search rules in
    let whole = listed_refused _ _ _ _ _ _ c.judge.ensures c.in_err-n.was in
    record {
      answer = same ∙ whole.0;
      after = whole.1;
    }

pub start_held-held-requires : goal.start_held-held-requires
start_held-held-requires c =
    sym c.judge.ensures ∙ c.in_ok-n.was

pub returns : goal.returns
returns c =
    let j = sym c.judge.ensures ∙ c.in_ok-n.was in
    let whole = start_fine _ _ j _ c.start_held-held.ensures _ c.conditions.ensures _ _ _ c.write_end.ensures.answer c.write_end.ensures.after in
    record {
      answer = whole.0;
      after = whole.1;
    }
