-- The two files are judged in order, and what refuses first is passed up.
use Rattle.std.proofs.Common.{rules}
use mathlib.Core.Path.{◌≡◌, sym, ◌∙◌}
use lib.ListN.{length}
use Rattle.runs.specs.Runs.{run_into}
use Rattle.listing.proofs.Answers.{net_long, net_refused, run_long, run_read}
use Rattle.listing.proofs.read_files.Goals as goal

pub returns-then-net-gt-MOST_NET_BYTES : goal.returns-then-net-gt-MOST_NET_BYTES
returns-then-net-gt-MOST_NET_BYTES c =
    record {
      answer = c.refused.ensures ∙ sym (net_long c.args.net.now c.args.run.now (length c.args.steps.now) c.if-net-gt-MOST_NET_BYTES.true);
      after = rw c.refused.ensures;
    }

pub returns-in_err-judge : goal.returns-in_err-judge
returns-in_err-judge c =
    let same : c.from_residual.result ≡ c.judge.result = search rules in
    let told = c.in_err-judge.was in
    let found = sym c.judge.ensures ∙ told in
    record {
      answer = same ∙ told ∙ sym (net_refused c.args.net.now c.args.run.now (length c.args.steps.now) _ c.if-net-gt-MOST_NET_BYTES.false found);
      after = rw (same ∙ told);
    }

pub returns-then-run-gt-MOST_RUN_BYTES : goal.returns-then-run-gt-MOST_RUN_BYTES
returns-then-run-gt-MOST_RUN_BYTES c =
    let found = sym c.judge.ensures ∙ c.in_ok-judge.was in
    record {
      answer = c.refused-then-run-gt-MOST_RUN_BYTES.ensures ∙ sym (run_long c.args.net.now c.args.run.now (length c.args.steps.now) _ c.if-net-gt-MOST_NET_BYTES.false found c.if-run-gt-MOST_RUN_BYTES.true);
      after = rw c.refused-then-run-gt-MOST_RUN_BYTES.ensures;
    }

pub returns : goal.returns
unfolding run_into
returns c =
    let found = sym c.judge.ensures ∙ c.in_ok-judge.was in
    record {
      answer = c.read_run.ensures.answer ∙ sym (run_read c.args.net.now c.args.run.now (length c.args.steps.now) _ c.if-net-gt-MOST_NET_BYTES.false found c.if-run-gt-MOST_RUN_BYTES.false);
      after = rw c.read_run.ensures.answer c.read_run.ensures.lent;
    }
