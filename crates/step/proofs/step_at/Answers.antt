-- `step::step_at` meets its contract.
use Rattle.std.proofs.Common.{rules}
use mathlib.Core.Path.{◌≡◌, ◌∙◌, sym, ap}
use mathlib.Core.List.{[]}
use Rattle.words.specs.Words.{words}
use Rattle.step.specs.Steps.{set_all}
use Rattle.step.proofs.Tests.{record_listed, record_told}
use Rattle.step.proofs.Firing.{step_kept, step_written}
use Rattle.step.proofs.step_at.Goals as goal

pub test-requires : goal.test-requires
test-requires c =
    (record_listed c.args.table.now c.args.at _ _ c.pre_at-pre.ensures.reads c.post_at-post.ensures.reads c.requires.0, c.requires.2)

pub returns-in_err-test : goal.returns-in_err-test
returns-in_err-test c =
    let same : c.from_residual.result ≡ c.test.result = search rules in
    let told = record_told c.args.table.now c.args.at _ _ c.pre_at-pre.ensures.reads c.post_at-post.ensures.reads _ _ c.test.ensures in
    record {
      answer = same ∙ told;
      after = step_kept c.args.table.now c.args.state.now c.args.at _ told _ c.in_err-test.was;
    }

pub returns : goal.returns
returns c =
    let told = record_told c.args.table.now c.args.at _ _ c.pre_at-pre.ensures.reads c.post_at-post.ensures.reads _ _ c.test.ensures in record {
      answer = sym c.in_ok-test.was ∙ told;
      after = c.set_all-2.ensures
          ∙ ap (set_all [] 1 (words c.post_at-post.result.now)) c.set_all.ensures
          ∙ step_written c.args.table.now c.args.state.now c.args.at _ told c.in_ok-test.was c.requires.1 _ _ _ c.flags.ensures c.pre_at-pre.ensures.reads c.post_at-post.ensures.reads;
    }
