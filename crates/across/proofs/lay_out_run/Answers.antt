-- `across::lay_out_run` meets its contract.
use Rattle.std.proofs.Common.{rules}
use native.Mathlib.Omega.{arith}
use mathlib.Core.Path.{◌≡◌, ◌∙◌, sym}
use Rattle.std.specs.Prelude.{Ok}
use Rattle.refusal.proofs.Chain.{never_both}
use Rattle.table.specs.Decoded.{net_of}
use Rattle.layout.proofs.Limits.{unfolds_on}
use Rattle.unfolding.proofs.Owners.{within_laid}
use Rattle.across.proofs.Prefix.{prepared_refused, prepared_long, prepared_short}
use Rattle.across.proofs.lay_out_run.Goals as goal

pub returns-in_err-judge : goal.returns-in_err-judge
returns-in_err-judge c =
    let same : c.from_residual.result ≡ c.judge.result = search rules in
    let own = Ok (net_of c.args.table.now).events in
    record {
      answer = same ∙ prepared_refused c.args.table.now c.args.steps own c.judge.ensures c.in_err-judge.was;
      ready = λ k e. never_both (sym e ∙ same ∙ c.in_err-judge.was);
    }

pub returns-then-steps-gt-MOST_STEPS : goal.returns-then-steps-gt-MOST_STEPS
returns-then-steps-gt-MOST_STEPS c =
    let own = Ok (net_of c.args.table.now).events in
    let j = sym c.judge.ensures ∙ c.in_ok-judge.was in
    record {
      answer = c.refused.ensures ∙ prepared_long c.args.table.now c.args.steps own c.in_ok-judge.field-0 j (omega arith);
      ready = λ k e. never_both (sym e ∙ c.refused.ensures);
    }

pub returns-in_err-events : goal.returns-in_err-events
returns-in_err-events c =
    let s = c.args.table.now in
    let own = Ok (net_of s).events in
    let told : c.from_residual-in_err-events.result ≡ c.lay_out.result = search rules in
    record {
      answer = told ∙ c.lay_out.ensures.answer ∙ prepared_short s c.args.steps own (omega arith);
      ready = λ k e. never_both (sym e ∙ told ∙ c.in_err-events.was);
    }

pub sizes_before-requires : goal.sizes_before-requires
sizes_before-requires c =
    let s = c.args.table.now in
    let q = (unfolds_on s (Ok (net_of s).events) (net_of s).events c.lay_out.ensures.answer c.in_ok-events.was).1 in
    record {
      within = within_laid s _ _ _ c.in_ok-events.events (c.lay_out.ensures.laid c.in_ok-events.events c.in_ok-events.was) q;
      before_len = c.requires.before_len;
    }

pub returns : goal.returns
returns c =
    let s = c.args.table.now in
    let own = Ok (net_of s).events in
    record {
      answer = sym c.in_ok-events.was ∙ c.lay_out.ensures.answer ∙ prepared_short s c.args.steps own (omega arith);
      ready = λ _ _. record { short = omega arith; laid = c.lay_out.ensures.laid c.in_ok-events.events c.in_ok-events.was; sizes = c.sizes_before.ensures };
    }
