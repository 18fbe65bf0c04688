-- `layout::lay_out` meets its contract.
use Rattle.std.proofs.Common.{rules}
use native.Mathlib.Omega.{arith}
use mathlib.Core.Path.{◌≡◌, ◌∙◌, sym}
use Rattle.std.specs.Prelude.{Ok}
use Rattle.refusal.proofs.Chain.{never_both}
use Rattle.table.specs.Decoded.{net_of}
use Rattle.table.proofs.Decoded.{events_are_all, conditions_are_all}
use Rattle.layout.proofs.Counts.{counted_low}
use Rattle.layout.proofs.Limits.{table_refused, counted, sums_read}
use Rattle.layout.proofs.lay_out.Goals as goal

pub returns-in_err-events : goal.returns-in_err-events
returns-in_err-events c =
    let same : c.from_residual.result ≡ c.judge.result = search rules in
    record { answer = same ∙ table_refused c.args.table.now (Ok (net_of c.args.table.now).events) c.judge.ensures c.in_err-events.was; laid = λ k e. never_both (sym e ∙ same ∙ c.in_err-events.was) }

pub tally-requires : goal.tally-requires
tally-requires c =
    let j = sym c.judge.ensures ∙ c.in_ok-events.was in
    let all = events_are_all c.args.table.now c.in_ok-events.events j in
    record {
      upto_bound = omega arith;
      first_bound = omega arith;
      counts_len = c.requires.0;
    }

pub tally-requires-2 : goal.tally-requires-2
tally-requires-2 c =
    let j = sym c.judge.ensures ∙ c.in_ok-events.was in
    let all = events_are_all c.args.table.now c.in_ok-events.events j in
    record {
      upto_bound = omega arith;
      first_bound = omega arith;
      counts_len = c.requires.1;
    }

pub sums-requires : goal.sums-requires
sums-requires c =
    let s = c.args.table.now in
    let j = sym c.judge.ensures ∙ c.in_ok-events.was in
    let k = counted s c.in_ok-events.events j c.tally.new.counts c.tally-2.new.counts c.tally.ensures c.tally-2.ensures in
    let most = k.marked.limits.few_conditions in
    record {
      low = counted_low s c.tally.new.counts c.tally-2.new.counts k;
      table_bound = omega (arith, conditions_are_all s c.in_ok-events.events j);
      bases_len = c.requires.2;
    }

pub within_limits-requires : goal.within_limits-requires
within_limits-requires c =
    let s = c.args.table.now in
    let j = sym c.judge.ensures ∙ c.in_ok-events.was in
    let k = counted s c.in_ok-events.events j c.tally.new.counts c.tally-2.new.counts c.tally.ensures c.tally-2.ensures in
    record {
      table_value = j;
      counted = k;
      sums = sums_read s c.in_ok-events.events j c.tally.new.counts c.tally-2.new.counts c.sums.new.bases k c.sums.ensures;
    }
