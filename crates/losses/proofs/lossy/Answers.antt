-- `losses::lossy` meets its contract.
use Rattle.std.proofs.Common.{rules}
use native.Mathlib.Omega.{arith}
use mathlib.Core.Path.{◌≡◌, ◌∙◌, refl, sym}
use Rattle.table.proofs.Decoded.{events_are_all}
use Rattle.losses.proofs.Answers.{table_refused, no_room, all_written, used, known}
use Rattle.losses.proofs.lossy.Goals as goal

pub returns-in_err-events : goal.returns-in_err-events
returns-in_err-events c =
    let same : c.from_residual.result ≡ c.judge.result = search rules in
    let args = c.args in
    let whole = table_refused args.table.now args.out.now _ _ c.judge.ensures c.in_err-events.was in
    record {
      answer = same ∙ whole.0;
      after = whole.1;
    }

pub returns-then-out-events : goal.returns-then-out-events
returns-then-out-events c =
    let args = c.args in
    let judged = sym c.judge.ensures ∙ c.in_ok-events.was in
    let whole = no_room args.table.now args.out.now c.in_ok-events.events judged _ c.if-out-events.true c.refused.ensures in
    record {
      answer = whole.0;
      after = whole.1;
    }

pub tally-requires : goal.tally-requires
tally-requires c =
    let judged = sym c.judge.ensures ∙ c.in_ok-events.was in
    let all = events_are_all c.args.table.now c.in_ok-events.events judged in
    record {
      upto_bound = omega arith;
      first_bound = omega arith;
      counts_len = refl;
    }

pub once_only-requires : goal.once_only-requires
once_only-requires c =
    let s = c.args.table.now in
    let judged = sym c.judge.ensures ∙ c.in_ok-events.was in
    record {
      events_value = events_are_all s c.in_ok-events.events judged;
      used = used s c.in_ok-events.events judged c.tally.new.counts c.tally.ensures;
      once_len = refl;
    }

pub tally-requires-2 : goal.tally-requires-2
tally-requires-2 c =
    let judged = sym c.judge.ensures ∙ c.in_ok-events.was in
    let all = events_are_all c.args.table.now c.in_ok-events.events judged in
    record {
      upto_bound = omega arith;
      first_bound = omega arith;
      counts_len = c.tally.ensures.size;
    }

pub write_lossy-requires : goal.write_lossy-requires
write_lossy-requires c =
    let s = c.args.table.now in
    let judged = sym c.judge.ensures ∙ c.in_ok-events.was in
    let told = known s c.in_ok-events.events judged c.once_only.new.once c.tally-2.new.counts c.once_only.ensures c.tally-2.ensures in
    record {
      known = told;
      events_in_bounds = c.if-out-events.false;
    }

pub returns : goal.returns
returns c =
    let args = c.args in
    let judged = sym c.judge.ensures ∙ c.in_ok-events.was in
    let room = c.if-out-events.false in
    let whole = all_written args.table.now args.out.now c.in_ok-events.events judged room _ c.write_lossy.ensures in
    record {
      answer = whole.0;
      after = whole.1;
    }
