-- `exchange::exchange` meets its contract.
use Rattle.std.proofs.Common.{rules}
use native.Mathlib.Omega.{arith}
use mathlib.Core.Path.{◌≡◌, ◌∙◌, sym}
use Prim.Native.Nat.{suc, ◌<◌}
use lib.ListN.{length}
use borrow.Author.Tests.{ltb-true}
use Rattle.std.specs.Prelude.{Err}
use Rattle.refusal.proofs.Chain.{passed_up}
use Rattle.table.proofs.Walk.{accepted}
use Rattle.exchange.specs.Calls.{exchange_of}
use Rattle.played.proofs.Begun.{begun_plays}
use Rattle.exchange.proofs.Exchanging.{kept_run, stopped_run, whole_run, no_step_lem, not_apart_lem, exchanges, put_back, part_room}
use Rattle.exchange.proofs.exchange.Goals as goal

pub returns-in_err-n : goal.returns-in_err-n
unfolding exchange_of
returns-in_err-n c =
    let same : c.from_residual.result ≡ c.judge.result = search rules in
    let whole = kept_run _ _ _ _ _ c.in_err-n.was (passed_up _ c.judge.ensures c.in_err-n.was) in
    record {
      answer = same ∙ whole.0;
      after = whole.1;
    }

pub fill-requires : goal.fill-requires
fill-requires c =
    let j = sym c.judge.ensures ∙ c.in_ok-n.was in
    let few = (accepted _ _ j).few in
    (j, omega arith)

pub start_held-start-requires : goal.start_held-start-requires
start_held-start-requires c =
    sym c.judge.ensures ∙ c.in_ok-n.was

pub play-requires : goal.play-requires
play-requires c =
    let j = sym c.judge.ensures ∙ c.in_ok-n.was in
    (j, c.fill.ensures)

pub returns-in_err-play : goal.returns-in_err-play
returns-in_err-play c =
    let j = sym c.judge.ensures ∙ c.in_ok-n.was in
    let told : c.from_residual-in_err-play.result ≡ Err c.in_err-play.field-0.0 = search rules in
    let whole = stopped_run _ _ _ _ j _ (begun_plays _ _ _ c.start_held-start.ensures _ _ c.play.ensures) _ c.in_err-play.was in
    record {
      answer = told ∙ whole.0;
      after = whole.1;
    }

pub apart_steps-requires : goal.apart_steps-requires
apart_steps-requires c =
    let j = sym c.judge.ensures ∙ c.in_ok-n.was in
    let whole = whole_run _ _ c.args.k _ j _ (begun_plays _ _ _ c.start_held-start.ensures _ _ c.play.ensures) _ c.in_ok-play.was in
    record { judged = j; indexed = c.fill.ensures; short = whole.1; plays = whole.0; next = ltb-true _ _ (sym c.has_next.ensures ∙ c.if-has_next.true) }

pub offset_bounds-run-k : goal.offset_bounds-run-k
offset_bounds-run-k c =
    let next : suc c.args.k < length c.args.run.now = ltb-true _ _ (sym c.has_next.ensures ∙ c.if-has_next.true) in omega arith

pub slice_bounds-swap_first-count : goal.slice_bounds-swap_first-count
slice_bounds-swap_first-count c =
    let next : suc c.args.k < length c.args.run.now = ltb-true _ _ (sym c.has_next.ensures ∙ c.if-has_next.true) in omega arith

pub slice_bounds-swap_first-start : goal.slice_bounds-swap_first-start
slice_bounds-swap_first-start c =
    let next : suc c.args.k < length c.args.run.now = ltb-true _ _ (sym c.has_next.ensures ∙ c.if-has_next.true) in omega arith

pub slice_bounds-swap_first-end : goal.slice_bounds-swap_first-end
slice_bounds-swap_first-end c =
    let next : suc c.args.k < length c.args.run.now = ltb-true _ _ (sym c.has_next.ensures ∙ c.if-has_next.true) in omega arith

pub swap_first-requires : goal.swap_first-requires
swap_first-requires c =
    part_room c.args.k c.args.run.now (ltb-true _ _ (sym c.has_next.ensures ∙ c.if-has_next.true))

pub returns-then-apart_steps : goal.returns-then-apart_steps
returns-then-apart_steps c =
    let j = sym c.judge.ensures ∙ c.in_ok-n.was in
    let e = exchanges _ _ c.args.k _ j _ (begun_plays _ _ _ c.start_held-start.ensures _ _ c.play.ensures) _ c.in_ok-play.was (sym c.has_next.ensures ∙ c.if-has_next.true) (sym c.apart_steps.ensures ∙ c.if-apart_steps.true) in
    record {
      answer = e.0;
      after = put_back c.args.k c.args.run.now _ c.swap_first.ensures ∙ e.1;
    }

pub returns-then-has_next : goal.returns-then-has_next
returns-then-has_next c =
    let j = sym c.judge.ensures ∙ c.in_ok-n.was in
    let whole = kept_run _ _ c.args.k _ _ c.refused.ensures (c.refused.ensures ∙ not_apart_lem _ _ c.args.k _ j _ (begun_plays _ _ _ c.start_held-start.ensures _ _ c.play.ensures) _ c.in_ok-play.was (sym c.has_next.ensures ∙ c.if-has_next.true) (sym c.apart_steps.ensures ∙ c.if-apart_steps.false)) in
    record {
      answer = whole.0;
      after = whole.1;
    }

pub returns : goal.returns
returns c =
    let j = sym c.judge.ensures ∙ c.in_ok-n.was in
    let whole = kept_run _ _ c.args.k _ _ c.refused-2.ensures (c.refused-2.ensures ∙ no_step_lem _ _ c.args.k _ j _ (begun_plays _ _ _ c.start_held-start.ensures _ _ c.play.ensures) _ c.in_ok-play.was (sym c.has_next.ensures ∙ c.if-has_next.false)) in
    record {
      answer = whole.0;
      after = whole.1;
    }
