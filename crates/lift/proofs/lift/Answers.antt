-- `lift::lift` meets its contract.
use mathlib.Core.Path.{◌≡◌, ◌∙◌}
use Rattle.std.proofs.Common.{rules}
use lib.ListN.{length}
use Rattle.std.specs.Prelude.{Ok, Err}
use Rattle.table.specs.Decoded.{net_of}
use Rattle.played.proofs.Begun.{begun_plays}
use Rattle.unfolding.proofs.Owners.{within_laid}
use Rattle.across.specs.Calls.{fitted}
use Rattle.lift.proofs.Answers.{lifting_of, lift_refused, lift_went, lift_stopped, lift_runs, laid_open, laid_events, laid_judged, laid_few, laid_refused, laid_used}
use Rattle.lift.proofs.lift.Goals as goal

pub returns-in_err-events : goal.returns-in_err-events
returns-in_err-events c =
    let same : c.from_residual.result ≡ c.lay_out_run.result = search rules in
    let whole = laid_refused c.args.table.now c.args.run.now c.args.out.now c.lay_out_run.ensures.answer c.in_err-events.was in
    record {
      answer = same ∙ whole.0;
      after = whole.1;
    }

pub fill-requires : goal.fill-requires
fill-requires c =
    let s = c.args.table.now in
    let r = c.args.run.now in
    (laid_judged s r c.lay_out_run.ensures.answer c.in_ok-events.was, laid_few s r c.lay_out_run.ensures.answer c.in_ok-events.was)

pub start_held-start-requires : goal.start_held-start-requires
start_held-start-requires c =
    laid_judged c.args.table.now c.args.run.now c.lay_out_run.ensures.answer c.in_ok-events.was

pub play-requires : goal.play-requires
play-requires c =
    let j = laid_judged c.args.table.now c.args.run.now c.lay_out_run.ensures.answer c.in_ok-events.was in
    (j, c.fill.ensures)

pub returns-in_err-play : goal.returns-in_err-play
returns-in_err-play c =
    let s = c.args.table.now in
    let r = c.args.run.now in
    let room = length c.args.out.now in
    let go = laid_open s r c.lay_out_run.ensures.answer c.in_ok-events.was in
    let told : c.from_residual-in_err-play.result ≡ Err c.in_err-play.field-0.0 = search rules in
    let p = begun_plays _ _ _ c.start_held-start.ensures _ _ c.play.ensures in
    let stops = lift_stopped s r _ p room (go (Ok 0)) (go (fitted (lifting_of (net_of s) r) room)) c.in_err-play.was in
    let whole = lift_refused s r c.args.out.now told (told ∙ stops) in
    record {
      answer = whole.0;
      after = whole.1;
    }

pub lift_played-requires : goal.lift_played-requires
lift_played-requires c =
    let s = c.args.table.now in
    let r = c.args.run.now in
    let j = laid_judged s r c.lay_out_run.ensures.answer c.in_ok-events.was in
    let p = begun_plays _ _ _ c.start_held-start.ensures _ _ c.play.ensures in
    let ready = c.lay_out_run.ensures.ready _ c.in_ok-events.was in
    let all = laid_events s r c.lay_out_run.ensures.answer c.in_ok-events.was in
    record {
      within = within_laid _ _ _ _ _ ready.laid all;
      used = laid_used ready.laid;
      sizes = ready.sizes;
      walkable = record { judged = j; indexed = c.fill.ensures; plays = lift_runs s r _ p _ c.in_ok-play.was };
    }

pub returns : goal.returns
returns c =
    let s = c.args.table.now in
    let r = c.args.run.now in
    let go = laid_open s r c.lay_out_run.ensures.answer c.in_ok-events.was in
    let whole = lift_went s r c.args.out.now _ (go (Ok 0)) (go (fitted (lifting_of (net_of s) r) (length c.args.out.now))) c.lift_played.ensures.answer c.lift_played.ensures.after in
    record {
      answer = whole.0;
      after = whole.1;
    }
