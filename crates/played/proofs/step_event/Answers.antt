-- `played::step_event` meets its contract.
use native.Mathlib.Omega.{arith}
use mathlib.Core.Path.{◌∙◌}
use Rattle.game.proofs.Found.{number_unknown, number_told, number_left}
use Rattle.played.proofs.Moving.{move_listed}
use Rattle.played.proofs.step_event.Goals as goal

pub returns-then-n-e : goal.returns-then-n-e
returns-then-n-e c =
    let whole = number_unknown _ _ c.requires.judged c.args.e c.args.state.now c.if-n-e.true in
    record {
      answer = whole.0;
      after = whole.1;
    }

pub offset_bounds-offsets-e : goal.offset_bounds-offsets-e
offset_bounds-offsets-e c =
    omega (arith, c.requires.indexed.long)

pub bounds-offsets-e : goal.bounds-offsets-e
bounds-offsets-e c =
    omega (arith, c.requires.indexed.long, c.if-n-e.false)

pub step_at-requires : goal.step_at-requires
step_at-requires c =
    let given = c.requires in
    let below = c.if-n-e.false in
    (move_listed _ _ given.judged _ below _ (given.indexed.each _ below), given.lents, given.room.1)

pub returns : goal.returns
returns c =
    let place = c.requires.indexed.each c.args.e c.if-n-e.false in record {
      answer = c.step_at.ensures.answer ∙ number_told _ _ c.requires.judged c.args.e c.args.state.now c.if-n-e.false _ place;
      after = c.step_at.ensures.after ∙ number_left _ _ c.requires.judged c.args.e c.args.state.now c.if-n-e.false _ place;
    }
