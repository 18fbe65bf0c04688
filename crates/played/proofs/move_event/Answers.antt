-- `played::move_event` meets its contract.
use native.Mathlib.Omega.{arith}
use Rattle.held.specs.Held.{held_in}
use Rattle.played.proofs.Moving.{move_unknown, move_listed, move_found}
use Rattle.played.proofs.move_event.Goals as goal

pub returns-then-n-e : goal.returns-then-n-e
returns-then-n-e c =
    move_unknown _ _ c.requires.0 c.args.e c.if-n-e.true (held_in c.args.held)

pub offset_bounds-offsets-e : goal.offset_bounds-offsets-e
offset_bounds-offsets-e c =
    omega (arith, c.requires.1.long)

pub bounds-offsets-e : goal.bounds-offsets-e
bounds-offsets-e c =
    omega (arith, c.requires.1.long, c.if-n-e.false)

pub move_at-requires : goal.move_at-requires
move_at-requires c =
    (move_listed _ _ c.requires.0 _ c.if-n-e.false _ (c.requires.1.each _ c.if-n-e.false), c.requires.2)

pub returns : goal.returns
returns c =
    let place = c.requires.1.each c.args.e c.if-n-e.false in
    move_found _ _ c.requires.0 c.args.e c.if-n-e.false _ place (held_in c.args.held) _ c.move_at.ensures
