-- `export_places::place_at` meets its contract.
use native.Mathlib.Omega.{arith}
use Rattle.export_places.proofs.Places.{numbered_few, finds_opens, finds_place, finds_transition, finds_later}
use Rattle.export_places.proofs.place_at.Goals as goal

pub returns-then-i-eq0 : goal.returns-then-i-eq0
returns-then-i-eq0 c =
    finds_opens c.args.i c.if-i-eq0.true

pub overflow_mul-conditions : goal.overflow_mul-conditions
overflow_mul-conditions c =
    omega (arith, (numbered_few c.requires.0).0)

pub returns-then-x-conditions : goal.returns-then-x-conditions
returns-then-x-conditions c =
    finds_place c.args.conditions c.args.i _ c.requires.0.doubles (omega (arith, c.if-i-eq0.false)) c.if-x-conditions.true

pub returns-then-t-transitions : goal.returns-then-t-transitions
returns-then-t-transitions c =
    finds_transition c.args.conditions c.args.transitions c.args.i _ c.requires.0.doubles c.requires.0.moves (omega (arith, c.if-i-eq0.false, c.if-x-conditions.false)) c.if-t-transitions.true

pub returns : goal.returns
returns c =
    finds_later c.args.conditions c.args.transitions c.args.i _ c.requires.0.doubles c.requires.0.moves (omega (arith, c.if-i-eq0.false, c.if-x-conditions.false, c.if-t-transitions.false)) _ c.arc_place.ensures
