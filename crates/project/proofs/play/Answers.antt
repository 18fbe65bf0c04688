-- `project::play` meets its contract.
use native.Mathlib.Omega.{arith}
use mathlib.Core.Path.{ap}
use Rattle.std.specs.Prelude.{Err}
use Rattle.project.proofs.Walks.{walk_stops, walk_ends, walk_on}
use Rattle.project.proofs.play.Goals as goal

pub loop-k-init : goal.loop-k-init
loop-k-init c =
    c.requires.walked

pub step_unfolded-requires : goal.step_unfolded-requires
step_unfolded-requires c =
    record {
      underway = record { equipped = c.requires.equipped; walked = c.loop-k.invariant };
      k_in_bounds = c.loop-k-test.true;
    }

pub shape_of-places-in-Err : goal.shape_of-places-in-Err
shape_of-places-in-Err c =
    omega (arith, c.loop-k.invariant.held.size, c.requires.walked.held.size)

pub shape_of-kept-in-Err : goal.shape_of-kept-in-Err
shape_of-kept-in-Err c =
    omega (arith, c.loop-k.invariant.held.room, c.requires.walked.held.room)

pub returns-in-Err : goal.returns-in-Err
returns-in-Err c =
    walk_stops _ _ _ _ _ _ _ c.loop-k.invariant c.loop-k-test.true _ _ _ _ _ c.step_unfolded.ensures _ c.in-Err.is _ (ap Err c.at.ensures) _ _

pub loop-k-preserved : goal.loop-k-preserved
loop-k-preserved c =
    walk_on _ _ _ _ _ _ _ _ c.step_unfolded.ensures c.in_default.is

pub shape_of-state : goal.shape_of-state
shape_of-state c =
    omega (arith, c.loop-k.invariant.long, c.requires.walked.long)

pub shape_of-seen : goal.shape_of-seen
shape_of-seen c =
    omega (arith, c.loop-k.invariant.wide, c.requires.walked.wide)

pub shape_of-places : goal.shape_of-places
shape_of-places c =
    omega (arith, c.loop-k.invariant.held.size, c.requires.walked.held.size)

pub shape_of-kept : goal.shape_of-kept
shape_of-kept c =
    omega (arith, c.loop-k.invariant.held.room, c.requires.walked.held.room)

pub returns : goal.returns
returns c =
    walk_ends _ _ _ _ _ _ _ c.loop-k.invariant c.loop-k-test.false
