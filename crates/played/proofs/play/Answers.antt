-- `played::play` meets its contract.
use mathlib.Core.Path.{ap, ◌∙◌}
use Rattle.std.specs.Prelude.{Err}
use Rattle.table.proofs.Decoded.{conditions_are_all}
use Rattle.played.proofs.Playing.{going_start, step_on, step_ends, too_long_lem, comes_to_end}
use Rattle.played.proofs.play.Goals as goal

pub returns-then-run-gt-MOST_STEPS : goal.returns-then-run-gt-MOST_STEPS
returns-then-run-gt-MOST_STEPS c =
    too_long_lem _ _ _ c.if-run-gt-MOST_STEPS.true _ c.refused.ensures

pub loop-k-init : goal.loop-k-init
loop-k-init c =
    going_start _ _ _

pub returns-in-Err : goal.returns-in-Err
returns-in-Err c =
    step_ends _ _ _ _ _ c.loop-k.invariant c.loop-k-test.true c.if-run-gt-MOST_STEPS.false _ c.in-Err.ensures _ (ap Err c.at.ensures)

pub loop-k-preserved : goal.loop-k-preserved
loop-k-preserved c =
    step_on _ _ _ _ _ c.loop-k.invariant c.loop-k-test.true _ c.in-Ok.ensures

pub returns : goal.returns
returns c =
    let all = c.conditions.ensures ∙ conditions_are_all _ _ c.requires.0 in
    comes_to_end _ _ _ _ _ c.loop-k.invariant c.loop-k-test.false c.if-run-gt-MOST_STEPS.false all
