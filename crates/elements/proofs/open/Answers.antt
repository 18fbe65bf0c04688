-- `elements::open` meets its contract.
use Rattle.std.proofs.Common.{rules}
use Rattle.std.specs.Prelude.{Err}
use mathlib.Core.Path.{◌≡◌}
use native.Mathlib.Omega.{arith}
use Rattle.unfolding.proofs.Owners.{within_laid}
use Rattle.elements.proofs.Answers.{laid_unfolds, opened_refused, opened_start, opened_fine}
use Rattle.elements.proofs.open.Goals as goal

pub returns-in_err-events : goal.returns-in_err-events
returns-in_err-events c =
    let told : c.from_residual.result ≡ Err c.in_err-events.field-0.0 = search rules in
    opened_refused _ _ _ _ _ c.lay_out.ensures c.in_err-events.was _ told

pub colours_before-transitions-requires : goal.colours_before-transitions-requires
colours_before-transitions-requires c =
    let u = laid_unfolds _ _ _ _ c.lay_out.ensures c.in_ok-events.events c.in_ok-events.was in
    record {
      within = within_laid _ _ _ _ _ u.laid u.all;
      upto_le_events = omega arith;
    }

pub unwrap-requires : goal.unwrap-requires
unwrap-requires c =
    opened_start _ _ _ _ c.args.start.now c.args.start.now c.lay_out.ensures c.in_ok-events.events c.in_ok-events.was c.requires.3 c.unfolded_start.ensures.answer

pub returns : goal.returns
returns c =
    opened_fine _ _ _ _ c.args.start.now _ c.lay_out.ensures c.in_ok-events.events c.in_ok-events.was c.requires.3 c.condition_count-conditions.result c.colours_before-transitions.result c.condition_count-conditions.ensures c.colours_before-transitions.ensures c.unfolded_start.ensures.after
