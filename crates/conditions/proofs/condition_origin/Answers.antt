-- `conditions::condition_origin` meets its contract.
use native.Mathlib.Omega.{arith}
use native.Mathlib.Nat.{div-le_self, mod-lt}
use Rattle.std.proofs.Common.{rules}
use Rattle.std.specs.Prelude.{Err}
use mathlib.Core.Path.{◌≡◌, ◌∙◌}
use Prim.Native.Nat.{◌-◌}
use Rattle.conditions.proofs.Origins.{laid_refused, events_is, few_events, few_conditions, owner_sums, number_past, base_low, number_ordinary, user_some, marker_low, number_copy, user_small}
use Rattle.conditions.proofs.condition_origin.Goals as goal

pub returns-in_err-events : goal.returns-in_err-events
returns-in_err-events c =
    let told : c.from_residual.result ≡ Err c.in_err-events.field-0.0 = search rules in
    told ∙ laid_refused c.args.table.now c.args.i.0 c.lay_out.ensures.answer c.in_err-events.was

pub owner-b-requires : goal.owner-b-requires
owner-b-requires c =
    let whole = owner_sums c.args.table.now _ _ _ (c.lay_out.ensures.laid _ c.in_ok-events.was) c.lay_out.ensures.answer c.in_ok-events.was c.conditions-count.result c.conditions-count.ensures in
    record {
      sums = whole.0;
      count_bound = whole.1;
    }

pub returns-then-count-b : goal.returns-then-count-b
returns-then-count-b c =
    c.refused.ensures ∙ number_past c.args.table.now _ _ _ (c.lay_out.ensures.laid _ c.in_ok-events.was) c.lay_out.ensures.answer c.in_ok-events.was c.conditions-count.result c.conditions-count.ensures c.args.i.0 c.owner-b.result c.owner-b.ensures (omega (arith, c.if-count-b.true))

pub overflow_sub-rest : goal.overflow_sub-rest
overflow_sub-rest c =
    base_low c.args.table.now _ _ _ (c.lay_out.ensures.laid _ c.in_ok-events.was) c.lay_out.ensures.answer c.in_ok-events.was c.conditions-count.result c.conditions-count.ensures c.args.i.0 c.owner-b.result c.owner-b.ensures c.if-count-b.false c.number.result c.number.ensures

pub nonzero_div-rest : goal.nonzero_div-rest
nonzero_div-rest c =
    omega (arith, user_some c.args.table.now _ _ _ (c.lay_out.ensures.laid _ c.in_ok-events.was) c.lay_out.ensures.answer c.in_ok-events.was c.conditions-count.result c.conditions-count.ensures c.args.i.0 c.owner-b.result c.owner-b.ensures c.if-count-b.false c.is_persistent.result c.is_persistent.ensures c.if-is_persistent.true c.number.result c.number.ensures c.number-width.result c.number-width.ensures)

pub overflow_cast-rest : goal.overflow_cast-rest
overflow_cast-rest c =
    omega (arith, div-le_self (c.args.i.0 - c.number.result) c.number-width.result)

pub marker_at-m-requires : goal.marker_at-m-requires
marker_at-m-requires c =
    record {
      events_value = events_is c.args.table.now _ _ _ (c.lay_out.ensures.laid _ c.in_ok-events.was) c.lay_out.ensures.answer c.in_ok-events.was c.conditions-count.result c.conditions-count.ensures;
      events_bound = few_events c.args.table.now _ _ _ (c.lay_out.ensures.laid _ c.in_ok-events.was) c.lay_out.ensures.answer c.in_ok-events.was c.conditions-count.result c.conditions-count.ensures;
      place_in_bounds = marker_low c.args.table.now _ _ _ (c.lay_out.ensures.laid _ c.in_ok-events.was) c.lay_out.ensures.answer c.in_ok-events.was c.conditions-count.result c.conditions-count.ensures c.args.i.0 c.owner-b.result c.owner-b.ensures c.if-count-b.false c.is_persistent.result c.is_persistent.ensures c.if-is_persistent.true c.number.result c.number.ensures c.number-width.result c.number-width.ensures;
    }

pub nonzero_rem-rest : goal.nonzero_rem-rest
nonzero_rem-rest c =
    omega (arith, user_some c.args.table.now _ _ _ (c.lay_out.ensures.laid _ c.in_ok-events.was) c.lay_out.ensures.answer c.in_ok-events.was c.conditions-count.result c.conditions-count.ensures c.args.i.0 c.owner-b.result c.owner-b.ensures c.if-count-b.false c.is_persistent.result c.is_persistent.ensures c.if-is_persistent.true c.number.result c.number.ensures c.number-width.result c.number-width.ensures)

pub overflow_cast-rest-then-is_persistent : goal.overflow_cast-rest-then-is_persistent
overflow_cast-rest-then-is_persistent c =
    omega (arith, mod-lt (c.args.i.0 - c.number.result) (user_some c.args.table.now _ _ _ (c.lay_out.ensures.laid _ c.in_ok-events.was) c.lay_out.ensures.answer c.in_ok-events.was c.conditions-count.result c.conditions-count.ensures c.args.i.0 c.owner-b.result c.owner-b.ensures c.if-count-b.false c.is_persistent.result c.is_persistent.ensures c.if-is_persistent.true c.number.result c.number.ensures c.number-width.result c.number-width.ensures))

pub nth-u-requires : goal.nth-u-requires
nth-u-requires c =
    omega (arith, events_is c.args.table.now _ _ _ (c.lay_out.ensures.laid _ c.in_ok-events.was) c.lay_out.ensures.answer c.in_ok-events.was c.conditions-count.result c.conditions-count.ensures)

pub overflow_cast-result : goal.overflow_cast-result
overflow_cast-result c =
    omega (arith, few_conditions c.args.table.now _ _ _ (c.lay_out.ensures.laid _ c.in_ok-events.was) c.lay_out.ensures.answer c.in_ok-events.was c.conditions-count.result c.conditions-count.ensures)

pub overflow_cast-result-then-is_persistent : goal.overflow_cast-result-then-is_persistent
overflow_cast-result-then-is_persistent c =
    omega (arith, user_small c.args.table.now _ _ _ (c.lay_out.ensures.laid _ c.in_ok-events.was) c.lay_out.ensures.answer c.in_ok-events.was c.conditions-count.result c.conditions-count.ensures c.args.i.0 c.owner-b.result c.owner-b.ensures c.if-count-b.false c.nth-u.result _ c.nth-u.ensures)

pub returns-then-is_persistent : goal.returns-then-is_persistent
returns-then-is_persistent c =
    number_copy c.args.table.now _ _ _ (c.lay_out.ensures.laid _ c.in_ok-events.was) c.lay_out.ensures.answer c.in_ok-events.was c.conditions-count.result c.conditions-count.ensures c.args.i.0 c.owner-b.result c.owner-b.ensures c.if-count-b.false c.is_persistent.result c.is_persistent.ensures c.if-is_persistent.true c.number.result c.number.ensures c.number-width.result c.number-width.ensures c.marker_at-m.result c.marker_at-m.ensures c.nth-u.result c.nth-u.ensures

pub overflow_cast-result-2 : goal.overflow_cast-result-2
overflow_cast-result-2 c =
    omega (arith, few_conditions c.args.table.now _ _ _ (c.lay_out.ensures.laid _ c.in_ok-events.was) c.lay_out.ensures.answer c.in_ok-events.was c.conditions-count.result c.conditions-count.ensures)

pub returns : goal.returns
returns c =
    number_ordinary c.args.table.now _ _ _ (c.lay_out.ensures.laid _ c.in_ok-events.was) c.lay_out.ensures.answer c.in_ok-events.was c.conditions-count.result c.conditions-count.ensures c.args.i.0 c.owner-b.result c.owner-b.ensures c.if-count-b.false c.is_persistent.result c.is_persistent.ensures c.if-is_persistent.false
