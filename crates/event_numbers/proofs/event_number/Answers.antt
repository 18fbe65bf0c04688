-- `event_numbers::event_number` meets its contract.
use Rattle.std.proofs.Common.{rules}
use Rattle.events.proofs.Calls.{choices_are}
use Rattle.event_numbers.proofs.Calls.{number_fits, few_choices, weighing_first, number_no_event, number_many, number_no_colour, number_found}
use native.Mathlib.Omega.{arith}
use mathlib.Core.Path.{◌≡◌, ◌∙◌, sym}
use Rattle.std.specs.Prelude.{Ok}
use Rattle.refusal.specs.Answer.{need}
use Rattle.table.specs.Decoded.{net_of}
use Rattle.layout.proofs.Limits.{unfolds_passed, unfolds_on}
use Rattle.events.specs.Colours.{colour_of}
use Rattle.event_numbers.specs.Answers.{number_of}
use Rattle.unfolding.proofs.Owners.{within_laid}
use Rattle.event_numbers.proofs.event_number.Goals as goal

pub returns-in_err-events : goal.returns-in_err-events
unfolding number_of
returns-in_err-events c =
    let same : c.from_residual.result ≡ c.lay_out.result = search rules in
    same ∙ unfolds_passed c.args.table.now (need _ 10 0 _) (net_of c.args.table.now).events c.lay_out.ensures.answer c.in_err-events.was

pub returns-then-events-e : goal.returns-then-events-e
returns-then-events-e c =
    c.refused.ensures ∙ number_no_event c.args.table.now c.args.event.0 c.args.colour (λ own. (unfolds_on c.args.table.now own (net_of c.args.table.now).events c.lay_out.ensures.answer c.in_ok-events.was).0) (omega (arith, (unfolds_on c.args.table.now (Ok 0) (net_of c.args.table.now).events c.lay_out.ensures.answer c.in_ok-events.was).1, c.if-events-e.true))

pub returns-then-colour-gt16 : goal.returns-then-colour-gt16
returns-then-colour-gt16 c =
    c.refused-then-colour-gt16.ensures ∙ number_many c.args.table.now c.args.event.0 c.args.colour (λ own. (unfolds_on c.args.table.now own (net_of c.args.table.now).events c.lay_out.ensures.answer c.in_ok-events.was).0) c.if-colour-gt16.true (few_choices c.args.table.now c.lay_out.new.markers c.in_ok-events.events (within_laid c.args.table.now c.lay_out.new.markers c.lay_out.new.users c.lay_out.new.bases c.in_ok-events.events (c.lay_out.ensures.laid c.in_ok-events.events c.in_ok-events.was) (unfolds_on c.args.table.now (Ok 0) (net_of c.args.table.now).events c.lay_out.ensures.answer c.in_ok-events.was).1) c.args.event.0 (omega (arith, (unfolds_on c.args.table.now (Ok 0) (net_of c.args.table.now).events c.lay_out.ensures.answer c.in_ok-events.was).1, c.if-events-e.false)))

pub weigh-requires : goal.weigh-requires
weigh-requires c =
    record {
      weighing = weighing_first c.args.table.now c.lay_out.new.markers c.in_ok-events.events (within_laid c.args.table.now c.lay_out.new.markers c.lay_out.new.users c.lay_out.new.bases c.in_ok-events.events (c.lay_out.ensures.laid c.in_ok-events.events c.in_ok-events.was) (unfolds_on c.args.table.now (Ok 0) (net_of c.args.table.now).events c.lay_out.ensures.answer c.in_ok-events.was).1) c.args.event.0 c.offset.result (omega (arith, (unfolds_on c.args.table.now (Ok 0) (net_of c.args.table.now).events c.lay_out.ensures.answer c.in_ok-events.was).1, c.if-events-e.false)) c.offset.ensures c.list_at-pre.result.now c.list_at-pre.ensures;
      count_bound = c.if-colour-gt16.false;
    }

pub returns-in_default : goal.returns-in_default
returns-in_default c =
    c.refused-in_default.ensures ∙ number_no_colour c.args.table.now c.args.event.0 c.args.colour (λ own. (unfolds_on c.args.table.now own (net_of c.args.table.now).events c.lay_out.ensures.answer c.in_ok-events.was).0) _ (choices_are c.args.table.now c.lay_out.new.markers c.in_ok-events.events (within_laid c.args.table.now c.lay_out.new.markers c.lay_out.new.users c.lay_out.new.bases c.in_ok-events.events (c.lay_out.ensures.laid c.in_ok-events.events c.in_ok-events.was) (unfolds_on c.args.table.now (Ok 0) (net_of c.args.table.now).events c.lay_out.ensures.answer c.in_ok-events.was).1) c.args.event.0 c.offset.result (omega (arith, (unfolds_on c.args.table.now (Ok 0) (net_of c.args.table.now).events c.lay_out.ensures.answer c.in_ok-events.was).1, c.if-events-e.false)) c.offset.ensures c.list_at-pre.result.now c.list_at-pre.ensures) (sym c.weigh.ensures ∙ c.in_default.is)

pub colours_before-requires : goal.colours_before-requires
colours_before-requires c =
    record {
      within = (within_laid c.args.table.now c.lay_out.new.markers c.lay_out.new.users c.lay_out.new.bases c.in_ok-events.events (c.lay_out.ensures.laid c.in_ok-events.events c.in_ok-events.was) (unfolds_on c.args.table.now (Ok 0) (net_of c.args.table.now).events c.lay_out.ensures.answer c.in_ok-events.was).1);
      upto_le_events = omega (arith, c.if-events-e.false);
    }

pub overflow_add-result : goal.overflow_add-result
overflow_add-result c =
    omega (arith, number_fits c.args.table.now c.lay_out.new.markers c.in_ok-events.events (within_laid c.args.table.now c.lay_out.new.markers c.lay_out.new.users c.lay_out.new.bases c.in_ok-events.events (c.lay_out.ensures.laid c.in_ok-events.events c.in_ok-events.was) (unfolds_on c.args.table.now (Ok 0) (net_of c.args.table.now).events c.lay_out.ensures.answer c.in_ok-events.was).1) c.args.event.0 (omega (arith, (unfolds_on c.args.table.now (Ok 0) (net_of c.args.table.now).events c.lay_out.ensures.answer c.in_ok-events.was).1, c.if-events-e.false)) _ (choices_are c.args.table.now c.lay_out.new.markers c.in_ok-events.events (within_laid c.args.table.now c.lay_out.new.markers c.lay_out.new.users c.lay_out.new.bases c.in_ok-events.events (c.lay_out.ensures.laid c.in_ok-events.events c.in_ok-events.was) (unfolds_on c.args.table.now (Ok 0) (net_of c.args.table.now).events c.lay_out.ensures.answer c.in_ok-events.was).1) c.args.event.0 c.offset.result (omega (arith, (unfolds_on c.args.table.now (Ok 0) (net_of c.args.table.now).events c.lay_out.ensures.answer c.in_ok-events.was).1, c.if-events-e.false)) c.offset.ensures c.list_at-pre.result.now c.list_at-pre.ensures) (colour_of c.args.colour) c.in-Some.place c.colours_before.result (sym c.weigh.ensures ∙ c.in-Some.is) c.colours_before.ensures)

pub returns : goal.returns
returns c =
    number_found c.args.table.now c.args.event.0 c.args.colour (λ own. (unfolds_on c.args.table.now own (net_of c.args.table.now).events c.lay_out.ensures.answer c.in_ok-events.was).0) _ (choices_are c.args.table.now c.lay_out.new.markers c.in_ok-events.events (within_laid c.args.table.now c.lay_out.new.markers c.lay_out.new.users c.lay_out.new.bases c.in_ok-events.events (c.lay_out.ensures.laid c.in_ok-events.events c.in_ok-events.was) (unfolds_on c.args.table.now (Ok 0) (net_of c.args.table.now).events c.lay_out.ensures.answer c.in_ok-events.was).1) c.args.event.0 c.offset.result (omega (arith, (unfolds_on c.args.table.now (Ok 0) (net_of c.args.table.now).events c.lay_out.ensures.answer c.in_ok-events.was).1, c.if-events-e.false)) c.offset.ensures c.list_at-pre.result.now c.list_at-pre.ensures) (omega (arith, (unfolds_on c.args.table.now (Ok 0) (net_of c.args.table.now).events c.lay_out.ensures.answer c.in_ok-events.was).1, c.if-events-e.false)) c.in-Some.place c.colours_before.result (sym c.weigh.ensures ∙ c.in-Some.is) c.colours_before.ensures
