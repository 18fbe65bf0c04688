-- `events::event_origin` meets its contract.
use Rattle.std.proofs.Common.{rules}
use native.Mathlib.Omega.{arith}
use mathlib.Core.Path.{◌≡◌, ◌∙◌}
use lib.Dec.{ltb}
use lib.ListN.{length}
use Rattle.std.specs.Prelude.{Ok, Err}
use Rattle.words.specs.Words.{words}
use Rattle.refusal.specs.Answer.{need}
use Rattle.model.specs.Unfolding.{basic, origin}
use Rattle.table.specs.Decoded.{net_of}
use Rattle.layout.proofs.Limits.{unfolds_passed, unfolds_on}
use Rattle.unfolding.specs.Numbers.{choices_of}
use Rattle.unfolding.proofs.Owners.{within_laid}
use Rattle.events.specs.Answers.{origin_judged}
use Rattle.events.proofs.Calls.{choices_are, room_first, picking_first, origin_refused, origin_past, origin_found}
use Rattle.events.proofs.event_origin.Goals as goal

pub returns-in_err-events : goal.returns-in_err-events
unfolding origin_judged
returns-in_err-events c =
    let s = c.args.table.now in
    let own = need (ltb c.args.j.0 (basic (net_of s)).events) 10 0 (Ok (length (origin (net_of s) c.args.j.0).colour)) in
    let told : c.from_residual.result ≡ Err c.in_err-events.field-0.0 = search rules in
    told ∙ origin_refused s c.args.j.0 (unfolds_passed s own (net_of s).events c.lay_out.ensures.answer c.in_err-events.was) c.in_err-events.was

pub owner-requires : goal.owner-requires
owner-requires c =
    let s = c.args.table.now in
    let new = c.lay_out.new in
    let events = c.in_ok-events.events in
    let all = (unfolds_on s (Ok 0) (net_of s).events c.lay_out.ensures.answer c.in_ok-events.was).1 in
    within_laid s new.markers new.users new.bases events (c.lay_out.ensures.laid events c.in_ok-events.was) all

pub returns-in_default : goal.returns-in_default
returns-in_default c =
    let s = c.args.table.now in
    let laid = c.lay_out.ensures.answer in
    c.refused.ensures ∙ origin_past s c.args.j.0 (λ own. (unfolds_on s own (net_of s).events laid c.in_ok-events.was).0) (rw c.in_default.is at c.owner.ensures)

pub colour_at-requires : goal.colour_at-requires
colour_at-requires c =
    let s = c.args.table.now in
    let new = c.lay_out.new in
    let events = c.in_ok-events.events in
    let all = (unfolds_on s (Ok 0) (net_of s).events c.lay_out.ensures.answer c.in_ok-events.was).1 in
    let within = within_laid s new.markers new.users new.bases events (c.lay_out.ensures.laid events c.in_ok-events.was) all in
    let own = c.in-Some.own in
    let o = c.in-Some.ensures in
    let pre = c.list_at-pre.result.now in
    record {
      picking = picking_first s new.markers events within own.event own.at o.event o.offset pre c.list_at-pre.ensures c.args.j.0 own.rest own.weight o;
      pre_len_bound = room_first s new.markers events within own.event own.at o.event o.offset pre c.list_at-pre.ensures;
    }

pub overflow_cast-result : goal.overflow_cast-result
overflow_cast-result c =
    let s = c.args.table.now in
    let new = c.lay_out.new in
    let events = c.in_ok-events.events in
    let all = (unfolds_on s (Ok 0) (net_of s).events c.lay_out.ensures.answer c.in_ok-events.was).1 in
    let within = within_laid s new.markers new.users new.bases events (c.lay_out.ensures.laid events c.in_ok-events.was) all in
    omega (arith, within.marked.limits.few_events, c.in-Some.ensures.event)

pub returns : goal.returns
returns c =
    let s = c.args.table.now in
    let j = c.args.j.0 in
    let new = c.lay_out.new in
    let events = c.in_ok-events.events in
    let laid = c.lay_out.ensures in
    let all = (unfolds_on s (Ok 0) (net_of s).events laid.answer c.in_ok-events.was).1 in
    let within = within_laid s new.markers new.users new.bases events (laid.laid events c.in_ok-events.was) all in
    let own = c.in-Some.own in
    let o = c.in-Some.ensures in
    let pre = c.list_at-pre.result.now in
    let mss = choices_of s (words pre) in
    let is = choices_are s new.markers events within own.event own.at o.event o.offset pre c.list_at-pre.ensures in
    origin_found s j (λ own. (unfolds_on s own (net_of s).events laid.answer c.in_ok-events.was).0) own.event own.rest o.event (rw (← o.whole) o.below) o.left mss is _ c.colour_at.ensures
