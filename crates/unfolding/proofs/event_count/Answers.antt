-- `unfolding::event_count` meets its contract.
use Rattle.std.proofs.Common.{rules}
use native.Mathlib.Omega.{arith}
use mathlib.Core.Path.{◌≡◌, ◌∙◌, sym, ap}
use Rattle.std.specs.Prelude.{Ok}
use Rattle.model.specs.Unfolding.{basic}
use Rattle.table.specs.Decoded.{net_of}
use Rattle.layout.proofs.Limits.{unfolds_passed, unfolds_on}
use Rattle.unfolding.proofs.Owners.{within_laid}
use Rattle.unfolding.proofs.Calls.{events_count}
use Rattle.unfolding.proofs.event_count.Goals as goal

pub returns-in_err-events : goal.returns-in_err-events
returns-in_err-events c =
    let same : c.from_residual.result ≡ c.lay_out.result = search rules in
    same ∙ unfolds_passed c.args.table.now (Ok (basic (net_of c.args.table.now)).events) (net_of c.args.table.now).events c.lay_out.ensures.answer c.in_err-events.was

pub colours_before-requires : goal.colours_before-requires
colours_before-requires c =
    record {
      within = (within_laid c.args.table.now c.lay_out.new.markers c.lay_out.new.users c.lay_out.new.bases c.in_ok-events.events (c.lay_out.ensures.laid c.in_ok-events.events c.in_ok-events.was) (unfolds_on c.args.table.now (Ok 0) (net_of c.args.table.now).events c.lay_out.ensures.answer c.in_ok-events.was).1);
      upto_le_events = omega arith;
    }

pub returns : goal.returns
returns c =
    let n = net_of c.args.table.now in
    ap Ok (c.colours_before.ensures ∙ events_count n c.in_ok-events.events (unfolds_on c.args.table.now (Ok 0) (net_of c.args.table.now).events c.lay_out.ensures.answer c.in_ok-events.was).1) ∙ sym (unfolds_on c.args.table.now (Ok (basic n).events) (net_of c.args.table.now).events c.lay_out.ensures.answer c.in_ok-events.was).0
