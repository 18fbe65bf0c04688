-- `firing::lend` meets its contract.
use mathlib.Core.Path.{◌≡◌}
use Rattle.std.proofs.Common.{rules}
use Rattle.firing.proofs.Lends.{lend_refused, count_is, lend_long, lend_above, lend_fine}
use Rattle.firing.proofs.lend.Goals as goal

pub returns-in_err-events : goal.returns-in_err-events
returns-in_err-events c =
    let same : c.from_residual.result ≡ c.lay_out.result = search rules in
    rw same (lend_refused c.args.table.now c.args.state.now c.lay_out.result c.lay_out.new.markers c.lay_out.new.users c.lay_out.new.bases c.lay_out.ensures _ c.in_err-events.was)

pub returns-then-state-count : goal.returns-then-state-count
returns-then-state-count c =
    lend_long c.args.table.now c.args.state.now c.lay_out.result c.lay_out.new.markers c.lay_out.new.users c.lay_out.new.bases c.lay_out.ensures _ c.in_ok-events.was c.number-count.result (count_is c.args.table.now c.args.state.now c.lay_out.result c.lay_out.new.markers c.lay_out.new.users c.lay_out.new.bases c.lay_out.ensures _ c.in_ok-events.was c.conditions.result c.number-count.result c.conditions.ensures c.number-count.ensures) c.refused.result c.refused.ensures c.if-state-count.true

pub returns-then-above-state : goal.returns-then-above-state
returns-then-above-state c =
    lend_above c.args.table.now c.args.state.now c.lay_out.result c.lay_out.new.markers c.lay_out.new.users c.lay_out.new.bases c.lay_out.ensures _ c.in_ok-events.was c.number-count.result (count_is c.args.table.now c.args.state.now c.lay_out.result c.lay_out.new.markers c.lay_out.new.users c.lay_out.new.bases c.lay_out.ensures _ c.in_ok-events.was c.conditions.result c.number-count.result c.conditions.ensures c.number-count.ensures) c.refused-then-above-state.result c.first_above-above.result c.refused-then-above-state.ensures c.first_above-above.ensures c.if-state-count.false c.if-above-state.true

pub returns : goal.returns
returns c =
    rw c.in_ok-events.was at (lend_fine c.args.table.now c.args.state.now c.lay_out.result c.lay_out.new.markers c.lay_out.new.users c.lay_out.new.bases c.lay_out.ensures _ c.in_ok-events.was c.number-count.result (count_is c.args.table.now c.args.state.now c.lay_out.result c.lay_out.new.markers c.lay_out.new.users c.lay_out.new.bases c.lay_out.ensures _ c.in_ok-events.was c.conditions.result c.number-count.result c.conditions.ensures c.number-count.ensures) c.first_above-above.result c.first_above-above.ensures c.if-state-count.false c.if-above-state.false)
