-- The table is judged, its index filled, and its start put.
use Rattle.std.proofs.Common.{rules}
use native.Mathlib.Omega.{arith}
use mathlib.Core.Path.{◌≡◌, sym, ◌∙◌}
use Rattle.table.proofs.Walk.{accepted}
use Rattle.opening.proofs.Opening.{set_up_refused, set_up_done}
use Rattle.opening.proofs.set_up.Goals as goal

pub returns-in_err-events : goal.returns-in_err-events
returns-in_err-events c =
    let same : c.from_residual.result ≡ c.judge.result = search rules in
    rw same (set_up_refused c.args.table.now c.judge.result _ _ c.judge.ensures c.in_err-events.was)

pub fill-requires : goal.fill-requires
fill-requires c =
    let j = sym c.judge.ensures ∙ c.in_ok-events.was in
    let few = (accepted _ _ j).few in
    (j, omega (arith, few, c.requires.0))

pub start-requires : goal.start-requires
start-requires c =
    (sym c.judge.ensures ∙ c.in_ok-events.was, c.requires.1)

pub returns : goal.returns
returns c =
    set_up_done c.args.table.now _ _ _ (sym c.judge.ensures ∙ c.in_ok-events.was) c.fill.ensures c.start.ensures
