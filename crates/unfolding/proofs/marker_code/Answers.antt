-- `unfolding::marker_code` meets its contract.
use Prim.Native.Nat.{◌-◌}
use native.Mathlib.Omega.{arith}
use mathlib.Core.Bool.{true}
use Rattle.lists.specs.Lists.{mem}
use Rattle.table.specs.Decoded.{net_of}
use Rattle.tally.specs.Having.{list_of}
use Rattle.unfolding.proofs.Places.{kept_below, code_start, code_event}
use Rattle.unfolding.proofs.marker_code.Goals as goal

pub returns-then-place-eq0 : goal.returns-then-place-eq0
returns-then-place-eq0 c =
    code_start (net_of c.args.table.now) c.args.b c.args.place c.if-place-eq0.true

pub overflow_cast-result : goal.overflow_cast-result
overflow_cast-result c =
    omega (arith, c.nth.ensures, kept_below (λ e. mem c.args.b (list_of (net_of c.args.table.now) true e)) 0 c.args.events (c.args.place - 1))

pub overflow_add-result : goal.overflow_add-result
overflow_add-result c =
    omega (arith, c.nth.ensures, kept_below (λ e. mem c.args.b (list_of (net_of c.args.table.now) true e)) 0 c.args.events (c.args.place - 1))

pub returns : goal.returns
returns c =
    rw c.nth.ensures (code_event (net_of c.args.table.now) c.args.b c.args.place c.args.events c.requires.events_value c.if-place-eq0.false c.requires.place_in_bounds)
