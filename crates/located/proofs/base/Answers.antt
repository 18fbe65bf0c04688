-- `located::base` meets its contract.
use Prim.Native.Nat.{ℕ, ◌+◌}
use native.Mathlib.Omega.{arith}
use mathlib.Core.Path.{◌≡◌, ◌∙◌, ap}
use Rattle.lists.specs.Lists.{sum}
use Rattle.model.specs.Numbering.{width}
use Rattle.table.specs.Decoded.{net_of}
use Rattle.layout.proofs.Counts.{sum_next, counted_low}
use Rattle.located.proofs.Numbers.{width_here, sum_few}
use Rattle.located.proofs.base.Goals as goal

pub width-total-requires : goal.width-total-requires
width-total-requires c =
    counted_low c.args.table.now c.args.markers.now c.args.users.now c.requires.counted

pub overflow_add-total : goal.overflow_add-total
overflow_add-total c =
    let here = width_here c.args.table.now c.args.markers.now c.args.users.now c.requires.counted c.loop-i.i (omega arith) c.width-total.ensures in
    omega (arith, sum_few c.args.table.now c.args.markers.now c.args.users.now c.requires.counted c.loop-i.i (omega arith) c.requires.table_bound)

pub loop-i-preserved : goal.loop-i-preserved
loop-i-preserved c =
    let here = width_here c.args.table.now c.args.markers.now c.args.users.now c.requires.counted c.loop-i.i (omega arith) c.width-total.ensures in
    ap (λ (x : ℕ). x + c.width-total.result) c.loop-i.invariant ∙ sum_next (width (net_of c.args.table.now)) c.loop-i.i c.width-total.result here

pub returns : goal.returns
returns c =
    let z : c.loop-i.i ≡ c.args.b = omega arith in
    c.loop-i.invariant ∙ ap (λ (x : ℕ). sum (width (net_of c.args.table.now)) x) z
