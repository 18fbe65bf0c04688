-- `layout::sums` meets its contract.
use Rattle.layout.proofs.Counts.{sum_next, width_low}
use native.Mathlib.Omega.{arith}
use mathlib.Core.Path.{◌≡◌, ◌∙◌, ap}
use Prim.Native.Nat.{ℕ, ◌+◌, ◌*◌, ◌≤◌}
use lib.ListN.{length-set}
use Rattle.lists.specs.Lists.{sum}
use Rattle.tally.proofs.Lists.{set_more}
use Rattle.layout.specs.Counts.{width_at}
use Rattle.layout.proofs.sums.Goals as goal

pub overflow_add-total : goal.overflow_add-total
overflow_add-total c =
    omega (arith, c.width-total.ensures, width_low c.args.table.now c.args.markers.now c.args.users.now c.loop-b.b c.requires.low.0 c.requires.low.1)

pub loop-b-preserved : goal.loop-b-preserved
loop-b-preserved c =
    let f = width_at c.args.table.now c.args.markers.now c.args.users.now in
    let i = c.loop-b.invariant in
    let low = width_low c.args.table.now c.args.markers.now c.args.users.now c.loop-b.b c.requires.low.0 c.requires.low.1 in
    let few : c.loop-b.total + c.width-total.result ≤ 1000000 * (c.loop-b.b + 1) = omega (arith, c.width-total.ensures) in
    let counted = ap (λ (x : ℕ). x + c.width-total.result) i.2 ∙ sum_next f c.loop-b.b c.width-total.result c.width-total.ensures in
    (simp length-set i.0, few, counted, set_more (λ k. sum f k) c.loop-b.bases c.loop-b.b c.loop-b.total (omega arith) i.2 i.3)

pub returns : goal.returns
returns c =
    let f = width_at c.args.table.now c.args.markers.now c.args.users.now in
    let i = c.loop-b.invariant in
    let z : c.loop-b.b ≡ c.conditions-n.result = omega arith in
    let all = set_more (λ k. sum f k) c.loop-b.bases c.loop-b.b c.loop-b.total (omega arith) i.2 i.3 in
    rw (← z) (record { size = simp length-set i.0; at = λ b h. all b (omega (arith, c.conditions-n.ensures)) })
