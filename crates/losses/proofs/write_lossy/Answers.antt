-- `losses::write_lossy` meets its contract.
use Prim.Native.Nat.{◌≤◌}
use native.Mathlib.Omega.{arith}
use mathlib.Core.Path.{◌≡◌, ◌∙◌, ap, refl}
use mathlib.Core.Bool.{Bool, true, false}
use mir.Val.{bool_byte}
use Rattle.model.specs.Lent.{bit}
use Rattle.table.specs.Decoded.{net_of}
use Rattle.table.proofs.InOrder.{passed}
use Rattle.losses.specs.Losses.{lossy}
use Rattle.losses.proofs.Walk.{lossy_walk, writing_next, writing_all}
use Rattle.losses.proofs.write_lossy.Goals as goal

byte_is : (b : Bool) → bool_byte b ≡ bit b
byte_is true = refl
byte_is false = refl

pub loop-event-preserved : goal.loop-event-preserved
loop-event-preserved c =
    let s = c.args.table.now in
    let p = passed _ _ _ _ _ c.loop-event.invariant.0 c.in-Some.ensures.steps in
    let told = rw p.number_is at c.is_lossy.ensures in
    let lost = lossy_walk s _ _ _ c.requires.known _ p.before _ p.at_is _ c.list_at-pre.ensures _ c.list_at-post.ensures told in
    let next = writing_next _ (lossy (net_of s)) _ _ _ c.loop-event.invariant.1 p.before _ (byte_is _ ∙ ap bit lost) in
    (p.over, rw (p.next_number, p.number_is) next)

pub returns : goal.returns
returns c =
    let at_end : c.args.events ≤ c.loop-event.event-iterator.number = omega (arith, c.loop-event.invariant.0, c.in-None.ensures.steps) in
    writing_all c.args.events (lossy (net_of c.args.table.now)) _ _ _ c.loop-event.invariant.1 at_end c.requires.events_in_bounds
