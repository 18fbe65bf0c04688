-- `repeats::once_only` meets its contract.
use Prim.Native.Nat.{◌<◌}
use native.Mathlib.Omega.{arith}
use mathlib.Core.Path.{◌≡◌, ◌∙◌, refl}
use mathlib.Core.Bool.{Bool, true, false}
use lib.Dec.{eqb}
use mir.Val.{bool_byte}
use Rattle.table.specs.Decoded.{net_of}
use Rattle.table.proofs.InOrder.{passed}
use Rattle.repeats.proofs.Walk.{marks_walk, upto_next}
use Rattle.repeats.proofs.once_only.Goals as goal

byte_told : (b : Bool) → eqb (bool_byte b) 1 ≡ b
byte_told true = refl
byte_told false = refl

pub loop-event-preserved : goal.loop-event-preserved
loop-event-preserved c =
    let s = c.args.table.now in
    let p = passed _ _ _ _ _ c.loop-event.invariant.0 c.in-Some.ensures.steps in
    let m = marks_walk s c.args.users.now c.requires.used _ p.inside _ p.at_is _ c.list_at-pre.ensures _ c.list_at-post.ensures c.marks_for_others.ensures in
    let few : c.loop-event.event-iterator.number < 256 = omega (arith, c.requires.used.limits.few_events) in
    (p.over, rw (p.next_number, p.number_is) (upto_next (net_of s) _ _ c.loop-event.invariant.1 few _ (byte_told _ ∙ m)))
