-- `layout::events_judged` meets its contract.
use borrow.Author.Rules.{rules}
use native.Mathlib.Omega.{arith}
use mathlib.Core.Path.{◌≡◌, ◌∙◌, sym, ap}
use mathlib.Core.Option.{Option}
use Prim.Native.Nat.{ℕ, ◌+◌}
use Rattle.std.specs.Prelude.{Ok}
use Rattle.lists.specs.Lists.{sum}
use Rattle.model.specs.Numbering.{size}
use Rattle.table.specs.Decoded.{net_of}
use Rattle.table.proofs.InOrder.{passed, Over}
use Rattle.colours.specs.Colours.{capped}
use Rattle.layout.specs.Counts.{idle_or, capped_count, events_of}
use Rattle.layout.proofs.Counts.{sum_next, idle_walk, colours_walk, idle_here, idle_later, idle_end, idle_all}
use Rattle.layout.proofs.events_judged.Goals as goal

pub loop-event-init : goal.loop-event-init
loop-event-init c =
    let walk : Over c.args.table.now c.args.events c.into_iter-event-iterator.result = search rules in
    let zero : c.into_iter-event-iterator.result.number ≡ 0 = search rules in
    (walk, omega arith, rw zero, rw zero (idle_all (net_of c.args.table.now) c.args.events c.requires.events_value))

pub returns-then-idle : goal.returns-then-idle
unfolding events_of
returns-then-idle c =
    let s = c.args.table.now in
    let p = passed _ _ _ _ _ c.loop-event.invariant.0 c.in-Some.ensures.steps in
    let judged = idle_walk s _ _ c.requires.counted _ _ p.inside p.at_is _ c.list_at-pre.ensures _ c.list_at.ensures c.idle.ensures in
    let here = c.loop-event.invariant.3 ∙ idle_here (net_of s) _ _ p.before (judged ∙ c.if-idle.true) in
    c.refused.ensures ∙ rw p.number_is (sym (ap (λ (o : Option ℕ). idle_or o (Ok (capped_count (net_of s)))) here))

pub loop-event-preserved : goal.loop-event-preserved
loop-event-preserved c =
    let s = c.args.table.now in
    let p = passed _ _ _ _ _ c.loop-event.invariant.0 c.in-Some.ensures.steps in
    let judged = idle_walk s _ _ c.requires.counted _ _ p.inside p.at_is _ c.list_at-pre.ensures _ c.list_at.ensures c.idle.ensures in
    let k = colours_walk s c.args.markers.now c.requires.counted.marked _ _ p.inside p.at_is _ c.list_at-pre.ensures c.colours.ensures in
    let total = ap (λ (x : ℕ). x + c.colours.result) c.loop-event.invariant.2 ∙ sum_next (λ e. capped (size (net_of s) e)) _ _ k in
    (p.over, omega arith, rw p.next_number total, rw p.next_number (c.loop-event.invariant.3 ∙ idle_later (net_of s) _ _ p.before (judged ∙ c.if-idle.false)))

pub returns : goal.returns
unfolding events_of capped_count
returns c =
    let s = c.args.table.now in
    let z : c.loop-event.event-iterator.number ≡ (net_of s).events = omega (arith, c.loop-event.invariant.0, c.in-None.ensures.steps) in
    let none = c.loop-event.invariant.3 ∙ idle_end (net_of s) _ _ (omega arith) in
    let total : c.loop-event.total ≡ sum (λ e. capped (size (net_of s) e)) (net_of s).events = rw z at c.loop-event.invariant.2 in
    ap Ok total ∙ sym (ap (λ (o : Option ℕ). idle_or o (Ok (sum (λ e. capped (size (net_of s) e)) (net_of s).events))) none)
