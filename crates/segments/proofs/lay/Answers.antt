-- `segments::lay` meets its contract.
use Prim.Native.Nat.{ℕ, ◌*◌}
use native.Mathlib.Omega.{arith}
use mathlib.Core.Path.{◌≡◌, ◌∙◌, sym, ap₂, subst}
use mathlib.Core.List.{List, ◌++◌}
use Rattle.lists.specs.Lists.{count, spread}
use Rattle.table.specs.Decoded.{net_of}
use Rattle.segments.specs.Ranges.{ranged, event_at, added}
use Rattle.segments.proofs.Ranged.{ranged_none, spread_next}
use Rattle.segments.proofs.lay.Goals as goal

pub loop-b-init : goal.loop-b-init
loop-b-init c =
    (c.requires.starts_len.0, c.requires.starts_len.1, ranged_none c.args.starts.now c.args.sizes.now)

pub segment_at-g-requires : goal.segment_at-g-requires
segment_at-g-requires c =
    record { known = c.requires.known; b_bound = omega (arith, c.conditions-n.ensures, c.requires.table_value) }

pub keep_segment-requires : goal.keep_segment-requires
keep_segment-requires c =
    let few = c.requires.known.limits.few_conditions in
    let all = c.requires.table_value in
    (omega (arith, c.conditions-n.ensures, c.loop-b.invariant.0), omega (arith, c.conditions-n.ensures, c.loop-b.invariant.1))

pub loop-b-preserved : goal.loop-b-preserved
loop-b-preserved c =
    let i = c.loop-b.invariant in
    let f = added (net_of c.args.table.now) c.args.post (event_at (net_of c.args.table.now) c.args.own.event c.args.own.rest) in
    let more = ap₂ {C = List ℕ} (λ x y. x ++ y) i.2 c.segment_at-g.ensures in
    (omega (arith, i.0), omega (arith, i.1), c.keep_segment.ensures ∙ more ∙ sym (spread_next f c.loop-b.b))

pub returns : goal.returns
returns c =
    let f = added (net_of c.args.table.now) c.args.post (event_at (net_of c.args.table.now) c.args.own.event c.args.own.rest) in
    subst (λ (k : ℕ). ranged c.loop-b.starts c.loop-b.sizes (2 * k) ≡ spread f (count 0 k)) (omega (arith, c.conditions-n.ensures)) c.loop-b.invariant.2
