-- `sides::lay_side` meets its contract.
use native.Mathlib.Omega.{arith}
use mathlib.Core.Path.{refl, ◌∙◌, ap}
use mathlib.Core.Bool.{not}
use Rattle.segments.specs.Ranges.{within}
use Rattle.segments.specs.declared.Segment.{Segment}
use Rattle.segments.proofs.Ranged.{ranged_none}
use Rattle.sides.specs.Shares.{share_at, side_of}
use Rattle.sides.specs.declared.Share.{Share}
use Rattle.sides.proofs.Raised.{raise, raise_next}
use Rattle.sides.proofs.Bounds.{share_by, side_by}
use Rattle.sides.proofs.Known.{sharing, share_low, shares_laid}
use Rattle.sides.proofs.lay_side.Goals as goal

pub loop-b-init : goal.loop-b-init
loop-b-init c =
    (refl, refl, ranged_none c.args.starts.now c.args.sizes.now)

pub share_at-share-requires : goal.share_at-share-requires
share_at-share-requires c =
    sharing c.requires.sided c.loop-b.b (omega (arith, c.conditions-n.ensures, c.requires.table_value))

pub side_of-requires : goal.side_of-requires
side_of-requires c =
    share_by _ _ c.share_at-share.ensures (share_low c.requires.sided c.loop-b.b (omega (arith, c.conditions-n.ensures, c.requires.table_value)) (not c.old_rule-paper.result))

pub shifted-g-requires : goal.shifted-g-requires
shifted-g-requires c =
    let l = side_by c.args.side _ _ _ c.side_of.ensures c.share_at-share.ensures (share_low c.requires.sided c.loop-b.b (omega (arith, c.conditions-n.ensures, c.requires.table_value)) (not c.old_rule-paper.result)) in
    (l.0, l.1, c.requires.shift_bound)

pub keep_segment-requires : goal.keep_segment-requires
keep_segment-requires c =
    (omega (arith, c.loop-b.invariant.0, c.conditions-n.ensures, c.requires.table_in_bounds.0), omega (arith, c.loop-b.invariant.1, c.conditions-n.ensures, c.requires.table_in_bounds.1))

pub loop-b-preserved : goal.loop-b-preserved
loop-b-preserved c =
    let a = c.args in
    let paper = not c.old_rule-paper.result in
    let share = share_at a.table.now a.users.now a.bases.now a.marks.now a.uses.now a.chosen.now a.before.now a.after.now paper in
    let side = c.side_of.ensures ∙ ap (λ (g : Share). side_of a.side g) c.share_at-share.ensures in
    let raised = c.shifted-g.ensures ∙ ap (λ (g : Segment). raise a.shift (within g)) side in
    let next = raise_next a.shift _ _ _ (λ i. within (side_of a.side (share i))) c.loop-b.b c.shifted-g.result c.keep_segment.ensures c.loop-b.invariant.2 raised in
    (omega (arith, c.loop-b.invariant.0), omega (arith, c.loop-b.invariant.1), next)

pub returns : goal.returns
returns c =
    shares_laid c.requires.sided (not c.old_rule-paper.result) (ap not c.old_rule-paper.ensures) c.args.side c.args.shift c.loop-b.b _ c.loop-b.starts c.loop-b.sizes (omega (arith, c.conditions-n.ensures)) c.requires.table_value c.loop-b.invariant.2
