-- `arcs::lay_arcs` meets its contract.
use mathlib.Core.Path.{refl, ◌∙◌, ap}
use Prim.Native.Nat.{ℕ, ◌*◌}
use native.Mathlib.Omega.{arith}
use lib.ListN.{get_or}
use Rattle.records.specs.Records.{conditions}
use Rattle.arcs.specs.Arcs.{side_at, shift_of}
use Rattle.arcs.proofs.Parts.{part_room}
use Rattle.arcs.proofs.Laid.{none_laid, part_laid, side_is}
use Rattle.arcs.proofs.Exported.{arcs_laid}
use Rattle.arcs.proofs.Opened.{conditions_all, side_room, firsts_are, shift_few}
use borrow.Author.Rules.{rules}
use Rattle.arcs.proofs.lay_arcs.Goals as goal

pub loop-i-init : goal.loop-i-init
loop-i-init c =
    let firsts = get_or c.args.bases.now c.conditions-n.result 0 in
    let none = none_laid c.args.table.now firsts c.args.own.event c.args.own.rest c.args.starts.now c.args.sizes.now c.conditions-n.result in
    (c.requires.rest_bound.1, c.requires.rest_bound.2, none)

pub overflow_mul-at-in-loop-i : goal.overflow_mul-at-in-loop-i
overflow_mul-at-in-loop-i c =
    let room = side_room c.requires.sided c.conditions-n.result c.conditions-n.ensures c.loop-i.i (omega arith) in
    omega (arith, room)

pub offset_bounds-starts-at : goal.offset_bounds-starts-at
offset_bounds-starts-at c =
    let room = side_room c.requires.sided c.conditions-n.result c.conditions-n.ensures c.loop-i.i (omega arith) in
    omega (arith, room)

pub slice_bounds-lay_side-count : goal.slice_bounds-lay_side-count
slice_bounds-lay_side-count c =
    let room = side_room c.requires.sided c.conditions-n.result c.conditions-n.ensures c.loop-i.i (omega arith) in
    omega (arith, room, c.loop-i.invariant.0)

pub slice_bounds-lay_side-start : goal.slice_bounds-lay_side-start
slice_bounds-lay_side-start c =
    let room = side_room c.requires.sided c.conditions-n.result c.conditions-n.ensures c.loop-i.i (omega arith) in
    omega (arith, room, c.loop-i.invariant.0)

pub offset_bounds-sizes-at : goal.offset_bounds-sizes-at
offset_bounds-sizes-at c =
    let room = side_room c.requires.sided c.conditions-n.result c.conditions-n.ensures c.loop-i.i (omega arith) in
    omega (arith, room)

pub slice_bounds-lay_side-count-in-loop-i : goal.slice_bounds-lay_side-count-in-loop-i
slice_bounds-lay_side-count-in-loop-i c =
    let room = side_room c.requires.sided c.conditions-n.result c.conditions-n.ensures c.loop-i.i (omega arith) in
    omega (arith, room, c.loop-i.invariant.1)

pub slice_bounds-lay_side-start-in-loop-i : goal.slice_bounds-lay_side-start-in-loop-i
slice_bounds-lay_side-start-in-loop-i c =
    let room = side_room c.requires.sided c.conditions-n.result c.conditions-n.ensures c.loop-i.i (omega arith) in
    omega (arith, room, c.loop-i.invariant.1)

pub lay_side-requires : goal.lay_side-requires
lay_side-requires c =
    let n = c.conditions-n.result in
    let all = conditions_all c.requires.sided n c.conditions-n.ensures in
    let room = side_room c.requires.sided n c.conditions-n.ensures c.loop-i.i (omega arith) in
    let at = c.loop-i.i * (2 * n) in
    let part = 2 * conditions c.args.table.now in
    let firsts = get_or c.args.bases.now n 0 in
    let shift = c.shift_at.ensures ∙ ap (λ (k : ℕ). shift_of k (side_at c.loop-i.i)) c.number.ensures in
    record {
      sided = c.requires.sided;
      table_value = all;
      table_in_bounds = (
        part_room at part c.loop-i.starts (omega (arith, room, c.conditions-n.ensures, c.loop-i.invariant.0)),
        part_room at part c.loop-i.sizes (omega (arith, room, c.conditions-n.ensures, c.loop-i.invariant.1)),
      );
      shift_bound = shift_few c.requires.sided n c.conditions-n.ensures firsts refl (side_at c.loop-i.i) c.shift_at.result shift;
    }

pub loop-i-preserved : goal.loop-i-preserved
loop-i-preserved c =
    let i = c.loop-i.i in
    let n = c.conditions-n.result in
    let s = c.args.table.now in
    let e = c.args.own.event in
    let rest = c.args.own.rest in
    let firsts = get_or c.args.bases.now n 0 in
    let starts = c.lay_side.new.starts in
    let sizes = c.lay_side.new.sizes in
    let room = side_room c.requires.sided n c.conditions-n.ensures i (omega arith) in
    let shift = c.shift_at.ensures ∙ ap (λ (k : ℕ). shift_of k (side_at i)) c.number.ensures in
    let side = side_is s firsts e rest starts sizes n i c.conditions-n.ensures c.side_at.result c.side_at.ensures c.shift_at.result shift c.lay_side.ensures in (
      search rules,
      search rules,
      part_laid s firsts e rest c.loop-i.starts c.loop-i.sizes starts sizes n i (omega (arith, room, c.loop-i.invariant.0))
          (omega (arith, room, c.loop-i.invariant.1)) c.loop-i.invariant.2 side,
    )

pub returns : goal.returns
returns c =
    let n = c.conditions-n.result in
    let sided = c.requires.sided in
    let firsts = get_or c.args.bases.now n 0 in
    let all = conditions_all sided n c.conditions-n.ensures in
    let firsts_is = firsts_are sided n c.conditions-n.ensures firsts refl in
    arcs_laid c.args.table.now c.args.own.event c.args.own.rest sided.taking.event c.requires.rest_bound.0 all firsts firsts_is sided.taking.few
    c.loop-i.starts c.loop-i.sizes n c.conditions-n.ensures c.loop-i.invariant.0 c.loop-i.invariant.1 (λ i h. c.loop-i.invariant.2 i (omega arith))
