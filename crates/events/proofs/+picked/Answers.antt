-- `events::picked` meets its contract.
use Prim.Native.Nat.{◌/◌}
use native.Mathlib.Omega.{arith}
use native.Mathlib.Nat.{div-le_self}
use mathlib.Core.Path.{refl, ap}
use mathlib.Core.List.{List}
use lib.ListN.{length, length-set}
use Rattle.model.specs.Runs.{Marker}
use Rattle.events.specs.Colours.{push_all}
use Rattle.events.proofs.Picks.{picks_within, choices_none, choices_more, mark_some, below_some, digit_in, picking_more, digits_more}
use Rattle.events.proofs.Codes.{told_down}
use Rattle.events.proofs.picked.Reads as picked
use Rattle.events.proofs.+picked.Goals as goal

pub overflow_sub-left : goal.overflow_sub-left
overflow_sub-left t c =
    picks_within c.args.pre.now.now c.requires.left_in_bounds c.requires.picking c.flags.ensures c.first_persistent-i.ensures

pub returns-then-left-i-lt2 : goal.returns-then-left-i-lt2
unfolding push_all
returns-then-left-i-lt2 t c =
    let none = choices_none c.args.pre.now.now c.requires.left_in_bounds c.requires.picking c.flags.ensures c.first_persistent-i.ensures c.if-left-i-lt2.true in
    record {
      counted = (c.requires.room.0, rw none (omega arith));
      coloured = rw none refl;
    }

pub nonzero_div-below : goal.nonzero_div-below
nonzero_div-below t c =
    rw c.number.ensures (mark_some c.args.pre.now.now c.requires.left_in_bounds c.requires.picking c.flags.ensures c.first_persistent-i.ensures c.if-left-i-lt2.false c.word_within-b.ensures)

pub nonzero_div-rest : goal.nonzero_div-rest
nonzero_div-rest t c =
    rw c.number.ensures (below_some c.args.pre.now.now c.requires.left_in_bounds c.requires.picking c.flags.ensures c.first_persistent-i.ensures c.if-left-i-lt2.false c.word_within-b.ensures)

pub overflow_cast-rest : goal.overflow_cast-rest
overflow_cast-rest t c =
    omega (arith, div-le_self c.args.rest (c.args.weight / c.number.result))

pub marker_code-requires : goal.marker_code-requires
marker_code-requires t c =
    let few = c.requires.picking.within.marked.limits.few_events in
    let all = c.requires.picking.within.all in
    record {
      events_value = all;
      events_bound = omega arith;
      place_in_bounds = rw c.number.ensures (digit_in c.args.pre.now.now c.requires.left_in_bounds c.requires.picking c.flags.ensures c.first_persistent-i.ensures c.if-left-i-lt2.false c.word_within-b.ensures);
    }

pub bounds-codes-count : goal.bounds-codes-count
bounds-codes-count t c =
    omega (arith, c.requires.room.1, ap (λ (l : List (List Marker)). length l) (choices_more c.args.pre.now.now c.requires.left_in_bounds c.requires.picking c.flags.ensures c.first_persistent-i.ensures c.if-left-i-lt2.false c.word_within-b.ensures))

pub nonzero_rem-rest : goal.nonzero_rem-rest
nonzero_rem-rest t c =
    rw c.number.ensures (below_some c.args.pre.now.now c.requires.left_in_bounds c.requires.picking c.flags.ensures c.first_persistent-i.ensures c.if-left-i-lt2.false c.word_within-b.ensures)

pub picked-requires : goal.picked-requires
picked-requires t c =
    let less = ap (λ (l : List (List Marker)). length l) (choices_more c.args.pre.now.now c.requires.left_in_bounds c.requires.picking c.flags.ensures c.first_persistent-i.ensures c.if-left-i-lt2.false c.word_within-b.ensures) in
    (omega (arith, c.requires.left_in_bounds, c.if-left-i-lt2.false), (omega (arith, c.requires.left_in_bounds), (rw c.number.ensures (picking_more c.args.pre.now.now c.requires.left_in_bounds c.requires.picking c.flags.ensures c.first_persistent-i.ensures c.if-left-i-lt2.false c.word_within-b.ensures), (simp length-set c.requires.room.0, omega (arith, c.requires.room.1)))))

pub returns : goal.returns
returns t c =
    let less = ap (λ (l : List (List Marker)). length l) (choices_more c.args.pre.now.now c.requires.left_in_bounds c.requires.picking c.flags.ensures c.first_persistent-i.ensures c.if-left-i-lt2.false c.word_within-b.ensures) in
    let long = c.requires.room.0 in
    let number = c.number.ensures in
    record {
      counted = (c.picked.ensures.counted.0, omega (arith, c.picked.ensures.counted.1));
      coloured = told_down c.args.codes.now (omega (arith, c.requires.room.1)) (rw number at c.marker_code.ensures) (digits_more c.args.pre.now.now c.requires.left_in_bounds c.requires.picking c.flags.ensures c.first_persistent-i.ensures c.if-left-i-lt2.false c.word_within-b.ensures) (rw number at c.picked.ensures.coloured);
    }
