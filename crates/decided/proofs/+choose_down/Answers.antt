-- `decided::choose_down` meets its contract.
use native.Mathlib.Omega.{arith}
use Rattle.events.proofs.Picks.{picks_within, mark_some, below_some}
use Rattle.decided.proofs.Places.{chosen_none, keeping, choosing_more, chosen_more}
use Rattle.decided.proofs.+choose_down.Goals as goal

pub overflow_sub-left : goal.overflow_sub-left
overflow_sub-left t c =
    picks_within c.args.pre.now.now c.requires.left_in_bounds c.requires.choosing.picking c.flags.ensures c.first_persistent-i.ensures

pub returns-then-left-i-lt2 : goal.returns-then-left-i-lt2
returns-then-left-i-lt2 t c =
    chosen_none c.args.pre.now.now c.requires.left_in_bounds c.requires.choosing c.flags.ensures c.first_persistent-i.ensures c.if-left-i-lt2.true

pub nonzero_div-below : goal.nonzero_div-below
nonzero_div-below t c =
    rw c.number.ensures (mark_some c.args.pre.now.now c.requires.left_in_bounds c.requires.choosing.picking c.flags.ensures c.first_persistent-i.ensures c.if-left-i-lt2.false c.word_within-b.ensures)

pub nonzero_div-rest : goal.nonzero_div-rest
nonzero_div-rest t c =
    rw c.number.ensures (below_some c.args.pre.now.now c.requires.left_in_bounds c.requires.choosing.picking c.flags.ensures c.first_persistent-i.ensures c.if-left-i-lt2.false c.word_within-b.ensures)

pub keep-requires : goal.keep-requires
keep-requires t c =
    rw c.number.ensures (keeping c.args.pre.now.now c.requires.left_in_bounds c.requires.choosing c.flags.ensures c.first_persistent-i.ensures c.if-left-i-lt2.false c.word_within-b.ensures)

pub nonzero_rem-rest : goal.nonzero_rem-rest
nonzero_rem-rest t c =
    rw c.number.ensures (below_some c.args.pre.now.now c.requires.left_in_bounds c.requires.choosing.picking c.flags.ensures c.first_persistent-i.ensures c.if-left-i-lt2.false c.word_within-b.ensures)

pub choose_down-requires : goal.choose_down-requires
choose_down-requires t c =
    (omega (arith, c.requires.left_in_bounds, c.if-left-i-lt2.false), (omega (arith, c.requires.left_in_bounds), rw c.number.ensures (choosing_more c.args.pre.now.now c.requires.left_in_bounds c.requires.choosing c.flags.ensures c.first_persistent-i.ensures c.if-left-i-lt2.false c.word_within-b.ensures c.keep.ensures.held)))

pub shape_of-places : goal.shape_of-places
shape_of-places t c =
    omega (arith, c.choose_down.ensures.held.size, c.requires.choosing.held.size)

pub shape_of-kept : goal.shape_of-kept
shape_of-kept t c =
    omega (arith, c.choose_down.ensures.held.room, c.requires.choosing.held.room)

pub returns : goal.returns
returns t c =
    let number = c.number.ensures in
    chosen_more c.args.pre.now.now c.requires.left_in_bounds c.requires.choosing c.flags.ensures c.first_persistent-i.ensures c.if-left-i-lt2.false c.word_within-b.ensures (rw number at c.keep.ensures.placed) (rw number at c.choose_down.ensures)
