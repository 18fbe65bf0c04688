-- The first piece, the rest and the newline.
use Prim.Native.Nat.{ℕ, ◌+◌, ◌-◌, ◌≤◌}
use native.Mathlib.Omega.{arith}
use lib.ListN.{length}
use Rattle.model.specs.Lent.{marking}
use Rattle.spelling.proofs.Texts.{both, same_text}
use Rattle.listing.proofs.Held.{first_below}
use Rattle.listing.proofs.Lines.{list_parts, first_short, more_short}
use Rattle.listing.proofs.put_list.Goals as goal

pub put_first-next-requires : goal.put_first-next-requires
put_first-next-requires c =
    (c.first_held-first.ensures, omega (arith, c.requires.1))

pub overflow_add-first : goal.overflow_add-first
overflow_add-first c =
    omega (arith, c.first_held-first.ensures, first_below c.args.state.now, c.requires.0)

pub put_more-end-requires : goal.put_more-end-requires
put_more-end-requires c =
    let short = first_short c.args.state.now c.first_held-first.result c.first_held-first.ensures (omega (arith, c.requires.0)) in
    (omega arith, omega (arith, short, c.put_first-next.ensures.told, c.requires.0, c.requires.1))

pub put-requires : goal.put-requires
put-requires c =
    let l = c.args.state.now in
    let first : ℕ = c.first_held-first.result in
    let below : first ≤ length l = omega (arith, c.first_held-first.ensures, first_below l) in
    let short = first_short l first c.first_held-first.ensures (omega (arith, c.requires.0)) in
    let more = more_short (marking l) (length l - (first + 1)) (first + 1) (omega (arith, c.requires.0)) in
    omega (arith, short, more, c.put_first-next.ensures.told, c.put_more-end.ensures.told, c.requires.0, c.requires.1)

pub returns : goal.returns
returns c =
    both (same_text (list_parts c.args.state.now c.first_held-first.result c.first_held-first.ensures) (both c.put_first-next.ensures c.put_more-end.ensures)) c.put.ensures
