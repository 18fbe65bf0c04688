-- `sides::side_of` meets its contract.
use mathlib.Core.Path.{◌∙◌}
use Rattle.sides.proofs.side_of.Goals as goal

pub returns-then-share : goal.returns-then-share
returns-then-share c =
    c.parted.ensures ∙ rw (c.in-Fills.is, c.if-share.true)

pub returns-then-share-2 : goal.returns-then-share-2
returns-then-share-2 c =
    c.joined.ensures ∙ rw (c.in-Puts.is, c.if-share-2.true)

pub returns-then-share-3 : goal.returns-then-share-3
returns-then-share-3 c =
    c.alone-then-share-3.ensures ∙ rw (c.in-Empties.is, c.if-share-3.true)

pub returns-in-Takes : goal.returns-in-Takes
returns-in-Takes c =
    c.alone.ensures ∙ rw c.in-Takes.is

pub returns-else-share : goal.returns-else-share
returns-else-share c =
    c.alone-in-Fills.ensures ∙ rw (c.in-Fills.is, c.if-share.false)

pub returns-else-share-2 : goal.returns-else-share-2
returns-else-share-2 c =
    c.alone-in-Puts.ensures ∙ rw (c.in-Puts.is, c.if-share-2.false)

pub returns-else-share-3 : goal.returns-else-share-3
returns-else-share-3 c =
    c.alone-in-Empties.ensures ∙ rw (c.in-Empties.is, c.if-share-3.false)
