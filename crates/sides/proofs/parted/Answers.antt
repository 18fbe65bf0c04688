-- `sides::parted` meets its contract.
use mathlib.Core.Path.{◌∙◌}
use borrow.Author.Tests.{lt-ltb, le-ltb}
use Rattle.sides.proofs.parted.Goals as goal

pub returns-then-taken-first : goal.returns-then-taken-first
returns-then-taken-first c =
    c.alone.ensures ∙ rw (lt-ltb _ _ c.if-taken-first.true)

pub returns-then-taken-first-2 : goal.returns-then-taken-first-2
returns-then-taken-first-2 c =
    rw (le-ltb _ _ c.if-taken-first.false, lt-ltb _ _ c.if-taken-first-2.true)

pub returns : goal.returns
returns c =
    c.alone-2.ensures ∙ rw (le-ltb _ _ c.if-taken-first.false, le-ltb _ _ c.if-taken-first-2.false)
