-- `decided::is_clear` meets its contract.
use borrow.Author.Tests.{ne_eqb}
use Rattle.model.specs.Lent.{marking}
use Rattle.decided.proofs.is_clear.Goals as goal

pub returns-then-again : goal.returns-then-again
unfolding marking
returns-then-again c =
    rw (← c.is_persistent.ensures, c.if-is_persistent.true, c.if-again.true) c.gives_back.ensures

pub returns-then-is_persistent : goal.returns-then-is_persistent
unfolding marking
returns-then-is_persistent c =
    simp (← c.is_persistent.ensures, c.if-is_persistent.true, c.if-again.false)

pub returns-then-byte-eq1 : goal.returns-then-byte-eq1
unfolding marking
returns-then-byte-eq1 c =
    simp (← c.is_persistent.ensures, c.if-is_persistent.false, ← c.byte.ensures, c.if-byte-eq1.true, c.number.ensures, c.requires c.args.b)

pub returns : goal.returns
unfolding marking
returns c =
    simp (← c.is_persistent.ensures, c.if-is_persistent.false, ← c.byte.ensures, ne_eqb _ _ c.if-byte-eq1.false)
