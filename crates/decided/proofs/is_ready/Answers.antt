-- `decided::is_ready` meets its contract.
use Rattle.model.specs.Lent.{marking}
use Rattle.decided.proofs.is_ready.Goals as goal

pub returns-then-is_persistent : goal.returns-then-is_persistent
unfolding marking
returns-then-is_persistent c =
    rw (← c.is_persistent.ensures, c.if-is_persistent.true) c.has_marked.ensures

pub returns : goal.returns
unfolding marking
returns c =
    simp (← c.is_persistent.ensures, c.if-is_persistent.false, ← c.byte.ensures)
