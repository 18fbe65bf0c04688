-- `apart::unshared` meets its contract.
use Rattle.lists.proofs.Members.{mem_append}
use Rattle.apart.proofs.unshared.Goals as goal

pub returns-then-has : goal.returns-then-has
returns-then-has c =
    simp (mem_append, ← c.has.ensures, c.if-has.true)

pub returns-then-has-2 : goal.returns-then-has-2
returns-then-has-2 c =
    simp (mem_append, ← c.has.ensures, ← c.has-2.ensures, c.if-has.false, c.if-has-2.true)

pub returns : goal.returns
returns c =
    simp (mem_append, ← c.has.ensures, ← c.has-2.ensures, c.if-has.false, c.if-has-2.false)
