-- `apart::passes` meets its contract.
use Rattle.apart.proofs.passes.Goals as goal

pub returns-then-kept : goal.returns-then-kept
returns-then-kept c =
    simp (c.in-Held.is, ← c.holds-holds.ensures, ← c.byte-kept.ensures, c.if-kept.true)

pub returns-then-has : goal.returns-then-has
returns-then-has c =
    simp (c.in-Once.is, ← c.holds-holds.ensures, ← c.byte-kept.ensures, ← c.has.ensures, c.if-kept-2.true, c.if-has.true)

pub returns-in-Shared : goal.returns-in-Shared
returns-in-Shared c =
    simp (c.in-Shared.is, c.unshared.ensures, c.byte-kept.ensures)

pub returns-else-has : goal.returns-else-has
returns-else-has c =
    simp (c.in-Once.is, ← c.byte-kept.ensures, ← c.has.ensures, c.if-kept-2.true, c.if-has.false)
