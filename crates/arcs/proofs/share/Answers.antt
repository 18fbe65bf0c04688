-- `arcs::share` meets its contract.
use native.Mathlib.Omega.{arith}
use Rattle.arcs.proofs.share.Goals as goal

pub returns-else-own-eq0 : goal.returns-else-own-eq0
returns-else-own-eq0 c =
    c.requires.lent.shared (omega (arith, c.if-own-eq0.false))
