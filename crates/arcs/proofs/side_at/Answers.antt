-- `arcs::side_at` meets its contract.
use borrow.Author.Tests.{eq-eqb, ne_eqb}
use Rattle.arcs.proofs.side_at.Goals as goal

pub returns-then-i-eq0 : goal.returns-then-i-eq0
returns-then-i-eq0 c =
    rw (eq-eqb c.args.i 0 c.if-i-eq0.true)

pub returns-then-i-eq1 : goal.returns-then-i-eq1
returns-then-i-eq1 c =
    rw (ne_eqb c.args.i 0 c.if-i-eq0.false, eq-eqb c.args.i 1 c.if-i-eq1.true)

pub returns-then-i-eq2 : goal.returns-then-i-eq2
returns-then-i-eq2 c =
    rw (ne_eqb c.args.i 0 c.if-i-eq0.false, ne_eqb c.args.i 1 c.if-i-eq1.false, eq-eqb c.args.i 2 c.if-i-eq2.true)

pub returns : goal.returns
returns c =
    rw (ne_eqb c.args.i 0 c.if-i-eq0.false, ne_eqb c.args.i 1 c.if-i-eq1.false, ne_eqb c.args.i 2 c.if-i-eq2.false)
