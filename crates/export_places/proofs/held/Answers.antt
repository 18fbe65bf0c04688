-- `export_places::held` meets its contract.
use borrow.Author.Tests.{lt-ltb, le-ltb}
use Rattle.export_places.proofs.held.Goals as goal

pub returns-then-x-conditions : goal.returns-then-x-conditions
returns-then-x-conditions c =
    rw (lt-ltb c.args.x c.args.conditions c.if-x-conditions.true)

pub returns : goal.returns
returns c =
    rw (le-ltb c.args.x c.args.conditions c.if-x-conditions.false)
