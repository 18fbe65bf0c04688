-- `export_places::link_at` meets its contract.
use Prim.Native.Nat.{◌*◌}
use native.Mathlib.Omega.{arith}
use borrow.Author.Tests.{lt-ltb, le-ltb}
use Rattle.records.specs.Records.{conditions}
use Rattle.export_places.proofs.link_at.Goals as goal

pub returns-then-range-conditions : goal.returns-then-range-conditions
returns-then-range-conditions c =
    rw (lt-ltb c.args.spot.range (4 * conditions c.args.table.now) (omega (arith, c.conditions.ensures, c.if-range-conditions.true)))

pub returns : goal.returns
returns c =
    rw (le-ltb c.args.spot.range (4 * conditions c.args.table.now) (omega (arith, c.conditions.ensures, c.if-range-conditions.false)))
