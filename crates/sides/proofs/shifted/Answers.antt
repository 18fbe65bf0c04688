-- `sides::shifted` meets its contract.
use Rattle.sides.proofs.Raised.{raise_segment}
use Rattle.sides.proofs.shifted.Goals as goal

pub returns : goal.returns
returns c =
    raise_segment c.args.shift c.args.g
