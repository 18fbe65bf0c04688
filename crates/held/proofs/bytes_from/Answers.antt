-- `held::bytes_from` meets its contract.
use Rattle.held.proofs.Words.{bytes_there}
use Rattle.held.proofs.bytes_from.Goals as goal

pub returns : goal.returns
returns c = bytes_there _ _ _ _ c.min.ensures c.min-2.ensures
