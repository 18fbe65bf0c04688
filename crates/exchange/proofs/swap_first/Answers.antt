-- `exchange::swap_first` meets its contract.
use Rattle.exchange.proofs.Exchanging.{swap_is}
use Rattle.exchange.proofs.swap_first.Goals as goal

pub returns : goal.returns
returns c =
    swap_is c.args.part.now c.requires
