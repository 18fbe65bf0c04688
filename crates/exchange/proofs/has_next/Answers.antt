-- `exchange::has_next` meets its contract.
use Rattle.exchange.proofs.Exchanging.{next_there, next_missing}
use Rattle.exchange.proofs.has_next.Goals as goal

pub returns-then-k-steps : goal.returns-then-k-steps
returns-then-k-steps c =
    next_there c.args.steps c.args.k c.if-k-steps.true

pub returns : goal.returns
returns c =
    next_missing c.args.steps c.args.k c.if-k-steps.false
