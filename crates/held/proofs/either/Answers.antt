-- `held::either` meets its contract.
use Rattle.held.proofs.Words.{held_either}
use borrow.Author.Rules.{rules}
use Rattle.held.proofs.either.Goals as goal

pub returns : goal.returns
returns c = held_either _ _ (search rules) (search rules)
