-- `held::both` meets its contract.
use Rattle.held.proofs.Words.{held_both}
use borrow.Author.Rules.{rules}
use Rattle.held.proofs.both.Goals as goal

pub returns : goal.returns
returns c = held_both _ _ (search rules) (search rules)
