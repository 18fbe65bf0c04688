-- `held::without` meets its contract.
use Rattle.held.proofs.Words.{held_without}
use borrow.Author.Rules.{rules}
use Rattle.held.proofs.without.Goals as goal

pub returns : goal.returns
returns c = held_without _ _ (search rules) (search rules)
