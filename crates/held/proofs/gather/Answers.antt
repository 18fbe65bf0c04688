-- `held::gather` meets its contract.
use Rattle.held.proofs.Words.{held_gathered}
use Rattle.held.proofs.gather.Goals as goal

pub returns : goal.returns
returns c =
    held_gathered _ _ _ _ _ c.word_from.ensures c.word_from-2.ensures c.word_from-3.ensures c.word_from-4.ensures
