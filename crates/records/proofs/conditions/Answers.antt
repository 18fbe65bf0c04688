-- `records::conditions` meets its contract.
use mathlib.Core.Path.{◌∙◌, ap}
use Rattle.words.specs.Words.{word_at}
use Rattle.records.proofs.conditions.Goals as goal

pub returns : goal.returns
returns c =
    c.word.ensures ∙ ap (word_at c.args.s.now) c.front.ensures
