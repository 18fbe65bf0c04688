-- `records::front` meets its contract.
use mathlib.Core.Path.{◌∙◌, sym}
use Rattle.records.proofs.First.{front_ruled, front_plain}
use Rattle.records.proofs.front.Goals as goal

pub returns-then-word-eq6 : goal.returns-then-word-eq6
returns-then-word-eq6 c =
    front_ruled _ (sym c.word.ensures ∙ c.if-word-eq6.true)

pub returns : goal.returns
returns c =
    front_plain _ (λ q. c.if-word-eq6.false (c.word.ensures ∙ q))
