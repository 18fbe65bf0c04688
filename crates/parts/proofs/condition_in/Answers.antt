-- `parts::condition_in` meets its contract.
use mathlib.Core.Path.{◌∙◌, sym}
use native.Mathlib.Omega.{arith}
use Rattle.words.proofs.Laws.{words_at, words_past}
use Rattle.parts.proofs.condition_in.Goals as goal

pub returns-then-k-part : goal.returns-then-k-part
returns-then-k-part c =
    c.word.ensures ∙ sym (words_at c.args.part.now c.args.k (omega arith))

pub returns-else-k-part : goal.returns-else-k-part
returns-else-k-part c =
    sym (words_past c.args.part.now c.args.k (omega arith))
