-- `parts::asked` meets its contract.
use Rattle.std.proofs.Common.{rules}
use mathlib.Core.Path.{◌≡◌, ◌∙◌, sym, ap}
use borrow.Author.Tests.{lt-ltb, le-ltb}
use Rattle.refusal.specs.Answer.{need}
use Rattle.std.specs.Prelude.{Ok}
use Rattle.refusal.proofs.Chain.{passed_up}
use Rattle.parts.specs.Asked.{asked_of}
use Rattle.parts.proofs.asked.Goals as goal

pub returns-in_err-n : goal.returns-in_err-n
unfolding asked_of
returns-in_err-n c =
    let same : c.from_residual.result ≡ c.judge.result = search rules in
    same ∙ passed_up _ c.judge.ensures c.in_err-n.was

pub returns-then-wanted-n : goal.returns-then-wanted-n
unfolding asked_of need
returns-then-wanted-n c =
    ap Ok c.offset.ensures ∙ simp (sym c.judge.ensures ∙ c.in_ok-n.was, lt-ltb _ _ c.if-wanted-n.true)

pub returns-else-wanted-n : goal.returns-else-wanted-n
unfolding asked_of need
returns-else-wanted-n c =
    c.refused.ensures ∙ simp (sym c.judge.ensures ∙ c.in_ok-n.was, le-ltb _ _ c.if-wanted-n.false)
