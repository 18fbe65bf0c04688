-- The words for a condition are put, or nothing.
use Prim.Native.Nat.{ℕ}
use mathlib.Core.Option.{some}
use mathlib.Core.Path.{sym, ap, ◌∙◌}
use Rattle.refusal.specs.Answer.{By, condition_of}
use Rattle.listing.specs.Text.{by_words}
use Rattle.spelling.proofs.Texts.{same_text, nothing_put}
use Rattle.listing.proofs.put_by.Goals as goal

pub returns-in-None-clause-named : goal.returns-in-None-clause-named
unfolding by_words
returns-in-None-clause-named c =
    same_text (ap (λ (x : By). by_words (condition_of x)) (sym c.in-None.is)) (nothing_put _ _)

pub returns-in-Some-clause-named : goal.returns-in-Some-clause-named
returns-in-Some-clause-named c =
    let number = ap (λ (k : ℕ). by_words (some k)) c.number.ensures in
    let shown = ap (λ (x : By). by_words (condition_of x)) (sym c.in-Some.is) in
    same_text (number ∙ shown) c.put_condition.ensures.named
