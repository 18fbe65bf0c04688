-- `words::ascends` meets its contract.
use mathlib.Core.List.{◌∷◌}
use mathlib.Core.Path.{◌≡◌, ◌∙◌, sym}
use Rattle.words.specs.Numbers.{numbers_left}
use Rattle.words.proofs.Laws.{rises_low, rises_on, rises_end, rises_fits}
use Rattle.words.proofs.ascends.Goals as goal

pub returns-then-w-least : goal.returns-then-w-least
returns-then-w-least c =
    let first : numbers_left c.loop-w.w-iterator ≡ c.from-w.result ∷ numbers_left c.next.new.self = cc c.in-Some.ensures.steps in
    sym (sym (rises_fits _ _) ∙ c.loop-w.invariant ∙ rises_low c.args.n c.loop-w.least _ _ _ first c.if-w-least.true)

pub loop-w-preserved : goal.loop-w-preserved
loop-w-preserved c =
    let first : numbers_left c.loop-w.w-iterator ≡ c.from-w.result ∷ numbers_left c.next.new.self = cc c.in-Some.ensures.steps in
    c.loop-w.invariant ∙ rises_on c.args.n c.loop-w.least _ _ _ first c.if-w-least.false

pub returns : goal.returns
returns c =
    let none = c.in-None.ensures.steps.0 in
    sym (sym (rises_fits _ _) ∙ c.loop-w.invariant ∙ rises_end c.args.n c.loop-w.least _ none)
