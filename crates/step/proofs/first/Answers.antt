-- `step::first` meets its contract.
use borrow.Author.Tests.{tests}
use mathlib.Core.Bool.{true, false}
use mathlib.Core.Path.{◌≡◌, sym, ap, ◌∙◌}
use Rattle.std.proofs.Common.{rules}
use Rattle.std.proofs.lemmas.Iterator.{first_from_Range}
use Rattle.held.specs.Held.{held_in}
use Rattle.held.proofs.Words.{held_empty}
use Rattle.step.specs.Steps.{failing_of}
use Rattle.step.proofs.Tests.{lowest_found, lowest_none}
use Rattle.step.proofs.first.Goals as goal

pub returns-then-together-eq0 : goal.returns-then-together-eq0
returns-then-together-eq0 c =
    sym (ap failing_of (lowest_none (held_in c.args.held) 256 (held_empty _ (search rules) (sym c.together.ensures ∙ c.if-together-eq0.true))))

pub returns : goal.returns
returns c =
    let held = held_in c.args.held in
    (search rules) ∙ lowest_found held 256 c.find.result
    (first_from_Range _ c.find.new.self _ c.find.result (λ b. held b ≡ true) (λ b. held b ≡ false) c.find.ensures.ran
    (λ x q k. search (rules, tests)) (λ x q k. search (rules, tests)))
