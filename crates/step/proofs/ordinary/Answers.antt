-- `step::ordinary` meets its contract.
use mathlib.Core.Path.{◌∙◌, refl, sym, ap}
use mathlib.Core.Bool.{not, ◌&&◌}
use Prim.Native.Nat.{ℕ}
use Rattle.model.specs.Net.{Marking}
use Rattle.held.specs.Held.{held_in}
use Rattle.held.proofs.Words.{held_empty}
use Rattle.step.specs.Tests.{lowest}
use Rattle.step.specs.Steps.{failing_of}
use Rattle.step.proofs.Tests.{lowest_none}
use borrow.Author.Rules.{rules}
use Rattle.step.proofs.ordinary.Goals as goal

pub returns-then-together-eq0 : goal.returns-then-together-eq0
returns-then-together-eq0 c =
    sym (ap failing_of (lowest_none _ 256 (λ b. rw (held_empty c.args.held (search rules) (sym c.together.ensures ∙ c.if-together-eq0.true) b) refl)))

pub returns : goal.returns
returns c =
    c.first.ensures ∙ ap (λ (v : Marking). failing_of (lowest 256 v)) (c.without.ensures ∙ ap {B = Marking} (λ (v : Marking) (b : ℕ). held_in c.args.held b && not (v b)) c.kept.ensures)
