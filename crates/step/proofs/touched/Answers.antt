-- `step::touched` meets its contract.
use mathlib.Core.Path.{◌∙◌, ap}
use mathlib.Core.Bool.{not, ◌&&◌}
use Prim.Native.Nat.{ℕ}
use Rattle.model.specs.Net.{Marking}
use Rattle.held.specs.Held.{held_in}
use Rattle.step.proofs.Tests.{touched_old, touched_new}
use Rattle.step.proofs.touched.Goals as goal

pub returns-then-old : goal.returns-then-old
returns-then-old c =
    c.both-both.ensures ∙ touched_old (held_in c.args.pre) (λ b. held_in c.args.post b && held_in c.args.held b) _ c.if-old.true

pub returns : goal.returns
returns c =
    touched_new (held_in c.args.pre) (λ b. held_in c.args.post b && held_in c.args.held b) _ _ (c.without.ensures ∙ ap {B = Marking} (λ (v : Marking) (b : ℕ). v b && not (held_in c.args.pre b)) c.both-both.ensures) c.if-old.false
