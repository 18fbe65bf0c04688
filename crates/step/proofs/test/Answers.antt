-- `step::test` meets its contract.
use mathlib.Core.Path.{◌∙◌, refl, ap}
use Rattle.model.specs.Net.{Marking, stopping}
use Rattle.held.proofs.Words.{tabled_marking}
use Rattle.step.specs.Steps.{lists_net}
use Rattle.stopping.specs.Table.{step_of}
use Rattle.step.proofs.Tests.{tested}
use Rattle.step.proofs.test.Goals as goal

pub returns : goal.returns
returns c =
    tested _ _ _ c.requires.0 _ _ _ _ c.collect-takes.ensures c.collect-puts.ensures c.old_rule.ensures _ c.touched-touched.ensures _ _ _ c.told.ensures _ c.without.ensures c.first.ensures _ refl c.ordinary.ensures
    ∙ ap (λ (m : Marking). step_of (stopping (lists_net c.args.table.now c.args.pre.now c.args.post.now) m 0)) (c.gather-held.ensures ∙ tabled_marking c.args.state.now c.requires.1)
