-- `project::fire_at` meets its contract.
use mathlib.Core.Path.{◌∙◌, ap}
use mathlib.Core.List.{[]}
use Rattle.words.specs.Words.{words}
use Rattle.step.specs.Steps.{set_all}
use Rattle.project.proofs.Walks.{fire_written}
use Rattle.project.proofs.fire_at.Goals as goal

pub returns : goal.returns
returns c =
    c.set_all-2.ensures
    ∙ ap (set_all [] 1 (words c.post_at.result.now)) c.set_all.ensures
    ∙ fire_written c.args.table.now c.args.state.now c.args.at c.requires _ _ _ c.flags-flags.ensures c.pre_at.ensures.reads c.post_at.ensures.reads
