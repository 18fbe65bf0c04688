-- `tally::list_at` meets its contract.
use mathlib.Core.Path.{◌∙◌, sym, ap}
use mathlib.Core.Bool.{Bool}
use Rattle.tally.specs.Having.{list_part}
use Rattle.tally.proofs.list_at.Goals as goal

pub returns-then-post : goal.returns-then-post
returns-then-post c =
    c.post_at.ensures.reads ∙ ap (λ (t : Bool). list_part t c.args.table.now c.args.at) (sym c.if-post.true)

pub returns-else-post : goal.returns-else-post
returns-else-post c =
    c.pre_at.ensures.reads ∙ ap (λ (t : Bool). list_part t c.args.table.now c.args.at) (sym c.if-post.false)
