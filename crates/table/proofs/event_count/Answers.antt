-- `table::event_count` meets its contract.
use mathlib.Core.Path.{◌∙◌}
use Rattle.table.proofs.Decoded.{events_counted}
use Rattle.table.proofs.event_count.Goals as goal

pub returns : goal.returns
returns c =
    c.judge.ensures ∙ events_counted c.args.table.now
