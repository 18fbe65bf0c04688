-- `unfolding::marker_at` meets its contract.
use mathlib.Core.Path.{◌∙◌}
use lib.ListN.{get_or}
use Rattle.model.specs.Runs.{at_start}
use Rattle.model.specs.Unfolding.{markers}
use Rattle.table.specs.Decoded.{net_of}
use Rattle.unfolding.proofs.Places.{code_told}
use Rattle.unfolding.proofs.marker_at.Goals as goal

pub returns : goal.returns
returns c =
    c.marker_of.ensures ∙ rw (c.marker_code.ensures, code_told (get_or (markers (net_of c.args.table.now) c.args.b) c.args.place at_start))
