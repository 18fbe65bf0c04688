-- `segments::keep_segment` meets its contract.
use Rattle.segments.proofs.Ranged.{ranged_two}
use Rattle.segments.proofs.keep_segment.Goals as goal

pub returns : goal.returns
returns c =
    ranged_two _ _ _ _ c.requires.0 c.requires.1
