-- `records::part_of` meets its contract.
use Rattle.records.proofs.part_of.Goals as goal

pub returns : goal.returns
returns c = c.shown.ensures.reads
