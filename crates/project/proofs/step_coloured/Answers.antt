-- `project::step_coloured` meets its contract.
use Rattle.project.proofs.step_coloured.Goals as goal

pub bounds-offsets-e : goal.bounds-offsets-e
bounds-offsets-e c =
    c.requires.below

pub step_event-told-requires : goal.step_event-told-requires
step_event-told-requires c =
    c.requires.trying

pub locate-requires : goal.locate-requires
locate-requires c =
    record {
      locating = c.requires.locating;
      told = record { marking = _; seen = _; told = c.step_event-told.ensures.answer };
    }
