-- Where a run that is begun at a marking starts.
use Rattle.std.specs.Prelude.{false}
use Rattle.model.specs.Net.{Net, Marking}
use Rattle.model.specs.Runs.{at_start, State, marker}

-- The state before the first step of a run begun at a marking: what holds is marked by the start, and no event has occurred (01,
-- Runs across).
unfoldable pub begun_at : Net → Marking → State
begun_at n m = record { marking = m; first = λ b. marker (n.persistent b) (m b) at_start; seen = λ e. false }
