-- `walking::holds` meets its contract.
use Rattle.model.specs.Lent.{marking}
use Rattle.walking.proofs.holds.Goals as goal

pub returns : goal.returns
unfolding marking
returns c =
    rw c.byte.ensures
