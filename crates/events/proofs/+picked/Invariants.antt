-- What each turn of a loop in `events::+picked` keeps, and what falls.
use Rattle.events.proofs.+picked.Given as goal

abbrev pub decreases-picked : goal.decreases-picked
decreases-picked l = l.left
