-- What each turn of a loop in `decided::+choose_down` keeps, and what falls.
use Rattle.decided.proofs.+choose_down.Given as goal

abbrev pub decreases-choose_down : goal.decreases-choose_down
decreases-choose_down l = l.left
