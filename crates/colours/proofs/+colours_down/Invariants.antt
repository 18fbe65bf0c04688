-- What each turn of a loop in `colours::+colours_down` keeps, and what falls.
use Rattle.colours.proofs.+colours_down.Given as goal

abbrev pub decreases-colours_down : goal.decreases-colours_down
decreases-colours_down l = l.left
