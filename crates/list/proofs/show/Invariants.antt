-- What is needed at a place is there at the next, and fewer pieces are left.
use Rattle.std.proofs.Common.{◌≡◌, length}
use Rattle.lines.specs.Places.{left_at}
use Rattle.lines.specs.Needs.{Ready}
use Rattle.list.proofs.show.Given as goal

abbrev pub invariant-loop-text : goal.invariant-loop-text
invariant-loop-text g l =
    Ready l.table l.events l.offsets l.steps l.lifted l.end l.marking l.place × (length l.marking ≡ length l.initial.marking) × (length l.text ≡ 2048)

abbrev pub decreases-loop-text : goal.decreases-loop-text
decreases-loop-text g l = left_at (length l.steps) l.end l.place
