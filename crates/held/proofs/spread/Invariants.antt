-- The bytes before b are those of the marking.
use Rattle.model.specs.Lent.{bytes}
use Rattle.held.specs.Held.{held_in}
use Rattle.held.proofs.Copying.{Copied}
use Rattle.held.proofs.spread.Given as goal

abbrev pub invariant-loop-b : goal.invariant-loop-b
invariant-loop-b l = Copied (bytes l.count (held_in l.held)) l.count l.initial.byte-items l.byte-items l.b
