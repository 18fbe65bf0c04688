-- No byte that was seen is above the bits.
use Rattle.game.proofs.Above.{NoneBefore}
use Rattle.game.proofs.together.Given as goal

abbrev pub invariant-loop-byte : goal.invariant-loop-byte
invariant-loop-byte l = NoneBefore l.state l.byte-index l.bits
