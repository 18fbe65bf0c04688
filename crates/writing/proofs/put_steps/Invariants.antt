-- Storing what is left of the steps is what storing all of them is.
use Prim.Native.Nat.{◌+◌, ◌*◌}
use mathlib.Core.Path.{◌≡◌}
use lib.ListN.{length, drop}
use lib.Seq.{sets}
use Rattle.words.specs.Words.{bytes_of}
use Rattle.writing.proofs.put_steps.Given as goal

abbrev pub invariant-loop-k : goal.invariant-loop-k
invariant-loop-k l = (length l.bytes ≡ length l.initial.bytes)
    × (sets l.bytes (4 + 2 * l.k) (bytes_of (drop l.k l.run)) ≡ sets l.initial.bytes 4 (bytes_of l.run))
