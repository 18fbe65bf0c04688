-- A number of two bytes is stored low byte first.
use native.Mathlib.Numerals.{add-one}
use native.Mathlib.Omega.{arith}
use lib.ListN.{length-set}
use Rattle.words.specs.Words.{bytes_of}
use Rattle.writing.proofs.put_word.Goals as goal

pub bounds-bytes-at-2 : goal.bounds-bytes-at-2
bounds-bytes-at-2 c = simp length-set (omega arith)

pub returns : goal.returns
unfolding bytes_of
returns c = rw add-one
