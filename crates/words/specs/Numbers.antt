-- What the iterator over the numbers in a slice of bytes still gives.
use Rattle.std.specs.Prelude.{ℕ, List}
use Rattle.words.specs.declared.iter.Numbers.{Numbers}
use Rattle.words.specs.Words.{words}

-- The numbers of the bytes that are left, in their order.
abbrev pub numbers_left : Numbers → List ℕ
numbers_left s = words s.bytes.now
