-- A part of few numbers needs no counting.
use Prim.Native.Nat.{ℕ, ◌*◌, ◌≤◌}
use native.Mathlib.Omega.{arith}
use mathlib.Core.Path.{◌≡◌}
use mathlib.Core.List.{List}
use lib.ListN.{length, length-take}
use lib.Dec.{leb}
use mathlib.Core.Bool.{true}
use borrow.Author.Tests.{le-leb}
use Rattle.words.specs.Words.{words, count_in}
use Rattle.words.proofs.Laws.{count_in_few}
use Rattle.records.specs.Records.{part}

pub few_in : (flags s : List ℕ) (a k : ℕ) → k ≤ 16 → leb (count_in flags (words (part s a (2 * k)))) 16 ≡ true
few_in flags s a k h =
    let two = count_in_few flags (part s a (2 * k)) in
    let short : length (part s a (2 * k)) ≤ 2 * k = rw length-take (omega arith) in
    le-leb (count_in flags (words (part s a (2 * k)))) 16 (omega arith)
