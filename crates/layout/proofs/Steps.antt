-- The test for an event that touches nothing: that it has no precondition, and then its postconditions.
use Prim.Native.Nat.{ℕ, ◌≤◌, ◌<◌}
use native.Mathlib.Omega.{arith}
use mathlib.Core.Path.{◌≡◌}
use mathlib.Core.List.{List}
use mathlib.Core.Bool.{Bool, false, ◌&&◌}
use lib.Dec.{eqb}
use lib.ListN.{length, get_or}
use Rattle.lists.specs.Lists.{all}
use Rattle.words.specs.Words.{words}
use Rattle.words.proofs.Laws.{words_next, words_end}
use Rattle.colours.specs.Colours.{flagged}
use Rattle.layout.specs.Counts.{idle_at}

-- a postcondition is persistent and has no user
abbrev pub unused : List ℕ → List ℕ → ℕ → Bool
unused s users b = flagged s b && eqb (get_or users b 0) 0

pub some_precondition : (s users pre post : List ℕ) → 1 < length pre → false ≡ idle_at s users (words pre) post
some_precondition s users pre post h = rw (words_next pre 0 (omega arith))

pub no_precondition : (s users pre post : List ℕ) → length pre ≤ 1 → idle_at s users (words pre) post ≡ all (unused s users) post
no_precondition s users pre post h = rw (words_end pre 0 (omega arith))
