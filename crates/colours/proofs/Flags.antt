-- A condition's byte, read where it stands in the table.
use Prim.Native.Nat.{ℕ, ◌+◌, ◌≤◌, ◌<◌}
use native.Mathlib.Omega.{arith}
use mathlib.Core.Path.{◌≡◌}
use mathlib.Core.List.{List}
use mathlib.Core.Bool.{false}
use lib.Dec.{eqb}
use lib.ListN.{get_or, take, drop, length-take, get_or-eq_default}
use lib.Seq.{get_or-take, get_or-drop}
use Rattle.words.specs.Words.{word_at}
use Rattle.records.specs.Records.{front, conditions}
use Rattle.colours.specs.Colours.{flagged}

module _ (s : List ℕ) (b at n : ℕ) (f : at ≡ front s) (e : n ≡ word_at s at) where
  count_is : n ≡ conditions s
  count_is = rw f at e

  pub flag_here : b < n → eqb (get_or s (at + 4 + b) 0) 1 ≡ flagged s b
  flag_here h =
      let l : b < conditions s = omega (arith, count_is) in
      rw (f, get_or-take (conditions s) (drop (front s + 4) s) b 0 l, get_or-drop (front s + 4) s b 0)

  pub flag_past : n ≤ b → false ≡ flagged s b
  flag_past h =
      let l : conditions s ≤ b = omega (arith, count_is) in
      rw (get_or-eq_default (take (conditions s) (drop (front s + 4) s)) 0 {n = b} (simp length-take (omega arith)))
