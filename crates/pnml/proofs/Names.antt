-- The ids of places and transitions: which of its two forms a place has, and how long they are.
use Prim.Native.Nat.{ℕ, ◌-◌, ◌≤◌, ◌<◌}
use native.Mathlib.Decide.{dec_le}
use native.Mathlib.Omega.{arith}
use mathlib.Core.Path.{◌≡◌}
use mathlib.Core.Bool.{Bool, true, false}
use mathlib.Core.List.{◌∷◌}
use borrow.Author.Tests.{lt-ltb, le-ltb}
use lib.ListN.{length}
use Rattle.spelling.specs.Decimal.{decimal}
use Rattle.spelling.proofs.Decimal.{twenty}
use Rattle.pnml.specs.declared.Link.{Link}
use Rattle.pnml.specs.declared.Link.TheVariants.{Into, OutOf}
use Rattle.pnml.specs.Text.{place_name, transition_name, place_ends, source_name, target_name}
use Rattle.pnml.specs.Needs.{Word, Joins}

module _ (c x : ℕ) where
  pub first_named : x < c → 112 ∷ decimal x ≡ place_name c x
  first_named h = rw (lt-ltb x c h)

  pub second_named : c ≤ x → 113 ∷ decimal (x - c) ≡ place_name c x
  second_named h = rw (le-ltb x c h)

  pub place_short : Word x → length (place_name c x) ≤ 21
  place_short small = go (dec_le c x)
    where
      go : Dec (c ≤ x) → length (place_name c x) ≤ 21
      go (yes h) = rw (← second_named h) (omega (arith, twenty (x - c) (omega arith)))
      go (no h) = rw (← first_named (omega arith)) (omega (arith, twenty x (omega arith)))

pub transition_short : (t : ℕ) → Word t → length (transition_name t) ≤ 21
transition_short t small = omega (arith, twenty t (omega arith))

pub source_short : (c : ℕ) (l : Link) → Joins l → length (source_name c l) ≤ 21
source_short c (Into x t) small = place_short c x small.0
source_short c (OutOf t x) small = transition_short t small.0

pub target_short : (c : ℕ) (l : Link) → Joins l → length (target_name c l) ≤ 21
target_short c (Into x t) small = transition_short t small.1
target_short c (OutOf t x) small = place_short c x small.1

pub end_short : (held : Bool) → length (place_ends held) ≤ 57
end_short true = omega arith
end_short false = omega arith
