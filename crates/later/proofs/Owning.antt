-- An event set as marker along a list: each condition of the list that it alone uses has it, and every other keeps what it had.
use Prim.Native.Nat.{ℕ, ◌<◌}
use native.Mathlib.Omega.{arith}
use native.Mathlib.Decide.{ℕ_discrete}
use mathlib.Core.Path.{◌≡◌, refl, ap, ◌∙◌}
use mathlib.Core.Bool.{Bool, true, false, ◌&&◌, ◌||◌, cond, and-false}
use mathlib.Core.Option.{Option, some}
use mathlib.Core.List.{List, [], ◌∷◌}
use lib.Dec.{eqb}
use lib.ListN.{length, get_or, set, length-set}
use lib.Seq.{get_or-set_same, get_or-set_other}
use borrow.Author.Tests.{eq-eqb, ne_eqb}
use Rattle.lists.specs.Lists.{mem}
use Rattle.model.specs.Runs.{Marker, by_event}
use Rattle.refusal.specs.declared.Marker.TheVariants.{ByEvent}
use Rattle.colours.specs.Colours.{flagged}
use Rattle.std.specs.Prelude.{None, Some}
use Rattle.firsts.specs.Firsts.{Slot, first_of, first_at}
use Rattle.later.specs.Own.{only_at, own_one, own_all}

-- ---- the test

module _ (s us pre : List ℕ) (b : ℕ) where
  pub not_one : (get_or us b 0 ≡ 1 → ⊥) → false ≡ only_at s us pre b
  not_one q = rw (ne_eqb (get_or us b 0) 1 q, and-false (flagged s b))

  pub one_ordinary : get_or us b 0 ≡ 1 → flagged s b ≡ false → false ≡ only_at s us pre b
  one_ordinary q p = rw (q, p)

  pub one_persistent : get_or us b 0 ≡ 1 → flagged s b ≡ true → mem b pre ≡ only_at s us pre b
  one_persistent q p = rw (q, p)

-- ---- one condition

module _ (s us pre : List ℕ) (e : ℕ) where
  abbrev own : Slot
  own = Some (ByEvent (record { 0 = e }))

  module _ (slots : List Slot) (b : ℕ) where
    pub own_set : only_at s us pre b ≡ true → set slots b own ≡ own_one s us pre e slots b
    unfolding own_one
    own_set p = rw p

    pub own_kept : only_at s us pre b ≡ false → slots ≡ own_one s us pre e slots b
    unfolding own_one
    own_kept p = rw p

    one_length : length (own_one s us pre e slots b) ≡ length slots
    unfolding own_one
    one_length = go (only_at s us pre b)
      where
        go : (t : Bool) → length (cond t (set slots b own) slots) ≡ length slots
        go true = length-set slots b own
        go false = refl

    one_here : b < length slots → first_at (own_one s us pre e slots b) b ≡ cond (only_at s us pre b) (some (by_event e)) (first_at slots b)
    unfolding own_one
    one_here h = go (only_at s us pre b)
      where
        go : (t : Bool) → first_at (cond t (set slots b own) slots) b ≡ cond t (some (by_event e)) (first_at slots b)
        go true = ap first_of (get_or-set_same slots b own None h)
        go false = refl

    one_there : (d : ℕ) → (d ≡ b → ⊥) → first_at (own_one s us pre e slots b) d ≡ first_at slots d
    unfolding own_one
    one_there d z = go (only_at s us pre b)
      where
        go : (t : Bool) → first_at (cond t (set slots b own) slots) d ≡ first_at slots d
        go true = ap first_of (get_or-set_other slots b d own None z)
        go false = refl

  -- ---- a list

  pub own_length : (slots : List Slot) (l : List ℕ) → length (own_all s us pre e slots l) ≡ length slots
  unfolding own_all
  own_length slots [] = refl
  own_length slots (b ∷ l) = own_length (own_one s us pre e slots b) l ∙ one_length slots b

  -- set twice is set once
  twice : (t m : Bool) (x y : Option Marker) → cond (t && m) x (cond t x y) ≡ cond (t && true) x y
  twice true true x y = refl
  twice true false x y = refl
  twice false m x y = refl

  pub own_first : (slots : List Slot) (l : List ℕ) (d : ℕ) → d < length slots
      → first_at (own_all s us pre e slots l) d ≡ cond (only_at s us pre d && mem d l) (some (by_event e)) (first_at slots d)
  unfolding own_all
  own_first slots [] d h = rw (and-false (only_at s us pre d))
  own_first slots (b ∷ l) d h = own_first (own_one s us pre e slots b) l d (omega (arith, one_length slots b)) ∙ go (ℕ_discrete d b)
    where
      go : Dec (d ≡ b) → cond (only_at s us pre d && mem d l) (some (by_event e)) (first_at (own_one s us pre e slots b) d)
          ≡ cond (only_at s us pre d && (eqb d b || mem d l)) (some (by_event e)) (first_at slots d)
      go (no z) = rw (ne_eqb d b z, one_there slots b d z)
      go (yes z) =
          rw (z, eq-eqb b b refl)
          (ap (λ (x : Option Marker). cond (only_at s us pre b && mem b l) (some (by_event e)) x) (one_here slots b (omega (arith, z)))
          ∙ twice (only_at s us pre b) (mem b l) (some (by_event e)) (first_at slots b))

  -- ---- one number at a time

  pub own_next : (b : ℕ) (rest left : List ℕ) → left ≡ b ∷ rest → (slots : List Slot) {next : List Slot} → next ≡ own_one s us pre e slots b
      → own_all s us pre e next rest ≡ own_all s us pre e slots left
  unfolding own_all
  own_next b rest left first slots q = rw (first, q)

  pub own_end : (left : List ℕ) → left ≡ [] → (slots : List Slot) → own_all s us pre e slots left ≡ slots
  unfolding own_all
  own_end left q slots = rw q
