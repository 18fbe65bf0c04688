-- Conditions marked along a list: each persistent one gets the marker unless it has one.
use Prim.Native.Nat.{ℕ, ◌<◌}
use native.Mathlib.Omega.{arith}
use native.Mathlib.Decide.{ℕ_discrete}
use mathlib.Core.Path.{◌≡◌, refl, ap, ◌∙◌}
use mathlib.Core.Bool.{Bool, true, false, ◌||◌, cond}
use mathlib.Core.Option.{Option, none, some}
use mathlib.Core.List.{List, [], ◌∷◌}
use lib.Dec.{eqb}
use lib.ListN.{length, set, length-set}
use lib.Seq.{get_or-set_same, get_or-set_other}
use borrow.Author.Tests.{eq-eqb, ne_eqb}
use Rattle.lists.specs.Lists.{mem}
use Rattle.model.specs.Runs as model
use Rattle.model.specs.Runs.{marker, or_else}
use Rattle.refusal.specs.declared.Marker.{Marker}
use Rattle.colours.specs.Colours.{flagged}
use Rattle.unfolding.specs.Markers.{meant}
use Rattle.std.specs.Prelude.{None, Some}
use Rattle.std.specs.Option.{option_or}
use Rattle.firsts.specs.Firsts.{Slot, first_of, slot_at, first_at, mark_one, mark_all}

-- ---- one condition

module _ (s : List ℕ) (slots : List Slot) (m : Marker) (b : ℕ) where
  pub mark_length : length (mark_one s slots m b) ≡ length slots
  unfolding mark_one
  mark_length = go (flagged s b)
    where
      go : (t : Bool) → length (cond t (set slots b (option_or (slot_at slots b) (Some m))) slots) ≡ length slots
      go true = length-set slots b (option_or (slot_at slots b) (Some m))
      go false = refl

  first_kept : (f : Slot) → first_of (option_or f (Some m)) ≡ or_else (first_of f) (some (meant m))
  first_kept None = refl
  first_kept (Some k) = refl

  mark_here : b < length slots → first_at (mark_one s slots m b) b ≡ or_else (first_at slots b) (cond (flagged s b) (some (meant m)) none)
  unfolding mark_one
  mark_here h = go (flagged s b)
    where
      same : (o : Option model.Marker) → o ≡ or_else o none
      same none = refl
      same (some x) = refl

      go : (t : Bool) → first_at (cond t (set slots b (option_or (slot_at slots b) (Some m))) slots) b
          ≡ or_else (first_at slots b) (cond t (some (meant m)) none)
      go true =
          ap first_of (get_or-set_same slots b (option_or (slot_at slots b) (Some m)) None h)
          ∙ first_kept (slot_at slots b)
      go false = same (first_at slots b)

  mark_there : (d : ℕ) → (d ≡ b → ⊥) → first_at (mark_one s slots m b) d ≡ first_at slots d
  unfolding mark_one
  mark_there d z = go (flagged s b)
    where
      go : (t : Bool) → first_at (cond t (set slots b (option_or (slot_at slots b) (Some m))) slots) d ≡ first_at slots d
      go true = ap first_of (get_or-set_other slots b d (option_or (slot_at slots b) (Some m)) None z)
      go false = refl

-- ---- a list

pub all_length : (s : List ℕ) (slots : List Slot) (m : Marker) (l : List ℕ) → length (mark_all s slots m l) ≡ length slots
unfolding mark_all
all_length s slots m [] = refl
all_length s slots m (b ∷ l) = all_length s (mark_one s slots m b) m l ∙ mark_length s slots m b

both_mark : (o : Option model.Marker) (p t : Bool) (m : model.Marker) → or_else (or_else o (cond p (some m) none)) (marker p t m) ≡ or_else o (marker p true m)
both_mark none true t m = refl
both_mark none false t m = refl
both_mark (some k) p t m = refl

-- after it a condition has the marker it had, else the new one where it is a persistent one of the list
pub all_first : (s : List ℕ) (slots : List Slot) (m : Marker) (l : List ℕ) (d : ℕ) → d < length slots
    → first_at (mark_all s slots m l) d ≡ or_else (first_at slots d) (marker (flagged s d) (mem d l) (meant m))
unfolding mark_all
all_first s slots m [] d h = go (first_at slots d) (flagged s d)
  where
    go : (o : Option model.Marker) (p : Bool) → o ≡ or_else o (marker p false (meant m))
    go none true = refl
    go none false = refl
    go (some k) p = refl
all_first s slots m (b ∷ l) d h = all_first s (mark_one s slots m b) m l d (omega (arith, mark_length s slots m b)) ∙ go (ℕ_discrete d b)
  where
    go : Dec (d ≡ b) → or_else (first_at (mark_one s slots m b) d) (marker (flagged s d) (mem d l) (meant m)) ≡ or_else (first_at slots d) (marker (flagged s d) (eqb d b || mem d l) (meant m))
    go (no z) = rw (ne_eqb d b z, mark_there s slots m b d z)
    go (yes z) = rw (z, eq-eqb b b refl) (ap (λ (o : Option model.Marker). or_else o (marker (flagged s b) (mem b l) (meant m))) (mark_here s slots m b (omega (arith, z))) ∙ both_mark (first_at slots b) (flagged s b) (mem b l) (meant m))

-- ---- two bytes at a time

-- what is left of a list, of which w is the first number
pub marked_first : (s : List ℕ) (w : ℕ) (rest left : List ℕ) → left ≡ w ∷ rest → (slots : List Slot) (m : Marker) {next : List Slot} → next ≡ mark_one s slots m w
    → mark_all s next m rest ≡ mark_all s slots m left
unfolding mark_all
marked_first s w rest left first slots m q = rw (first, q)

pub marked_none : (s left : List ℕ) → left ≡ [] → (slots : List Slot) (m : Marker) → mark_all s slots m left ≡ slots
unfolding mark_all
marked_none s left q slots m = rw q
