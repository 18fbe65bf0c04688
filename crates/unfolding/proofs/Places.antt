-- Markers by their places among those of a condition, and back.
use Prim.Native.Nat.{ℕ, zero, suc, ◌+◌, ◌-◌, ◌≤◌, ◌<◌}
use native.Mathlib.Omega.{arith}
use native.Mathlib.Nat.{mul-le-mul}
use native.Mathlib.Numerals.{add-one, sub-one}
use mathlib.Core.Path.{◌≡◌, refl}
use mathlib.Core.List.{List, [], ◌∷◌, map}
use mathlib.Core.Bool.{Bool, true, false, cond}
use lib.Dec.{eqb}
use lib.ListN.{length, get_or, length-map}
use Rattle.lists.specs.Lists.{index, keep, count}
use Rattle.model.specs.Net.{Net}
use Rattle.model.specs.Runs.{Marker, at_start, by_event}
use Rattle.model.specs.Unfolding.{same_marker, markers}
use Rattle.model.specs.Numbering.{ways}
use Rattle.model.proofs.Unfolded.{index_events}
use Rattle.refusal.specs.declared.Marker.TheVariants.{ByEvent}
use Rattle.tally.specs.Having.{having}
use Rattle.unfolding.specs.Markers.{shown}
use Rattle.unfolding.specs.Numbers.{code, told}

map_at : (l : List ℕ) (p : ℕ) → p < length l → get_or (map by_event l) p at_start ≡ by_event (get_or l p 0)
map_at [] p h = absurd (omega arith)
map_at (x ∷ l) zero h = refl
map_at (x ∷ l) (suc p) h = map_at l p (omega arith)

pub index_most : {A : Type 0} (t : A → Bool) (l : List A) → index t l ≤ length l
index_most t [] = omega arith
index_most t (x ∷ l) = go (t x) (index_most t l)
  where
    go : (b : Bool) → index t l ≤ length l → cond b 0 (suc (index t l)) ≤ suc (length l)
    go true h = omega arith
    go false h = omega arith

pub kept_below : (t : ℕ → Bool) (i k d : ℕ) → get_or (keep t (count i k)) d 0 ≤ i + k
kept_below t i zero d = omega arith
kept_below t i (suc k) d = go (t i) d (λ d. kept_below t (suc i) k d)
  where
    go : (b : Bool) (d : ℕ) → ((d : ℕ) → get_or (keep t (count (suc i) k)) d 0 ≤ suc i + k) → get_or (cond b (i ∷ keep t (count (suc i) k)) (keep t (count (suc i) k))) d 0 ≤ i + suc k
    go true zero ih = omega arith
    go true (suc d) ih = omega (arith, ih d)
    go false d ih = omega (arith, ih d)

-- ---- a marker as a number

pub code_told : (m : Marker) → told (code m) ≡ m
code_told at_start = refl
code_told (by_event e) = rw add-one

pub told_event : (k : ℕ) → (k ≡ 0 → ⊥) → ByEvent (record { 0 = k - 1 }) ≡ shown (told k)
told_event zero z = absurd (z refl)
told_event (suc k) z = rw sub-one

module _ (n : Net) (b : ℕ) where
  pub code_start : (p : ℕ) → p ≡ 0 → 0 ≡ code (get_or (markers n b) p at_start)
  unfolding markers
  code_start p z = rw z

  pub code_event : (p k : ℕ) → k ≡ n.events → (p ≡ 0 → ⊥) → p < length (markers n b) → get_or (having n true b k) (p - 1) 0 + 1 ≡ code (get_or (markers n b) p at_start)
  unfolding markers
  code_event zero k q z h = absurd (z refl)
  code_event (suc p) k q z h = rw (q, sub-one, map_at (having n true b n.events) p (omega (arith, length-map {B = Marker} (having n true b n.events) by_event)))

  pub place_event : (e k : ℕ) → k ≡ n.events → index (same_marker (by_event e)) (markers n b) ≡ 1 + index (eqb e) (having n true b k)
  unfolding markers
  place_event e k q = rw q (omega (arith, index_events e (having n true b n.events)))

  pub place_start : index (same_marker at_start) (markers n b) ≡ 0
  unfolding markers
  place_start = refl

  pub some_marker : 0 < length (markers n b)
  unfolding markers
  some_marker = omega arith

-- every list of conditions leaves a way
pub some_way : (n : Net) (l : List ℕ) → 0 < ways (map (markers n) l)
some_way n [] = omega arith
some_way n (b ∷ l) = omega (arith, mul-le-mul {n₁ = 1} {m₁ = 1} (some_marker n b) (some_way n l))
