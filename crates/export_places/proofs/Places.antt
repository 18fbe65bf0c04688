-- The place of a number, and the place after a place.
use Prim.Native.Nat.{ℕ, suc, ◌+◌, ◌*◌, ◌-◌, ◌≤◌, ◌<◌}
use mathlib.Core.Path.{◌≡◌, refl, sym, ◌∙◌, ap, subst}
use mathlib.Core.Bool.{true, false}
use mathlib.Core.List.{List}
use native.Mathlib.Decide.{dec_le}
use native.Mathlib.Omega.{arith}
use Rattle.model.specs.Net.{Net}
use Rattle.model.specs.Unfolding.{basic}
use Rattle.doubled.specs.Doubling.{doubled}
use Rattle.table.specs.Decoded.{net_of}
use Rattle.unfolding.proofs.Numbered.{events_basic}
use Rattle.arcs.specs.Arcs.{exported}
use Rattle.arcs.proofs.Exported.{conditions_basic}
use Rattle.spots.specs.declared.Spot.{Spot}
use Rattle.std.specs.Prelude.{Option, None, Some}
use Rattle.spots.specs.Spots.{arc_count, Spotted, Reads}
use Rattle.export_places.specs.declared.Place as declared
use Rattle.export_places.specs.declared.Place.TheVariants.{Opens, Place, Transition, Arc, Closes, Over}
use Rattle.export_places.specs.Places.{index_at, goes_on, Stands, place_of}
use Rattle.export_places.specs.Needs.{Numbered, Finds, Follows}

pub places_are : (n : Net) → (exported n).places ≡ (basic n).conditions + (basic n).conditions
unfolding exported doubled
places_are n = refl

pub transitions_are : (n : Net) → (exported n).transitions ≡ (basic n).events
unfolding exported doubled
transitions_are n = refl

pub numbered_few : {s : List ℕ} {events c m : ℕ} {ms us bs : List ℕ} → Numbered s events c m ms us bs → (c ≤ 65535) × (m ≤ 65535)
numbered_few {s} h =
    (omega (arith, h.doubles, conditions_basic (net_of s), h.table.laid.few_conditions), omega (arith, h.moves, events_basic (net_of s), h.table.laid.few_events))

-- a number follows that of a place before the last
abbrev pub NextIs : Net → declared.Place → ℕ → Type 0
NextIs n place i = (i ≡ suc (index_at n place)) × (i < index_at n Over)

pub after_opens : (s : List ℕ) (place : declared.Place) (i : ℕ) → place ≡ Opens → i ≡ 1 → NextIs (net_of s) place i
after_opens s place i e q = (q ∙ sym (ap (λ (p : declared.Place). suc (index_at (net_of s) p)) e), omega arith)

module _ (s ms us bs marks uses starts sizes : List ℕ) {events c m : ℕ} (h : Numbered s events c m ms us bs) where
  pub after_place : (place : declared.Place) (i x : ℕ) → place ≡ Place x → i ≡ x + 2 → Stands s ms us bs marks uses starts sizes place → (x < c + c) × NextIs (net_of s) place i
  after_place place i x e q w =
      let l : x < (exported (net_of s)).places = subst (λ (p : declared.Place). Stands s ms us bs marks uses starts sizes p) e w in
      let z : i ≡ suc (index_at (net_of s) (Place x)) = omega arith in
      (omega (arith, places_are (net_of s), h.doubles), (z ∙ sym (ap (λ (p : declared.Place). suc (index_at (net_of s) p)) e), omega arith))

  pub after_transition : (place : declared.Place) (i t : ℕ) → place ≡ Transition t → i ≡ 2 * c + t + 2 → Stands s ms us bs marks uses starts sizes place → (t < m) × NextIs (net_of s) place i
  after_transition place i t e q w =
      let l : t < (exported (net_of s)).transitions = subst (λ (p : declared.Place). Stands s ms us bs marks uses starts sizes p) e w in
      let z : i ≡ suc (index_at (net_of s) (Transition t)) = omega (arith, places_are (net_of s), h.doubles) in
      (omega (arith, transitions_are (net_of s), h.moves), (z ∙ sym (ap (λ (p : declared.Place). suc (index_at (net_of s) p)) e), omega arith))

module _ {s ms us bs marks uses starts sizes : List ℕ} where
  -- ---- by number

  pub finds_opens : (i : ℕ) → i ≡ 0 → Finds s ms us bs marks uses starts sizes i Opens
  finds_opens i e = record { stands = tt; here = λ _. sym e; past = λ h. absurd (omega arith) }

  pub finds_place : (c i x : ℕ) → c ≡ (basic (net_of s)).conditions → i ≡ x + 1 → x < 2 * c → Finds s ms us bs marks uses starts sizes i (Place x)
  finds_place c i x q e h =
      let p = places_are (net_of s) in
      record { stands = omega arith; here = λ _. omega arith; past = λ l. absurd (omega arith) }

  pub finds_transition : (c m i t : ℕ) → c ≡ (basic (net_of s)).conditions → m ≡ (basic (net_of s)).events → i ≡ 2 * c + t + 1 → t < m → Finds s ms us bs marks uses starts sizes i (Transition t)
  finds_transition c m i t q z e h =
      let p = places_are (net_of s) in
      let r = transitions_are (net_of s) in
      record { stands = omega arith; here = λ _. omega arith; past = λ l. absurd (omega arith) }

  pub finds_later : (c m i w : ℕ) → c ≡ (basic (net_of s)).conditions → m ≡ (basic (net_of s)).events → i ≡ 2 * c + (m + w) + 1 → (p : declared.Place)
      → Finds s ms us bs marks uses starts sizes (1 + ((exported (net_of s)).places + ((exported (net_of s)).transitions + w))) p → Finds s ms us bs marks uses starts sizes i p
  finds_later c m i w q z e p f =
      let k : 1 + ((exported (net_of s)).places + ((exported (net_of s)).transitions + w)) ≡ i = omega (arith, places_are (net_of s), transitions_are (net_of s)) in
      subst (λ (j : ℕ). Finds s ms us bs marks uses starts sizes j p) k f

  pub finds_arc : (w : ℕ) (p : Spot) → Spotted s ms us bs marks uses starts sizes p → p.number ≡ w → p.number < arc_count (net_of s)
      → Finds s ms us bs marks uses starts sizes (1 + ((exported (net_of s)).places + ((exported (net_of s)).transitions + w))) (Arc p)
  finds_arc w p h e l = record { stands = h; here = λ _. omega arith; past = λ k. absurd (omega arith) }

  pub finds_closes : (w : ℕ) → w ≡ arc_count (net_of s) → Finds s ms us bs marks uses starts sizes (1 + ((exported (net_of s)).places + ((exported (net_of s)).transitions + w))) Closes
  finds_closes w e = record { stands = tt; here = λ _. omega arith; past = λ k. absurd (omega arith) }

  pub finds_over : (w : ℕ) → arc_count (net_of s) < w → Finds s ms us bs marks uses starts sizes (1 + ((exported (net_of s)).places + ((exported (net_of s)).transitions + w))) Over
  finds_over w h = record { stands = tt; here = λ k. absurd (omega arith); past = λ _. refl }

  -- ---- the next one

  pub follows_found : (i : ℕ) (place r : declared.Place) → NextIs (net_of s) place i → Finds s ms us bs marks uses starts sizes i r → Follows s ms us bs marks uses starts sizes place r
  follows_found i place r h f = record { stands = f.stands; after = λ _. f.here h.1 ∙ h.0 }

  pub follows_spot : (p : Spot) (x : Option Spot) → Reads s ms us bs marks uses starts sizes (p.number + 1) x → (place : declared.Place) → place ≡ Arc p → (r : declared.Place) → r ≡ place_of x
      → Follows s ms us bs marks uses starts sizes place r
  follows_spot p x h place e r z =
      subst (λ (y : declared.Place). Follows s ms us bs marks uses starts sizes place y) (sym z)
      (subst (λ (y : declared.Place). Follows s ms us bs marks uses starts sizes y (place_of x)) (sym e) (go x h))
    where
      go : (x : Option Spot) → Reads s ms us bs marks uses starts sizes (p.number + 1) x → Follows s ms us bs marks uses starts sizes (Arc p) (place_of x)
      go (Some q) h = record { stands = h.0; after = λ _. omega (arith, h.1) }
      go None h = record { stands = tt; after = λ _. omega (arith, h) }

  pub follows_closes : (place : declared.Place) → place ≡ Closes → Follows s ms us bs marks uses starts sizes place Over
  follows_closes place e =
      subst (λ (y : declared.Place). Follows s ms us bs marks uses starts sizes y Over) (sym e) (record { stands = tt; after = λ _. omega arith })

  pub follows_over : (place : declared.Place) → place ≡ Over → Follows s ms us bs marks uses starts sizes place Over
  follows_over place e =
      subst (λ (y : declared.Place). Follows s ms us bs marks uses starts sizes y Over) (sym e) (record { stands = tt; after = λ h. absurd (let z : ◌≡◌ {A = ℕ} 0 1 = cc in omega arith) })

  -- ---- whether there is an element

  pub found_there : (i : ℕ) (p : declared.Place) → Finds s ms us bs marks uses starts sizes i p → goes_on p ≡ true → (i < index_at (net_of s) Over) × (index_at (net_of s) p ≡ i)
  found_there i p f g = go (dec_le (index_at (net_of s) Over) i)
    where
      go : Dec (index_at (net_of s) Over ≤ i) → (i < index_at (net_of s) Over) × (index_at (net_of s) p ≡ i)
      go (yes h) = absurd (let e : false ≡ true = sym (ap goes_on (f.past h)) ∙ g in let z : ◌≡◌ {A = ℕ} 0 1 = cc in omega arith)
      go (no h) = let l : i < index_at (net_of s) Over = omega arith in (l, f.here l)

  pub found_past : (i : ℕ) (p : declared.Place) → Finds s ms us bs marks uses starts sizes i p → goes_on p ≡ false → index_at (net_of s) Over ≤ i
  found_past i p f g = go p g (dec_le (index_at (net_of s) Over) i) f.here
    where
      not_there : {A : Type 0} → true ≡ false → A
      not_there e = absurd (let z : ◌≡◌ {A = ℕ} 0 1 = cc in omega arith)

      go : (p : declared.Place) → goes_on p ≡ false → Dec (index_at (net_of s) Over ≤ i) → (i < index_at (net_of s) Over → index_at (net_of s) p ≡ i) → index_at (net_of s) Over ≤ i
      go Opens g d h = not_there g
      go (Place x) g d h = not_there g
      go (Transition t) g d h = not_there g
      go (Arc q) g d h = not_there g
      go Closes g d h = not_there g
      go Over g (yes l) h = l
      go Over g (no l) h = absurd (let k : i < index_at (net_of s) Over = omega arith in omega (arith, h k))
