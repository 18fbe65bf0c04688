-- Written from place to place, the elements together are the export.
use Prim.Native.Nat.{ℕ, zero, suc, ◌+◌, ◌-◌, ◌≤◌, ◌<◌}
use mathlib.Core.Path.{◌≡◌, refl, sym, ◌∙◌, ap}
use mathlib.Core.Bool.{Bool, true, false}
use mathlib.Core.List.{List, [], ◌++◌}
use lib.Dec.{ltb}
use lib.ListN.{length, get_or, drop, drop_of_length-le}
use lib.Seq.{drop-cons}
use native.Mathlib.Omega.{arith}
use borrow.Author.Tests.{lt-ltb, le-ltb}
use Rattle.lists.specs.Lists.{count, spread}
use Rattle.model.specs.Unfolding.{basic}
use Rattle.table.specs.Decoded.{net_of}
use Rattle.pnml.specs.declared.Element.{Element}
use Rattle.pnml.specs.declared.Element.TheVariants as element
use Rattle.pnml.specs.Text.{text_of}
use Rattle.spots.proofs.Spots.{spot_low}
use Rattle.export_places.specs.declared.Place as declared
use Rattle.export_places.specs.declared.Place.TheVariants.{Opens, Place, Transition, Arc, Closes, Over}
use Rattle.export_places.specs.Places.{index_at, goes_on, Stands}
use Rattle.export_places.specs.Needs.{Follows}
use Rattle.elements.specs.Calls.{elements_of, element_text}
use Rattle.elements.specs.Whole.{export_of, text_from, rest_at}
use Rattle.elements.proofs.Reading.{elements_all}

-- ---- the texts by number

-- the texts of the last members of a list, by their numbers
spread_from : (f : Element → List ℕ) (l : List Element) (k i : ℕ) → k ≡ length l - i → spread (λ j. f (get_or l j element.Opens)) (count i k) ≡ spread f (drop i l)
spread_from f l zero i e = let past : length l ≤ i = omega arith in rw (drop_of_length-le l past)
spread_from f l (suc k) i e =
    let below : i < length l = omega arith in
    ap (λ (t : List ℕ). f (get_or l i element.Opens) ++ t) (spread_from f l k (suc i) (omega arith)) ∙ sym (ap (spread f) (drop-cons l i element.Opens below))

module _ (s : List ℕ) where
  -- From number 0 on it is the whole export.
  pub text_whole : text_from s 0 ≡ export_of s
  unfolding text_from export_of element_text
  text_whole = spread_from (text_of (basic (net_of s)).conditions) (elements_of s) (length (elements_of s) - 0) 0 refl

  pub text_on : (i : ℕ) → i < length (elements_of s) → text_from s i ≡ element_text s i ++ text_from s (suc i)
  unfolding text_from
  text_on i h = let z : length (elements_of s) - i ≡ suc (length (elements_of s) - suc i) = omega arith in rw z

  pub text_over : (i : ℕ) → length (elements_of s) ≤ i → text_from s i ≡ []
  unfolding text_from
  text_over i h = let z : length (elements_of s) - i ≡ 0 = omega arith in rw z

-- ---- from place to place

module _ (s ms us bs marks uses starts sizes : List ℕ) where
  below_all : (p : declared.Place) → Stands s ms us bs marks uses starts sizes p → goes_on p ≡ true → index_at (net_of s) p < index_at (net_of s) Over
  below_all Opens w g = omega arith
  below_all (Place x) w g = omega (arith, w)
  below_all (Transition t) w g = omega (arith, w)
  below_all (Arc p) w g = omega (arith, spot_low w)
  below_all Closes w g = omega arith
  below_all Over w g = absurd (let z : ◌≡◌ {A = ℕ} 0 1 = cc in omega arith)

  -- An export goes on from a place exactly where the place's number is that of an element.
  pub goes_exactly : (p : declared.Place) → Stands s ms us bs marks uses starts sizes p → goes_on p ≡ ltb (index_at (net_of s) p) (length (elements_of s))
  goes_exactly p w = go (goes_on p) refl p refl
    where
      go : (b : Bool) → goes_on p ≡ b → (q : declared.Place) → p ≡ q → goes_on p ≡ ltb (index_at (net_of s) p) (length (elements_of s))
      go true g q e = g ∙ sym (lt-ltb (index_at (net_of s) p) (length (elements_of s)) (omega (arith, elements_all s, below_all p w g)))
      go false g Over e = g ∙ sym (le-ltb (index_at (net_of s) p) (length (elements_of s)) (omega (arith, elements_all s, ap (index_at (net_of s)) e)))
      go false g Opens e = absurd (let k : true ≡ false = sym (ap goes_on e) ∙ g in let z : ◌≡◌ {A = ℕ} 0 1 = cc in omega arith)
      go false g (Place x) e = absurd (let k : true ≡ false = sym (ap goes_on e) ∙ g in let z : ◌≡◌ {A = ℕ} 0 1 = cc in omega arith)
      go false g (Transition t) e = absurd (let k : true ≡ false = sym (ap goes_on e) ∙ g in let z : ◌≡◌ {A = ℕ} 0 1 = cc in omega arith)
      go false g (Arc r) e = absurd (let k : true ≡ false = sym (ap goes_on e) ∙ g in let z : ◌≡◌ {A = ℕ} 0 1 = cc in omega arith)
      go false g Closes e = absurd (let k : true ≡ false = sym (ap goes_on e) ∙ g in let z : ◌≡◌ {A = ℕ} 0 1 = cc in omega arith)

  -- What is left at a place is its element's text and what is left at the place after it.
  pub rest_on : (p q : declared.Place) (marks' uses' starts' sizes' : List ℕ) → Stands s ms us bs marks uses starts sizes p → goes_on p ≡ true
      → Follows s ms us bs marks' uses' starts' sizes' p q → rest_at s p ≡ element_text s (index_at (net_of s) p) ++ rest_at s q
  rest_on p q marks' uses' starts' sizes' w g f =
      text_on s (index_at (net_of s) p) (omega (arith, elements_all s, below_all p w g))
      ∙ ap (λ (i : ℕ). element_text s (index_at (net_of s) p) ++ text_from s i) (sym (f.after g))

-- At first the whole export is left.
pub rest_whole : (s : List ℕ) → rest_at s Opens ≡ export_of s
rest_whole s = text_whole s

-- At the last place nothing is left.
pub rest_over : (s : List ℕ) (p : declared.Place) → goes_on p ≡ false → rest_at s p ≡ []
rest_over s Over g = text_over s (index_at (net_of s) Over) (omega (arith, elements_all s))
rest_over s Opens g = absurd (let z : ◌≡◌ {A = ℕ} 0 1 = cc in omega arith)
rest_over s (Place x) g = absurd (let z : ◌≡◌ {A = ℕ} 0 1 = cc in omega arith)
rest_over s (Transition t) g = absurd (let z : ◌≡◌ {A = ℕ} 0 1 = cc in omega arith)
rest_over s (Arc p) g = absurd (let z : ◌≡◌ {A = ℕ} 0 1 = cc in omega arith)
rest_over s Closes g = absurd (let z : ◌≡◌ {A = ℕ} 0 1 = cc in omega arith)
