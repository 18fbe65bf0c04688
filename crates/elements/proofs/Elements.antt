-- Which element stands at each number of an export.
use Prim.Native.Nat.{ℕ, zero, suc, ◌+◌, ◌<◌}
use mathlib.Core.Path.{◌≡◌, refl, ◌∙◌, ap}
use mathlib.Core.Option.{some}
use mathlib.Core.List.{List, [], ◌∷◌, ◌++◌, map}
use lib.ListN.{get_elem?, length, get_or, length-append, length-map, get_or-append}
use lib.Seq.{get_or-append-add}
use native.Mathlib.Nat.{add-zero, zero-add, add-suc, suc-add}
use native.Mathlib.Omega.{arith}
use Rattle.lists.specs.Lists.{mem, count, spread}
use Rattle.lists.proofs.Members.{length_count}
use Rattle.lists.proofs.Positions.{counted_at, length_base}
use Rattle.model.specs.Net.{Net}
use Rattle.doubled.specs.Plain.{Plain}
use Rattle.pnml.specs.declared.Link.{Link}
use Rattle.pnml.specs.declared.Link.TheVariants.{Into, OutOf}
use Rattle.pnml.specs.declared.Element.{Element}
use Rattle.pnml.specs.declared.Element.TheVariants.{Opens, Place, Transition, Arc, Closes}
use Rattle.pnml.specs.Elements.{arcs_of, numbered, elements}
use Rattle.arcs.specs.Arcs.{exported, arcs_at, arcs_before}

-- ---- arcs numbered

pub numbered_long : (a : ℕ) (ls : List Link) → length (numbered a ls) ≡ length ls
unfolding numbered
numbered_long a [] = refl
numbered_long a (l ∷ ls) = ap suc (numbered_long (suc a) ls)

pub numbered_at : (a : ℕ) (ls : List Link) (k : ℕ) {l : Link} → get_elem? ls k ≡ some l → get_or (numbered a ls) k Opens ≡ Arc (a + k) l
unfolding numbered
numbered_at a [] k h = absurd (let z : ◌≡◌ {A = ℕ} 0 1 = cc in omega arith)
numbered_at a (y ∷ ls) zero {l} h = rw add-zero (ap (Arc a) cc)
numbered_at a (y ∷ ls) (suc k) h = rw (add-suc, ← suc-add a k) (numbered_at (suc a) ls k h)

-- ---- the four parts

module _ (p : Plain) where
  abbrev place_part : List Element
  place_part = map (λ x. Place x (mem x p.initial)) (count 0 p.places)

  abbrev transition_part : List Element
  transition_part = map Transition (count 0 p.transitions)

  abbrev pub links : List Link
  links = spread (arcs_of p) (count 0 p.transitions)

  elements_are : elements p ≡ Opens ∷ (place_part ++ transition_part ++ numbered 0 links ++ (Closes ∷ []))
  unfolding elements
  elements_are = refl

  place_long : length place_part ≡ p.places
  place_long = length-map (count 0 p.places) (λ x. Place x (mem x p.initial)) ∙ length_count 0 p.places

  transition_long : length transition_part ≡ p.transitions
  transition_long = length-map (count 0 p.transitions) Transition ∙ length_count 0 p.transitions

  first_long : length (place_part ++ transition_part) ≡ p.places + p.transitions
  first_long = length-append place_part transition_part ∙ omega (arith, place_long, transition_long)

  front_long : length (place_part ++ transition_part ++ numbered 0 links) ≡ p.places + (p.transitions + length links)
  front_long = length-append (place_part ++ transition_part) (numbered 0 links) ∙ omega (arith, first_long, numbered_long 0 links)

  pub elements_long : length (elements p) ≡ 2 + (p.places + (p.transitions + length links))
  elements_long =
      ap (λ (l : List Element). length l) elements_are
      ∙ ap suc (length-append (place_part ++ transition_part ++ numbered 0 links) (Closes ∷ []))
      ∙ omega (arith, front_long)

  at_suc : (k : ℕ) → get_or (elements p) (1 + k) Opens ≡ get_or (place_part ++ transition_part ++ numbered 0 links ++ (Closes ∷ [])) k Opens
  at_suc k = let z : 1 + k ≡ suc k = omega arith in rw z (ap (λ (l : List Element). get_or l (suc k) Opens) elements_are)

  in_front : (k : ℕ) → k < p.places + (p.transitions + length links)
      → get_or (place_part ++ transition_part ++ numbered 0 links ++ (Closes ∷ [])) k Opens ≡ get_or (place_part ++ transition_part ++ numbered 0 links) k Opens
  in_front k h = get_or-append (place_part ++ transition_part ++ numbered 0 links) (Closes ∷ []) Opens k (omega (arith, front_long))

  in_first : (k : ℕ) → k < p.places + p.transitions → get_or (place_part ++ transition_part ++ numbered 0 links) k Opens ≡ get_or (place_part ++ transition_part) k Opens
  in_first k h = get_or-append (place_part ++ transition_part) (numbered 0 links) Opens k (omega (arith, first_long))

  -- ---- what stands at a number

  pub at_opens : get_or (elements p) 0 Opens ≡ Opens
  at_opens = ap (λ (l : List Element). get_or l 0 Opens) elements_are

  pub at_place : (x : ℕ) → x < p.places → get_or (elements p) (1 + x) Opens ≡ Place x (mem x p.initial)
  at_place x h =
      at_suc x ∙ in_front x (omega arith) ∙ in_first x (omega arith)
      ∙ get_or-append place_part transition_part Opens x (omega (arith, place_long))
      ∙ counted_at (λ i. Place i (mem i p.initial)) Opens 0 p.places x h ∙ rw zero-add

  pub at_transition : (t : ℕ) → t < p.transitions → get_or (elements p) (1 + (p.places + t)) Opens ≡ Transition t
  at_transition t h =
      let z : p.places + t ≡ length place_part + t = omega (arith, place_long) in
      at_suc (p.places + t) ∙ in_front (p.places + t) (omega arith) ∙ in_first (p.places + t) (omega arith)
      ∙ ap (λ (i : ℕ). get_or (place_part ++ transition_part) i Opens) z
      ∙ get_or-append-add place_part transition_part t Opens
      ∙ counted_at Transition Opens 0 p.transitions t h ∙ rw zero-add

  pub at_arc : (k : ℕ) → k < length links → {l : Link} → get_elem? links k ≡ some l → get_or (elements p) (1 + (p.places + (p.transitions + k))) Opens ≡ Arc k l
  at_arc k h {l} q =
      let z : p.places + (p.transitions + k) ≡ length (place_part ++ transition_part) + k = omega (arith, first_long) in
      at_suc (p.places + (p.transitions + k)) ∙ in_front (p.places + (p.transitions + k)) (omega arith)
      ∙ ap (λ (i : ℕ). get_or (place_part ++ transition_part ++ numbered 0 links) i Opens) z
      ∙ get_or-append-add (place_part ++ transition_part) (numbered 0 links) k Opens
      ∙ numbered_at 0 links k q ∙ rw zero-add

  pub at_closes : get_or (elements p) (1 + (p.places + (p.transitions + length links))) Opens ≡ Closes
  at_closes =
      let z : p.places + (p.transitions + length links) ≡ length (place_part ++ transition_part ++ numbered 0 links) + 0 = omega (arith, front_long) in
      at_suc (p.places + (p.transitions + length links))
      ∙ ap (λ (i : ℕ). get_or (place_part ++ transition_part ++ numbered 0 links ++ (Closes ∷ [])) i Opens) z
      ∙ get_or-append-add (place_part ++ transition_part ++ numbered 0 links) (Closes ∷ []) 0 Opens

-- ---- the arcs of an export

pub links_at : (n : Net) (t : ℕ) → length (arcs_of (exported n) t) ≡ arcs_at n t
unfolding arcs_of arcs_at
links_at n t =
    length-append (map (λ x. Into x t) ((exported n).inputs t)) (map (λ x. OutOf t x) ((exported n).outputs t))
    ∙ omega (arith, length-map ((exported n).inputs t) (λ x. Into x t), length-map ((exported n).outputs t) (λ x. OutOf t x))

pub links_long : (n : Net) → length (links (exported n)) ≡ arcs_before n (exported n).transitions
links_long n = length_base (arcs_of (exported n)) (arcs_at n) (links_at n) (exported n).transitions
