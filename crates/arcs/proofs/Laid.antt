-- The sides of an unfolded event laid one after the other.
use mathlib.Core.Path.{◌≡◌, refl, sym, ◌∙◌, ap, ap₂}
use mathlib.Core.List.{List, ◌++◌, map}
use Prim.Native.Nat.{ℕ, ◌+◌, ◌*◌, ◌-◌, ◌≤◌}
use native.Mathlib.Omega.{arith}
use native.Mathlib.Nat.{mul-le-mul}
use native.Mathlib.Decide.{dec_le}
use lib.ListN.{length, take, drop}
use Rattle.lists.specs.Lists.{count, spread}
use Rattle.records.specs.Records.{conditions}
use Rattle.table.specs.Decoded.{net_of}
use Rattle.segments.specs.Ranges.{ranged, event_at}
use Rattle.segments.proofs.Ranged.{spread_next, ranged_none}
use Rattle.sides.specs.declared.Side.{Side}
use Rattle.sides.specs.Sides.{added_on}
use Rattle.arcs.specs.Arcs.{side_at, shift_of}
use Rattle.arcs.proofs.Parts.{part_back, ranged_before, ranged_after}

module _ (s : List ℕ) (firsts e rest : ℕ) where
  -- the places of side i
  abbrev pub side_places : ℕ → List ℕ
  side_places i =
      map (λ x. shift_of firsts (side_at i) + x) (spread (added_on (net_of s) (side_at i) (event_at (net_of s) e rest)) (count 0 (conditions s)))

  -- the places of the first k sides
  unfoldable pub laid_places : ℕ → List ℕ
  laid_places k = spread side_places (count 0 k)

  pub none_laid : (starts sizes : List ℕ) (n k : ℕ) → k ≤ 0 → ranged starts sizes (k * (2 * n)) ≡ laid_places k
  unfolding laid_places
  none_laid starts sizes n k h =
      let z : k ≡ 0 = omega arith in
      rw z (ap (ranged starts sizes) (let x : 0 * (2 * n) ≡ 0 = omega arith in x) ∙ ranged_none starts sizes)

  -- one side more
  side_laid : (starts sizes firsts widths : List ℕ) (n i at : ℕ) → at ≡ i * (2 * n) → at ≤ length starts → at ≤ length sizes
      → ((k : ℕ) → k ≤ i → ranged starts sizes (k * (2 * n)) ≡ laid_places k) → ranged firsts widths (2 * n) ≡ side_places i
      → (k : ℕ) → k ≤ i + 1 → ranged (take at starts ++ firsts) (take at sizes ++ widths) (k * (2 * n)) ≡ laid_places k
  unfolding laid_places
  side_laid starts sizes firsts widths n i at q h l inv r k m = go (dec_le k i)
    where
      last : k ≡ i + 1 → ranged (take at starts ++ firsts) (take at sizes ++ widths) (k * (2 * n)) ≡ spread side_places (count 0 k)
      last e =
          let z : k * (2 * n) ≡ at + 2 * n = rw (e, q) (omega arith) in
          ap (ranged (take at starts ++ firsts) (take at sizes ++ widths)) z
          ∙ ranged_after at starts sizes firsts widths h l (2 * n)
          ∙ ap₂ {C = List ℕ} (λ x y. x ++ y) (ap (ranged starts sizes) q ∙ inv i (omega arith)) r
          ∙ sym (spread_next side_places i)
          ∙ ap (λ (x : ℕ). spread side_places (count 0 x)) (sym e)

      go : Dec (k ≤ i) → ranged (take at starts ++ firsts) (take at sizes ++ widths) (k * (2 * n)) ≡ spread side_places (count 0 k)
      go (yes x) = ranged_before at starts sizes firsts widths h l (k * (2 * n)) (omega (arith, mul-le-mul {m₁ = 2 * n} {m₂ = 2 * n} x (omega arith))) ∙ inv k x
      go (no x) = last (omega arith)

  -- laid into the parts of the arrays that follow those before it
  pub part_laid : (starts sizes firsts widths : List ℕ) (n i : ℕ) → i * (2 * n) ≤ length starts → i * (2 * n) ≤ length sizes
      → ((k : ℕ) → k ≤ i → ranged starts sizes (k * (2 * n)) ≡ laid_places k) → ranged firsts widths (2 * n) ≡ side_places i
      → (k : ℕ) → k ≤ i + 1
      → ranged (take (i * (2 * n)) starts ++ (firsts ++ drop (length starts - i * (2 * n)) (drop (i * (2 * n)) starts)))
      (take (i * (2 * n)) sizes ++ (widths ++ drop (length sizes - i * (2 * n)) (drop (i * (2 * n)) sizes))) (k * (2 * n)) ≡ laid_places k
  part_laid starts sizes firsts widths n i h l inv r k m =
      ap₂ {C = List ℕ} (λ x y. ranged x y (k * (2 * n))) (part_back (i * (2 * n)) starts firsts) (part_back (i * (2 * n)) sizes widths)
      ∙ side_laid starts sizes firsts widths n i (i * (2 * n)) refl h l inv r k m

  -- what is laid is the side
  pub side_is : (starts sizes : List ℕ) (n i : ℕ) → n ≡ conditions s → (side : Side) → side ≡ side_at i → (shift : ℕ) → shift ≡ shift_of firsts (side_at i)
      → ranged starts sizes (2 * conditions s) ≡ map (λ x. shift + x) (spread (added_on (net_of s) side (event_at (net_of s) e rest)) (count 0 (conditions s)))
      → ranged starts sizes (2 * n) ≡ side_places i
  side_is starts sizes n i q side z shift w r =
      ap (λ (k : ℕ). ranged starts sizes (2 * k)) q ∙ r
      ∙ ap (λ (y : Side). map (λ x. shift + x) (spread (added_on (net_of s) y (event_at (net_of s) e rest)) (count 0 (conditions s)))) z
      ∙ ap (λ (k : ℕ). map (λ x. k + x) (spread (added_on (net_of s) (side_at i) (event_at (net_of s) e rest)) (count 0 (conditions s)))) w
