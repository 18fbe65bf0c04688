-- Numbers raised by a shift: of a range, of a segment, and of one more condition.
use mathlib.Core.Path.{◌≡◌, refl, sym, ◌∙◌, ap, ap₂}
use mathlib.Core.List.{List, ◌∷◌, ◌++◌, map, map-append}
use Prim.Native.Nat.{ℕ, zero, suc, ◌+◌, ◌*◌}
use native.Mathlib.Nat.{add-suc}
use Rattle.lists.specs.Lists.{count, spread}
use Rattle.segments.specs.declared.Segment.{Segment}
use Rattle.segments.specs.Ranges.{ranged, within}
use Rattle.segments.proofs.Ranged.{spread_next}

module _ (shift : ℕ) where
  -- every number of a list raised
  abbrev pub raise : List ℕ → List ℕ
  raise l = map (λ x. shift + x) l

  raise_count : (k c : ℕ) → count (shift + k) c ≡ raise (count k c)
  raise_count k zero = refl
  raise_count k (suc c) = ap {B = List ℕ} (λ z. (shift + k) ∷ z) (rw add-suc at (raise_count (suc k) c))

  pub raise_segment : (g : Segment) → count (shift + g.first) g.size ++ count (shift + g.next) g.more ≡ raise (within g)
  raise_segment g =
      ap₂ {C = List ℕ} (λ x y. x ++ y) (raise_count g.first g.size) (raise_count g.next g.more)
      ∙ sym (map-append (λ x. shift + x) (count g.first g.size) (count g.next g.more))

  -- what one more condition adds follows
  pub raise_next : (starts sizes now : List ℕ) (f : ℕ → List ℕ) (b : ℕ) (g : Segment)
      → ranged starts sizes (2 * (b + 1)) ≡ now ++ within g → now ≡ raise (spread f (count 0 b)) → within g ≡ raise (f b)
      → ranged starts sizes (2 * (b + 1)) ≡ raise (spread f (count 0 (b + 1)))
  raise_next starts sizes now f b g p q r =
      p ∙ ap₂ {C = List ℕ} (λ x y. x ++ y) q r ∙ sym (map-append (λ x. shift + x) (spread f (count 0 b)) (f b)) ∙ ap raise (sym (spread_next f b))
