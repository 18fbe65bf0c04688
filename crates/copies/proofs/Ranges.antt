-- Ranges of bytes set one after the other, and the ranges of a list of conditions.
use Prim.Native.Nat.{ℕ, suc, ◌+◌, ◌≤◌}
use native.Mathlib.Omega.{arith}
use native.Mathlib.Decide.{ℕ_discrete, dec_le}
use mathlib.Core.Path.{◌≡◌, refl, sym, ap, ◌∙◌, subst}
use mathlib.Core.Bool.{false}
use mathlib.Core.List.{List, [], ◌∷◌}
use lib.Dec.{T}
use lib.ListN.{length, get_or}
use borrow.Author.Tests.{eq-eqb, ne_eqb}
use Rattle.lists.specs.Lists.{mem}
use Rattle.lists.proofs.Bools.{T_of, not-true}
use Rattle.words.specs.Words.{words}
use Rattle.copies.specs.Writing.{Within, Fits, Ranged, copies_from, copies_count, Listed}

-- ---- one range

pub within_dec : (from count k : ℕ) → Dec (Within from count k)
within_dec from count k = go (dec_le from k) (dec_le (suc k) (from + count))
  where
    go : Dec (from ≤ k) → Dec (suc k ≤ from + count) → Dec (Within from count k)
    go (yes a) (yes b) = yes (a, b)
    go (yes a) (no b) = no (λ w. b w.1)
    go (no a) b = no (λ w. a w.0)

pub fits_same : (from count : ℕ) (l out : List ℕ) → length out ≡ length l → Fits from count l → Fits from count out
fits_same from count l out e f = record { inside = omega (arith, f.inside); small = f.small }

pub ranged_none : (from v : ℕ) (l : List ℕ) → Ranged from 0 v l l
ranged_none from v l = record { same = refl; inside = λ k w. absurd (omega (arith, w.0, w.1)); outside = λ k w. refl }

-- ---- the ranges of a list, as far as it is walked

module _ (s users bases places list : List ℕ) (value : ℕ) where
  pub record Listing (before after left : List ℕ) : Type 0 where
    pub same : length after ≡ length before
    pub inside : (b k : ℕ) → T (mem b (words list)) → mem b left ≡ false
        → Within (copies_from users bases places b) (copies_count s users b) k → get_or after k 0 ≡ value
    pub outside : (k : ℕ) → ((b : ℕ) → T (mem b (words list)) → Within (copies_from users bases places b) (copies_count s users b) k → ⊥)
        → get_or after k 0 ≡ get_or before k 0
    pub later : (b : ℕ) → T (mem b left) → T (mem b (words list))

  pub listing_first : (l left : List ℕ) → left ≡ words list → Listing l l left
  listing_first l left e =
      record {
        same = refl;
        inside = λ b k t f w. absurd (not-true (mem b (words list)) (ap (λ (ws : List ℕ). mem b ws) (sym e) ∙ f) t);
        outside = λ k f. refl;
        later = λ b t. subst (λ (ws : List ℕ). T (mem b ws)) e t;
      }

  module _ (before out left rest : List ℕ) (w : ℕ) (first : left ≡ w ∷ rest) (g : Listing before out left) where
    others : (b : ℕ) → (b ≡ w → ⊥) → mem b left ≡ mem b rest
    others b q = rw (first, ne_eqb b w q)

    pub listing_here : T (mem w (words list))
    listing_here = g.later w (T_of (mem w left) (rw (first, eq-eqb w w refl)))

    pub listing_next : (after : List ℕ) → Ranged (copies_from users bases places w) (copies_count s users w) value out after → Listing before after rest
    listing_next after r =
        record {
          same = r.same ∙ g.same;
          inside = λ b k t f x. go b k t f x (within_dec (copies_from users bases places w) (copies_count s users w) k);
          outside = λ k f. r.outside k (λ x. f w listing_here x) ∙ g.outside k f;
          later = λ b t. still b t (ℕ_discrete b w);
        }
      where
        go : (b k : ℕ) → T (mem b (words list)) → mem b rest ≡ false → Within (copies_from users bases places b) (copies_count s users b) k
            → Dec (Within (copies_from users bases places w) (copies_count s users w) k) → get_or after k 0 ≡ value
        go b k t f x (yes y) = r.inside k y
        go b k t f x (no y) = r.outside k y ∙ g.inside b k t (others b other ∙ f) x
          where
            other : b ≡ w → ⊥
            other q = y (subst (λ (z : ℕ). Within (copies_from users bases places z) (copies_count s users z) k) q x)

        still : (b : ℕ) → T (mem b rest) → Dec (b ≡ w) → T (mem b (words list))
        still b t (yes q) = subst (λ (z : ℕ). T (mem z (words list))) (sym q) listing_here
        still b t (no q) = g.later b (subst T (sym (others b q)) t)

  pub listing_end : (before after left : List ℕ) → left ≡ [] → Listing before after left → Listed s users bases places (words list) value before after
  listing_end before after left none g =
      record { same = g.same; inside = λ b k t w. g.inside b k t (ap (λ (ws : List ℕ). mem b ws) none) w; outside = g.outside }
