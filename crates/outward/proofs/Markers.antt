-- The markers of a colour, from numbers and as numbers, one by one.
use Prim.Native.Nat.{ℕ, zero, suc, ◌+◌, ◌-◌, ◌<◌}
use native.Mathlib.Nat.{not-suc-le-zero, le_of_suc-le-suc, zero-add, add-zero, add-suc, suc-add}
use native.Mathlib.Omega.{arith}
use mathlib.Core.Path.{◌≡◌, refl, ap, ◌∙◌}
use mathlib.Core.List.{List, [], ◌∷◌, map}
use lib.ListN.{length, get_or, length-map}
use Rattle.lists.specs.Lists.{count}
use Rattle.lists.proofs.Members.{length_count}
use Rattle.lists.proofs.Positions.{counted_at}
use Rattle.refusal.specs.declared.Marker.TheVariants.{Start}
use Rattle.events.specs.declared.Colour.{Colour}
use Rattle.events.specs.Colours.{marker_at, colour_of}
use Rattle.outward.specs.Words.{start_word, word_of, marker_of, picks_for, words_of}

module _ {A : Type 0} where
  -- An element that is there is read with any default.
  pub read_with : (l : List A) (i : ℕ) (a b : A) → i < length l → get_or l i a ≡ get_or l i b
  read_with [] i a b h = absurd (not-suc-le-zero h)
  read_with (x ∷ l) zero a b h = refl
  read_with (x ∷ l) (suc i) a b h = read_with l i a b (le_of_suc-le-suc h)

  mapped_at : {B : Type 0} (g : B → A) (f : ℕ → B) (d : A) (k c i : ℕ) → i < c → get_or (map g (map f (count k c))) i d ≡ g (f (k + i))
  mapped_at g f d k zero i h = absurd (not-suc-le-zero h)
  mapped_at g f d k (suc c) zero h = rw add-zero
  mapped_at g f d k (suc c) (suc i) h = rw (add-suc, ← suc-add k i) (mapped_at g f d (suc k) c i (le_of_suc-le-suc h))

-- ---- the markers that numbers say

pub picks_long : (ws : List ℕ) → length (picks_for ws) ≡ 16
unfolding picks_for
picks_long ws = refl

pub pick_at : (ws : List ℕ) (i : ℕ) → i < 16 → get_or (picks_for ws) i Start ≡ marker_of (get_or ws i start_word)
unfolding picks_for
pick_at ws i h = counted_at (λ (j : ℕ). marker_of (get_or ws j start_word)) Start 0 16 i h ∙ ap (λ (j : ℕ). marker_of (get_or ws j start_word)) (zero-add i)

-- ---- the markers of a colour as numbers

pub words_long : (c : Colour) → length (words_of c) ≡ c.count
unfolding words_of
words_long c = length-map (colour_of c) word_of ∙ length-map (count 0 (c.count - 0)) (marker_at c) ∙ length_count 0 (c.count - 0) ∙ omega arith

pub word_here : (c : Colour) (i : ℕ) → i < c.count → get_or (words_of c) i 0 ≡ word_of (marker_at c i)
unfolding words_of
word_here c i h = mapped_at word_of (marker_at c) 0 0 (c.count - 0) i (omega arith) ∙ ap (λ (j : ℕ). word_of (marker_at c j)) (zero-add i)
