-- The text from a place on is the text there and then the text from the next place on, until all is written.
use Prim.Native.Nat.{ℕ, zero, suc, ◌≤◌}
use native.Mathlib.Omega.{arith}
use mathlib.Core.Path.{◌≡◌, refl, sym, ap, ◌∙◌}
use mathlib.Core.Bool.{Bool, true, false}
use mathlib.Core.List.{List, [], ◌++◌}
use lib.ListN.{length}
use Rattle.model.specs.Net.{Net}
use Rattle.lines.specs.declared.Place.{Place}
use Rattle.lines.specs.declared.Place.TheVariants.{Start, Step, End, More, Last, Over}
use Rattle.lines.specs.Places.{next_at, goes_on, shown_at, text_at, text_from, left_at, rest_of}
use Rattle.lines.proofs.Writing.{fewer_left}
use Rattle.lines.proofs.Whole.{over_text}

is_over : (p : Place) → goes_on p ≡ false → p ≡ Over
is_over Start g = absurd (let z : ◌≡◌ {A = ℕ} 0 1 = cc in omega arith)
is_over (Step k) g = absurd (let z : ◌≡◌ {A = ℕ} 0 1 = cc in omega arith)
is_over End g = absurd (let z : ◌≡◌ {A = ℕ} 0 1 = cc in omega arith)
is_over (More from) g = absurd (let z : ◌≡◌ {A = ℕ} 0 1 = cc in omega arith)
is_over Last g = absurd (let z : ◌≡◌ {A = ℕ} 0 1 = cc in omega arith)
is_over Over g = refl

module _ (n : Net) (r w end : List ℕ) where
  abbrev text : ℕ → List ℕ → Place → List ℕ
  text f l p = text_from f n r w end l p

  abbrev left : Place → ℕ
  left p = left_at (length r) end p

  abbrev next : Place → Place
  next p = next_at (length r) end p

  stops : (f g : ℕ) (l : List ℕ) (p : Place) → goes_on p ≡ false → text f l p ≡ text g l p
  stops f g l p e = rw (is_over p e) (over_text n r w end f l ∙ sym (over_text n r w end g l))

  on : (f : ℕ) (l : List ℕ) (p : Place) → text (suc f) l p ≡ text_at r w end (shown_at n r l p) p ++ text f (shown_at n r l p) (next p)
  unfolding text_from
  on f l p = refl

  -- More pieces than are left change nothing.
  enough : (f g : ℕ) (l : List ℕ) (p : Place) → left p ≤ f → left p ≤ g → text f l p ≡ text g l p
  enough zero g l p hf hg = go (goes_on p) refl
    where
      go : (b : Bool) → goes_on p ≡ b → text zero l p ≡ text g l p
      go true e = absurd (omega (arith, fewer_left (length r) end p e))
      go false e = stops zero g l p e
  enough (suc f) zero l p hf hg = go (goes_on p) refl
    where
      go : (b : Bool) → goes_on p ≡ b → text (suc f) l p ≡ text zero l p
      go true e = absurd (omega (arith, fewer_left (length r) end p e))
      go false e = stops (suc f) zero l p e
  enough (suc f) (suc g) l p hf hg = go (goes_on p) refl (enough f g (shown_at n r l p) (next p))
    where
      go : (b : Bool) → goes_on p ≡ b → (left (next p) ≤ f → left (next p) ≤ g → text f (shown_at n r l p) (next p) ≡ text g (shown_at n r l p) (next p))
          → text (suc f) l p ≡ text (suc g) l p
      go true e rest =
          let fewer = fewer_left (length r) end p e in
          on f l p ∙ ap (λ (t : List ℕ). text_at r w end (shown_at n r l p) p ++ t) (rest (omega (arith, fewer)) (omega (arith, fewer))) ∙ sym (on g l p)
      go false e rest = stops (suc f) (suc g) l p e

  pub rest_on : (l : List ℕ) (p : Place) → goes_on p ≡ true → rest_of n r w end l p ≡ text_at r w end (shown_at n r l p) p ++ rest_of n r w end (shown_at n r l p) (next p)
  unfolding rest_of
  rest_on l p g =
      let fewer = fewer_left (length r) end p g in
      enough (left p) (suc (left p)) l p (omega arith) (omega arith) ∙ on (left p) l p
      ∙ ap (λ (t : List ℕ). text_at r w end (shown_at n r l p) p ++ t) (enough (left p) (left (next p)) (shown_at n r l p) (next p) (omega (arith, fewer)) (omega arith))

  pub rest_over : (l : List ℕ) → rest_of n r w end l Over ≡ []
  unfolding rest_of text_from
  rest_over l = refl
