-- The text of a list by its first number and the rest, how long texts are, and lines put together from their parts.
use Prim.Native.Nat.{ℕ, zero, suc, ◌+◌, ◌-◌, ◌*◌, ◌≤◌, ◌<◌}
use native.Mathlib.Decide.{dec_le}
use native.Mathlib.Nat.{zero-add}
use native.Mathlib.Omega.{arith}
use mathlib.Core.Path.{◌≡◌, refl, sym, ◌∙◌}
use mathlib.Core.Bool.{Bool, true, false}
use mathlib.Core.List.{List, [], ◌∷◌, ◌++◌, append-nil, append_assoc}
use borrow.Author.Tests.{lt-ltb, le-ltb}
use lib.ListN.{length, length-append}
use Rattle.model.specs.Net.{Marking}
use Rattle.model.specs.Lent.{marking}
use Rattle.spelling.specs.Decimal.{decimal}
use Rattle.listing.specs.Text.{dash, space, newline, commas, listed, holding, step_line}
use Rattle.listing.specs.Calls.{held_in, first_in, next_of, first_piece, more_piece}
use Rattle.spelling.proofs.Decimal.{twenty}
use Rattle.listing.proofs.Held.{after_first, first_then, none_left, holding_both, commas_both, one_holds, one_fails}

-- What a lent marking holds is its first, and what holds after it.
held_first : (l : List ℕ) → held_in l ≡ after_first (marking l) (first_in l) (length l)
unfolding held_in first_in
held_first l = rw zero-add at (first_then (marking l) (length l) 0)

module _ (l : List ℕ) (first : ℕ) (is : first ≡ first_in l) where
  pub some_held : first < length l → held_in l ≡ first ∷ holding (marking l) (first + 1) (length l - (first + 1))
  some_held h = held_first l ∙ rw (← is, lt-ltb first (length l) h)

  pub none_held : length l ≤ first → held_in l ≡ []
  none_held h = held_first l ∙ rw (← is, le-ltb first (length l) h)

  -- The first piece of its list.
  pub first_number : first < length l → decimal first ≡ first_piece (held_in l)
  unfolding listed commas
  first_number h = rw (some_held h) (sym (append-nil (decimal first)))

  pub first_dash : length l ≤ first → dash ∷ [] ≡ first_piece (held_in l)
  unfolding listed
  first_dash h = rw (none_held h)

  -- The whole list is its first piece and the rest.
  none_parts : length l ≤ first → first_piece (held_in l) ++ commas (holding (marking l) (first + 1) (length l - (first + 1))) ≡ listed (held_in l)
  unfolding listed commas
  none_parts h = rw (none_held h, none_left (marking l) (first + 1) (length l) (omega arith))

  some_parts : first < length l → first_piece (held_in l) ++ commas (holding (marking l) (first + 1) (length l - (first + 1))) ≡ listed (held_in l)
  unfolding listed commas
  some_parts h = rw (some_held h, append-nil)

  pub list_parts : first_piece (held_in l) ++ commas (holding (marking l) (first + 1) (length l - (first + 1))) ≡ listed (held_in l)
  list_parts = go (dec_le (length l) first)
    where
      go : Dec (length l ≤ first) → first_piece (held_in l) ++ commas (holding (marking l) (first + 1) (length l - (first + 1))) ≡ listed (held_in l)
      go (yes h) = none_parts h
      go (no h) = some_parts (omega arith)

  -- It has at most twenty bytes.
  pub first_short : length l < 100000000000000000000 → length (first_piece (held_in l)) ≤ 20
  first_short few = go (dec_le (length l) first)
    where
      go : Dec (length l ≤ first) → length (first_piece (held_in l)) ≤ 20
      go (yes h) = rw (← first_dash h) (omega arith)
      go (no h) = rw (← first_number (omega arith)) (twenty first (omega arith))

-- ---- how long texts are

-- A condition takes at most twenty-one bytes.
pub one_short : (m : Marking) (b : ℕ) → b < 100000000000000000000 → length (commas (holding m b 1)) ≤ 21
one_short m b h = go (m b) refl
  where
    go : (t : Bool) → m b ≡ t → length (commas (holding m b 1)) ≤ 21
    go true e = rw (one_holds m b e) (omega (arith, twenty b h))
    go false e = rw (one_fails m b e) (omega arith)

none_short : (m : Marking) (b : ℕ) → length (commas (holding m b 0)) ≤ 21 * 0
unfolding commas holding
none_short m b = omega arith

pub more_short : (m : Marking) (c b : ℕ) → b + c < 100000000000000000000 → length (commas (holding m b c)) ≤ 21 * c
more_short m zero b h = none_short m b
more_short m (suc c) b h =
    let e : suc c ≡ 1 + c = omega arith in
    rw (e, holding_both m b 1 c, commas_both, length-append) (omega (arith, one_short m b (omega arith), more_short m c (b + 1) (omega arith)))

pub spaced_short : (n : ℕ) → n < 100000000000000000000 → length (decimal n ++ (space ∷ [])) ≤ 21
spaced_short n h = rw length-append (omega (arith, twenty n h))

-- Nothing is left of a list past the last condition.
pub no_more : (m : Marking) (b upto : ℕ) → upto ≤ b → commas (holding m b (upto - b)) ≡ []
unfolding commas
no_more m b upto h = rw (none_left m b upto h)

-- A part that ends where the next begins.
pub parted : (l : List ℕ) (from : ℕ) → from ≤ length l → commas (holding (marking l) from (length l - from)) ≡ more_piece l from ++ commas (holding (marking l) (next_of l from) (length l - next_of l from))
unfolding more_piece
parted l from h =
    let upto : ℕ = next_of l from in
    let both : length l - from ≡ (upto - from) + (length l - upto) = omega arith in
    let seam : from + (upto - from) ≡ upto = omega arith in
    rw (both, holding_both (marking l) from (upto - from) (length l - upto), commas_both, seam)

-- ---- lines

pub step_parts :
    (step event unfolded : ℕ) (held : List ℕ)
    → (decimal step ++ (space ∷ [])) ++ (decimal event ++ (space ∷ [])) ++ (decimal unfolded ++ (space ∷ [])) ++ (listed held ++ (newline ∷ []))
    ≡ step_line step event unfolded held
unfolding step_line
step_parts step event unfolded held = simp append_assoc
