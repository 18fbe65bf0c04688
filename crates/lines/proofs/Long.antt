-- How long the texts are: every piece fits into the most bytes.
use Prim.Native.Nat.{ℕ, zero, suc, ◌+◌, ◌-◌, ◌*◌, ◌≤◌, ◌<◌}
use native.Mathlib.Decide.{dec_le}
use native.Mathlib.Omega.{arith}
use mathlib.Core.Path.{◌≡◌, refl}
use mathlib.Core.Bool.{Bool, true, false}
use mathlib.Core.Option.{Option}
use mathlib.Core.List.{List, ◌++◌}
use lib.ListN.{length, length-append}
use Rattle.model.specs.Net.{Marking}
use Rattle.model.specs.Lent.{marking}
use Rattle.model.specs.Across.{most_unfolded}
use Rattle.listing.specs.Text.{commas, listed, holding, end_words, start_line, step_line, by_words, refused_line}
use Rattle.listing.specs.Calls.{held_in, first_in, next_of, first_piece, more_piece}
use Rattle.spelling.proofs.Decimal.{five, twenty}
use Rattle.listing.proofs.Held.{holding_both, commas_both, one_holds, one_fails}
use Rattle.listing.proofs.Lines.{first_number, first_dash, list_parts}
use Rattle.lines.specs.Needs.{most_bytes}

-- A condition of two bytes takes at most six bytes.
one_short : (m : Marking) (b : ℕ) → b < 100000 → length (commas (holding m b 1)) ≤ 6
one_short m b h = go (m b) refl
  where
    go : (t : Bool) → m b ≡ t → length (commas (holding m b 1)) ≤ 6
    go true e = rw (one_holds m b e) (omega (arith, five b h))
    go false e = rw (one_fails m b e) (omega arith)

none_short : (m : Marking) (b : ℕ) → length (commas (holding m b 0)) ≤ 6 * 0
unfolding commas holding
none_short m b = omega arith

more_short : (m : Marking) (c b : ℕ) → b + c < 100000 → length (commas (holding m b c)) ≤ 6 * c
more_short m zero b h = none_short m b
more_short m (suc c) b h =
    let e : suc c ≡ 1 + c = omega arith in
    rw (e, holding_both m b 1 c, commas_both, length-append) (omega (arith, one_short m b (omega arith), more_short m c (b + 1) (omega arith)))

module _ (l : List ℕ) (few : length l ≤ most_unfolded) where
  first_short : length (first_piece (held_in l)) ≤ 5
  first_short = go (dec_le (length l) (first_in l))
    where
      go : Dec (length l ≤ first_in l) → length (first_piece (held_in l)) ≤ 5
      go (yes h) = rw (← first_dash l (first_in l) refl h) (omega arith)
      go (no h) = rw (← first_number l (first_in l) refl (omega arith)) (five (first_in l) (omega arith))

  list_short : length (listed (held_in l)) ≤ 5 + 6 * length l
  list_short =
      rw (← list_parts l (first_in l) refl, length-append)
      (omega (arith, first_short, rest (dec_le (length l) (first_in l))))
    where
      rest : Dec (length l ≤ first_in l) → length (commas (holding (marking l) (first_in l + 1) (length l - (first_in l + 1)))) ≤ 6 * length l
      rest (yes h) =
          let e : length l - (first_in l + 1) ≡ 0 = omega arith in
          rw e (omega (arith, none_short (marking l) (first_in l + 1)))
      rest (no h) = omega (arith, more_short (marking l) (length l - (first_in l + 1)) (first_in l + 1) (omega arith))

  -- The begin of the unfolded end's line, and more of it.
  pub end_fits : length (end_words ++ first_piece (held_in l)) ≤ most_bytes
  end_fits = simp length-append (omega (arith, first_short))

  pub more_fits : (from : ℕ) → length (more_piece l from) ≤ most_bytes
  unfolding more_piece
  more_fits from = go (dec_le (length l) from)
    where
      go : Dec (length l ≤ from) → length (commas (holding (marking l) from (next_of l from - from))) ≤ most_bytes
      go (yes h) =
          let e : next_of l from - from ≡ 0 = omega arith in
          rw e (omega (arith, none_short (marking l) from))
      go (no h) = omega (arith, more_short (marking l) (next_of l from - from) from (omega arith))

-- The line of a refusal, with the words for what stopped a step.
pub refused_fits : (number place : ℕ) (by : Option ℕ) → number < 100000000000000000000 → place < 100000000000000000000 → length (by_words by) ≤ 24
    → length (refused_line number place by) ≤ most_bytes
unfolding refused_line
refused_fits number place by hn hp hb = simp length-append (omega (arith, twenty number hn, twenty place hp))

-- The line of a marking of at most 256 conditions.
module _ (l : List ℕ) (few : length l ≤ 256) where
  pub start_fits : length (start_line (held_in l)) ≤ most_bytes
  unfolding start_line
  start_fits = simp length-append (omega (arith, list_short l (omega arith)))

  pub step_fits : (k e u : ℕ) → k < 100000 → e < 100000 → u < 100000 → length (step_line k e u (held_in l)) ≤ most_bytes
  unfolding step_line
  step_fits k e u hk he hu = simp length-append (omega (arith, list_short l (omega arith), five k hk, five e he, five u hu))
