-- The share that is read from what is kept of a table and an event: its numbers are small, and those on a side are what the condition adds.
use mathlib.Core.Path.{◌≡◌, refl, sym, ◌∙◌, ap, subst}
use mathlib.Core.Bool.{Bool, true, false, not, ◌&&◌, cond}
use mathlib.Core.List.{List}
use Prim.Native.Nat.{ℕ, ◌+◌, ◌*◌, ◌≤◌, ◌<◌}
use lib.ListN.{get_or}
use native.Mathlib.Omega.{arith}
use Rattle.lists.specs.Lists.{mem, count, spread}
use Rattle.lists.proofs.Bools.{T_of}
use Rattle.words.specs.Words.{words}
use Rattle.records.specs.Records.{old_rule}
use Rattle.table.specs.Decoded.{net_of}
use Rattle.table.proofs.Ruled.{rule_read}
use Rattle.tally.specs.Having.{one_at}
use Rattle.table.proofs.InOrder.{judged}
use Rattle.colours.specs.Colours.{flagged}
use Rattle.segments.specs.Ranges.{ranged, within, event_at, size_if}
use Rattle.segments.proofs.Ranged.{spread_same}
use Rattle.segments.proofs.Segmented.{base_is, users_are, mark_is, use_is, first_fits, taken_fits, ordinary_fits}
use Rattle.sides.specs.Sides.{added_on, Sided}
use Rattle.sides.specs.Shares.{share_of, share_at, Sharing, side_of}
use Rattle.sides.specs.declared.Side.{Side}
use Rattle.sides.proofs.Bounds.{Small}
use Rattle.sides.proofs.Raised.{raise}
use Rattle.sides.proofs.Shares.{unread_shared, read_shared, ordinary_shared}

module _ {s us bs mk uz ch pre bf af : List ℕ} {e rest : ℕ} (k : Sided s us bs mk uz ch pre bf af e rest) (b : ℕ) (h : b < (net_of s).conditions) where
  abbrev wide : ℕ
  wide = get_or us b 0

  abbrev from : ℕ
  from = get_or bs b 0 + get_or mk b 0 * wide

  abbrev many : ℕ
  many = size_if true (one_at af b) wide

  abbrev one : ℕ
  one = get_or bs b 0 + get_or ch b 0 * wide + get_or uz b 0

  in_pre : (t : Bool) → one_at bf b ≡ t → mem b (words pre) ≡ t
  in_pre t z = ap (mem b) k.taking.reading ∙ sym (k.taking.listing b) ∙ z

  module _ (q : flagged s b ≡ true) where
    fits : from + many ≤ 65535
    fits = first_fits k.putting b h q (get_or bs b 0) wide (get_or mk b 0) many refl refl refl refl

    copy_fits : one_at bf b ≡ true → one ≤ 65535
    copy_fits z = taken_fits k.putting b h q (get_or bs b 0) wide (get_or mk b 0) many refl refl refl refl (in_pre true z) (get_or ch b 0) (get_or uz b 0) refl refl

    lasting : (net_of s).persistent b ≡ true
    lasting = sym (k.putting.flags b) ∙ q

    unread : one_at bf b ≡ false → (side : Side) → within (side_of side (share_of from 0 false from many)) ≡ added_on (net_of s) side (event_at (net_of s) e rest) b
    unread z side =
        rw (base_is k.putting b h, users_are k.putting b h, mark_is k.putting b h, k.putting.listing b)
        (unread_shared (net_of s) b lasting e k.putting.event (event_at (net_of s) e rest).colour (rw k.taking.reading at (in_pre false z)) side)

    read : one_at bf b ≡ true → (side : Side) → within (side_of side (share_of one 1 true from many)) ≡ added_on (net_of s) side (event_at (net_of s) e rest) b
    read z side =
        let reading : mem b ((net_of s).preconditions e) ≡ true = rw k.taking.reading at (in_pre true z) in
        let chose = k.putting.places b (T_of (mem b ((net_of s).preconditions e)) reading) lasting in
        rw (base_is k.putting b h, users_are k.putting b h, mark_is k.putting b h, use_is k.putting b h, k.putting.listing b)
        (read_shared (net_of s) b lasting e k.putting.event (event_at (net_of s) e rest).colour reading (get_or ch b 0) chose.0 chose.1 side)

  rule : (net_of s).old b ≡ old_rule s
  rule = rule_read s (net_of s).events (judged s e k.putting.event) b

  plainly : flagged s b ≡ false → (paper : Bool) → paper ≡ not (old_rule s) → (side : Side)
      → within (side_of side (share_of (get_or bs b 0) (size_if true (one_at bf b) 1) (one_at bf b && one_at af b && paper) (get_or bs b 0) (size_if true (one_at af b) 1)))
      ≡ added_on (net_of s) side (event_at (net_of s) e rest) b
  plainly q paper w side =
      rw (base_is k.putting b h, k.taking.listing b, k.putting.listing b, w ∙ ap not (sym rule))
      (ordinary_shared (net_of s) b (sym (k.putting.flags b) ∙ q) (event_at (net_of s) e rest) side)

  pub sharing : Sharing s us bs mk uz ch bf b
  sharing = record { marked = λ q. omega (arith, fits q); taken = λ q z. copy_fits q z }

  pub share_low : (paper : Bool) → Small (share_at s us bs mk uz ch bf af paper b)
  share_low paper = go (flagged s b) refl (one_at bf b) refl
    where
      go : (q : Bool) → flagged s b ≡ q → (t : Bool) → one_at bf b ≡ t
          → Small (cond q (cond t (share_of one 1 true from many) (share_of from 0 false from many)) (share_of (get_or bs b 0) (cond t 1 0) (t && one_at af b && paper) (get_or bs b 0) (size_if true (one_at af b) 1)))
      go true q true z = record { number = omega (arith, copy_fits q z); takes = omega arith; range = omega (arith, fits q) }
      go true q false z = record { number = omega (arith, fits q); takes = omega arith; range = omega (arith, fits q) }
      go false q true z = let l = ordinary_fits k.putting b h q (get_or bs b 0) (size_if true (one_at af b) 1) refl refl in record { number = omega (arith, l); takes = omega arith; range = l }
      go false q false z = let l = ordinary_fits k.putting b h q (get_or bs b 0) (size_if true (one_at af b) 1) refl refl in record { number = omega (arith, l); takes = omega arith; range = l }

  pub share_is : (paper : Bool) → paper ≡ not (old_rule s) → (side : Side)
      → within (side_of side (share_at s us bs mk uz ch bf af paper b)) ≡ added_on (net_of s) side (event_at (net_of s) e rest) b
  share_is paper w side = go (flagged s b) refl (one_at bf b) refl
    where
      go : (q : Bool) → flagged s b ≡ q → (t : Bool) → one_at bf b ≡ t
          → within (side_of side (cond q (cond t (share_of one 1 true from many) (share_of from 0 false from many)) (share_of (get_or bs b 0) (size_if true (one_at bf b) 1) (one_at bf b && one_at af b && paper) (get_or bs b 0) (size_if true (one_at af b) 1))))
          ≡ added_on (net_of s) side (event_at (net_of s) e rest) b
      go true q true z = read q z side
      go true q false z = unread q z side
      go false q t z = plainly q paper w side

-- what the first conditions add, by their shares
module _ {s us bs mk uz ch pre bf af : List ℕ} {e rest : ℕ} (k : Sided s us bs mk uz ch pre bf af e rest) (paper : Bool) (w : paper ≡ not (old_rule s)) (side : Side) where
  abbrev by_share : ℕ → List ℕ
  by_share b = within (side_of side (share_at s us bs mk uz ch bf af paper b))

  abbrev on_it : ℕ → List ℕ
  on_it = added_on (net_of s) side (event_at (net_of s) e rest)

  shares_are : (c : ℕ) → c ≤ (net_of s).conditions → spread by_share (count 0 c) ≡ spread on_it (count 0 c)
  shares_are c h = spread_same by_share on_it 0 c (λ b l m. share_is k b (omega arith) paper w side)

  pub shares_laid : (shift b c : ℕ) (starts sizes : List ℕ) → b ≡ c → c ≡ (net_of s).conditions
      → ranged starts sizes (2 * b) ≡ raise shift (spread by_share (count 0 b)) → ranged starts sizes (2 * c) ≡ raise shift (spread on_it (count 0 c))
  shares_laid shift b c starts sizes p q r =
      subst (λ (i : ℕ). ranged starts sizes (2 * i) ≡ raise shift (spread on_it (count 0 i))) p (r ∙ ap (λ (l : List ℕ). raise shift l) (shares_are b (omega arith)))
