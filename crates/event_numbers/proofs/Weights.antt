-- The loop from markers to a colour's number: what is still to do with the place so far, and one step of it.
use Prim.Native.Nat.{ℕ, suc, ◌+◌, ◌*◌, ◌-◌, ◌≤◌, ◌<◌}
use native.Mathlib.Omega.{arith}
use native.Mathlib.Nat.{add-mul, mul_assoc, mul-le-mul, le-mul_of_pos_right}
use native.Mathlib.Numerals.{add-one}
use mathlib.Core.Path.{◌≡◌, refl, sym, ap, ◌∙◌}
use mathlib.Core.List.{List, [], ◌∷◌}
use mathlib.Core.Bool.{Bool, true, false, cond}
use lib.Dec.{T, eqb, eqb_refl}
use lib.ListN.{length, get_or, drop}
use borrow.Author.Tests.{lt-ltb, le-ltb}
use Rattle.lists.specs.Lists.{mem, keep, index}
use Rattle.lists.proofs.Bools.{or_left, or_right}
use Rattle.words.specs.Words.{word_at, words}
use Rattle.words.proofs.Laws.{words_next, words_end}
use Rattle.model.specs.Runs.{Marker}
use Rattle.model.specs.Unfolding.{same_marker, markers}
use Rattle.model.specs.Numbering.{ways, radix}
use Rattle.model.specs.Across.{most_unfolded}
use Rattle.table.specs.Decoded.{net_of}
use Rattle.colours.specs.Colours.{flagged}
use Rattle.layout.specs.Laid.{Marked}
use Rattle.layout.proofs.Counts.{marks_at}
use Rattle.events.specs.declared.Colour.{Colour}
use Rattle.events.specs.Colours.{marker_at, colour_from, colour_of}
use Rattle.unfolding.specs.Numbers.{choices_of, all_mark}
use Rattle.unfolding.proofs.Places.{some_way}
use Rattle.std.specs.Prelude.{Option, None, Some}
use Rattle.event_numbers.specs.Weights.{weighed, Weighing}

-- ---- a list of markers weighed

told : (t : Bool) (p k : ℕ) → cond t (Some p) None ≡ Some k → (t ≡ true) × (k ≡ p)
told true p k e = (refl, cc)
told false p k e = absurd (let z : ◌≡◌ {A = ℕ} 0 1 = cc in omega arith)

untold : (t : Bool) (p : ℕ) → cond t (Some p) None ≡ None → t ≡ false
untold true p e = absurd (let z : ◌≡◌ {A = ℕ} 0 1 = cc in omega arith)
untold false p e = refl

pub weighed_told : (mss : List (List Marker)) (c : List Marker) (k : ℕ) → weighed mss c ≡ Some k → (all_mark mss c ≡ true) × (k ≡ radix mss c)
weighed_told mss c k e = told (all_mark mss c) (radix mss c) k e

pub weighed_untold : (mss : List (List Marker)) (c : List Marker) → weighed mss c ≡ None → all_mark mss c ≡ false
weighed_untold mss c e = untold (all_mark mss c) (radix mss c) e

-- ---- what is left of a list of markers, with the place so far

abbrev pub carried : ℕ → List (List Marker) → List Marker → Option ℕ
carried k mss c = cond (all_mark mss c) (Some (k * ways mss + radix mss c)) None

carried_first : (mss : List (List Marker)) (c : List Marker) → carried 0 mss c ≡ weighed mss c
carried_first mss c = let z : 0 * ways mss + radix mss c ≡ radix mss c = omega arith in rw z

module _ (k : ℕ) (ms : List Marker) (mss : List (List Marker)) (m : Marker) (c : List Marker) where
  carried_over : length ms ≤ index (same_marker m) ms → carried k (ms ∷ mss) (m ∷ c) ≡ None
  carried_over h = rw (le-ltb (index (same_marker m) ms) (length ms) h)

  carried_more : index (same_marker m) ms < length ms → carried k (ms ∷ mss) (m ∷ c) ≡ carried (k * length ms + index (same_marker m) ms) mss c
  carried_more h =
      let d = index (same_marker m) ms in
      let w = ways mss in
      let z : k * (length ms * w) + (d * w + radix mss c) ≡ (k * length ms + d) * w + radix mss c
      = omega (arith, add-mul (k * length ms) d w, mul_assoc k (length ms) w) in
      rw (lt-ltb d (length ms) h, z)

-- the places stay in the limit
module _ (k d l w : ℕ) (h : (k + 1) * (l * w) ≤ most_unfolded) (g : d < l) where
  limit_more : (k * l + d + 1) * w ≤ most_unfolded
  limit_more =
      let r : k * l + d + 1 ≤ (k + 1) * l = omega (arith, add-mul k 1 l) in
      omega (arith, h, mul_assoc (k + 1) l w, mul-le-mul {m₁ = w} {m₂ = w} r (omega arith))

  place_fits : 0 < w → k * l + d ≤ most_unfolded
  place_fits z = omega (arith, limit_more, le-mul_of_pos_right (k * l + d + 1) z)

-- ---- the markers of a colour, one at a time

module _ (c : Colour) (at : ℕ) where
  colour_none : at ≡ c.count → colour_from c at ≡ []
  colour_none e = let z : c.count - at ≡ 0 = omega arith in rw z

  colour_more : at < c.count → colour_from c at ≡ marker_at c at ∷ colour_from c (at + 1)
  colour_more h = let z : c.count - at ≡ suc (c.count - (at + 1)) = omega arith in rw (z, add-one)

-- ---- a step down the preconditions

-- what the loop knows at byte i, with so many markers used and the place so far
pub record Carrying (s pre : List ℕ) (c : Colour) (number at i : ℕ) : Type 0 where
  pub inside : (b : ℕ) → T (mem b (words (drop i pre))) → b < 256
  pub limit : (number + 1) * ways (choices_of s (words (drop i pre))) ≤ most_unfolded
  pub result : carried number (choices_of s (words (drop i pre))) (colour_from c at) ≡ weighed (choices_of s (words pre)) (colour_of c)

pub carrying_first : (s ms : List ℕ) (events : ℕ) (pre : List ℕ) (c : Colour) → Weighing s ms events (words pre) → Carrying s pre c 0 0 0
carrying_first s ms events pre c w =
    record {
      inside = w.inside;
      limit = omega (arith, w.limit);
      result = carried_first (choices_of s (words pre)) (colour_of c);
    }

module _ (s pre : List ℕ) (c : Colour) (number at i : ℕ) (p : Carrying s pre c number at i) where
  -- where no precondition is left
  module _ (h : length pre - i ≤ 1) where
    ended : carried number [] (colour_from c at) ≡ weighed (choices_of s (words pre)) (colour_of c)
    ended = rw (words_end pre i h) at p.result

    pub none_left : at ≡ c.count → Some number ≡ weighed (choices_of s (words pre)) (colour_of c)
    none_left e = let z : number ≡ number * 1 + 0 = omega arith in ap Some z ∙ (rw (colour_none c at e) at ended)

    pub some_left : at < c.count → None ≡ weighed (choices_of s (words pre)) (colour_of c)
    some_left l = rw (colour_more c at l) at ended

  module _ (ms : List ℕ) (k : Marked s ms) (h : 1 < length pre - i) (b : ℕ) (e : b ≡ word_at pre i) where
    abbrev later : List ℕ
    later = words (drop (i + 2) pre)

    split : words (drop i pre) ≡ b ∷ later
    split = words_next pre i h ∙ rw e

    later_inside : (x : ℕ) → T (mem x later) → x < 256
    later_inside x t = p.inside x (rw split (or_right (eqb x b) (mem x later) t))

    -- an ordinary precondition is passed over
    pub carrying_past : flagged s b ≡ false → Carrying s pre c number at (i + 2)
    carrying_past q =
        let same : choices_of s (words (drop i pre)) ≡ choices_of s later = rw (split, sym (k.flags b) ∙ q) in
        record {
          inside = later_inside;
          limit = rw same at p.limit;
          result = rw same at p.result;
        }

    module _ (q : flagged s b ≡ true) where
      more : choices_of s (words (drop i pre)) ≡ markers (net_of s) b ∷ choices_of s later
      more = rw (split, sym (k.flags b) ∙ q)

      mark_is : get_or ms b 0 ≡ length (markers (net_of s) b)
      mark_is = marks_at s ms k b (p.inside b (rw split (or_left (eqb b b) (mem b later) (eqb_refl b))))

      pub few_markers : at ≡ c.count → None ≡ weighed (choices_of s (words pre)) (colour_of c)
      few_markers z = rw (more, colour_none c at z) at p.result

      module _ (l : at < c.count) (d : ℕ) (z : d ≡ index (same_marker (marker_at c at)) (markers (net_of s) b)) (r : ℕ) (y : r ≡ get_or ms b 0) where
        here : carried number (markers (net_of s) b ∷ choices_of s later) (marker_at c at ∷ colour_from c (at + 1)) ≡ weighed (choices_of s (words pre)) (colour_of c)
        here = rw (more, colour_more c at l) at p.result

        pub not_marking : r ≤ d → None ≡ weighed (choices_of s (words pre)) (colour_of c)
        not_marking g = sym (carried_over number (markers (net_of s) b) (choices_of s later) (marker_at c at) (colour_from c (at + 1)) (omega (arith, mark_is))) ∙ here

        module _ (g : d < r) where
          limit : (number + 1) * (r * ways (choices_of s later)) ≤ most_unfolded
          limit = rw (y, mark_is) (rw more at p.limit)

          pub marked_fits : number * r + d ≤ most_unfolded
          marked_fits = place_fits number d r (ways (choices_of s later)) limit g (some_way (net_of s) (keep (net_of s).persistent later))

          pub carrying_marked : Carrying s pre c (number * r + d) (at + 1) (i + 2)
          carrying_marked =
              record {
                inside = later_inside;
                limit = limit_more number d r (ways (choices_of s later)) limit g;
                result = rw (z, y, mark_is) (sym (carried_more number (markers (net_of s) b) (choices_of s later) (marker_at c at) (colour_from c (at + 1)) (omega (arith, mark_is))) ∙ here);
              }
