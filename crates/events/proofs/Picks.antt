-- One step of the recursion from a colour's number to its markers, down the last bytes of a list of preconditions.
use Prim.Native.Nat.{ℕ, ◌*◌, ◌-◌, ◌/◌, ◌%◌, ◌≤◌, ◌<◌}
use native.Mathlib.Omega.{arith}
use native.Mathlib.Nat.{mul-div_cancel_left, mod-lt, div-lt_iff_lt-mul, div-le_self}
use mathlib.Core.Path.{◌≡◌, sym, ap, ◌∙◌}
use mathlib.Core.List.{List, [], ◌∷◌, map}
use lib.Dec.{eqb, eqb_refl}
use lib.ListN.{length, get_or, take, drop}
use Rattle.lists.specs.Lists.{mem, index, keep}
use Rattle.lists.proofs.Bools.{or_left, or_right}
use Rattle.lists.proofs.Members.{keep_same}
use Rattle.words.specs.Words.{word_at, words}
use Rattle.records.specs.Records.{flags}
use Rattle.model.specs.Runs.{at_start}
use Rattle.model.specs.Unfolding.{markers}
use Rattle.model.specs.Numbering.{ways, digits}
use Rattle.table.specs.Decoded.{net_of}
use Rattle.colours.specs.Colours.{flagged_in, flagged, ending}
use Rattle.colours.proofs.Products.{first_within, first_none, first_more, ending_size, ending_lent, ending_after}
use Rattle.layout.proofs.Counts.{marks_at}
use Rattle.unfolding.specs.Numbers.{choices_of}
use Rattle.unfolding.proofs.Places.{some_marker, some_way}
use Rattle.events.specs.Numbers.{Picking}

-- the first persistent condition stands i bytes on, by the conditions' bytes
module _ {s ms : List ℕ} {events : ℕ} (pre : List ℕ) {left weight rest : ℕ} (h : left ≤ length pre) (p : Picking s ms events (words (ending left pre)) weight rest)
    {bytes : List ℕ} (f : bytes ≡ flags s) {i : ℕ} (e : i ≡ 2 * index (flagged_in bytes) (words (take (length pre - (length pre - left)) (drop (length pre - left) pre)))) where
  found : i ≡ 2 * index (flagged s) (words (ending left pre))
  found = rw (f, ending_lent pre left h) at e

  agree : (l : List ℕ) → keep (net_of s).persistent l ≡ keep (flagged s) l
  agree l = keep_same (net_of s).persistent (flagged s) l (λ b t. sym (p.within.marked.flags b))

  pub picks_within : i ≤ left
  picks_within = rw (ending_size pre left h) at (first_within (flagged s) (ending left pre) i found)

  pub reads_none : left - i < 2 → keep (net_of s).persistent (words (ending left pre)) ≡ []
  reads_none g = agree (words (ending left pre)) ∙ first_none (flagged s) (ending left pre) i found (rw (ending_size pre left h) g)

  pub choices_none : left - i < 2 → choices_of s (words (ending left pre)) ≡ []
  choices_none g = ap (map (markers (net_of s))) (reads_none g)

  module _ (g : 2 ≤ left - i) {b : ℕ} (z : b ≡ word_at (take (length pre - (length pre - left)) (drop (length pre - left) pre)) i) where
    abbrev later : List ℕ
    later = words (ending (left - i - 2) pre)

    pub reads_more : keep (net_of s).persistent (words (ending left pre)) ≡ b ∷ keep (net_of s).persistent later
    reads_more =
        agree (words (ending left pre))
        ∙ first_more (flagged s) (ending left pre) i found (rw (ending_size pre left h) g) b (rw (ending_lent pre left h) at z)
        ∙ rw (ending_after pre left h i g, agree later)

    pub choices_more : choices_of s (words (ending left pre)) ≡ markers (net_of s) b ∷ choices_of s later
    choices_more = ap (map (markers (net_of s))) reads_more

    pub first_low : b < 256
    first_low = p.inside b (rw reads_more (or_left (eqb b b) (mem b (keep (net_of s).persistent later)) (eqb_refl b)))

    mark : get_or ms b 0 ≡ length (markers (net_of s) b)
    mark = marks_at s ms p.within.marked b first_low

    pub mark_some : 0 < get_or ms b 0
    mark_some = rw mark (some_marker (net_of s) b)

    weight_is : weight ≡ get_or ms b 0 * ways (choices_of s later)
    weight_is = p.whole ∙ rw (choices_more, mark)

    below_is : weight / get_or ms b 0 ≡ ways (choices_of s later)
    below_is = rw weight_is (mul-div_cancel_left (ways (choices_of s later)) mark_some)

    pub below_some : 0 < weight / get_or ms b 0
    below_some = rw below_is (some_way (net_of s) (keep (net_of s).persistent later))

    pub digit_in : rest / (weight / get_or ms b 0) < length (markers (net_of s) b)
    digit_in = rw (← mark) ((div-lt_iff_lt-mul below_some).1 (rw (below_is, ← weight_is) p.below))

    pub picking_more : Picking s ms events later (weight / get_or ms b 0) (rest % (weight / get_or ms b 0))
    picking_more =
        record {
          within = p.within;
          inside = λ x t. p.inside x (rw reads_more (or_right (eqb x b) (mem x (keep (net_of s).persistent later)) t));
          whole = below_is;
          limit = omega (arith, div-le_self weight (get_or ms b 0), p.limit);
          below = mod-lt rest below_some;
        }

    pub digits_more : digits (choices_of s (words (ending left pre))) rest
        ≡ get_or (markers (net_of s) b) (rest / (weight / get_or ms b 0)) at_start ∷ digits (choices_of s later) (rest % (weight / get_or ms b 0))
    digits_more = rw (below_is, choices_more)
