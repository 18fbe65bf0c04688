-- What comes after an unfolded event: the next colour of its event, else the first of the next event.
use mathlib.Core.Path.{◌≡◌}
use mathlib.Core.Bool.{false}
use mathlib.Core.List.{List}
use Prim.Native.Nat.{ℕ, suc, ◌+◌, ◌≤◌, ◌<◌}
use native.Mathlib.Omega.{arith}
use lib.ListN.{length}
use Rattle.lists.specs.Lists.{sum}
use Rattle.words.specs.Words.{word_at, words}
use Rattle.model.specs.Net.{Net}
use Rattle.model.specs.Unfolding.{reads}
use Rattle.model.specs.Numbering.{size, event_count}
use Rattle.table.specs.Walk.{offset_of}
use Rattle.table.specs.Decoded.{net_of}
use Rattle.tally.specs.Having.{list_part}
use Rattle.table.proofs.InOrder.{walk_next, walk_within}
use Rattle.colours.specs.Colours.{radices, product, capped}
use Rattle.layout.proofs.Counts.{sum_next}
use Rattle.unfolding.specs.Numbers.{Within, Owner}
use Rattle.unfolding.proofs.Places.{some_way}
use Rattle.unfolding.proofs.Owners.{whole_size, past_end}

-- every event has a colour
some_colour : (n : Net) (e : ℕ) → 0 < size n e
unfolding size
some_colour n e = some_way n (reads n e)

module _ (s ms : List ℕ) (events : ℕ) (w : Within s ms events) (e at rest weight : ℕ) (o : Owner s (sum (size (net_of s)) e + rest) e at rest weight) where
  pub record_within : at + 4 + word_at s at ≤ length s
  record_within = walk_within s e at o.event o.offset

  sum_after : weight ≤ rest + 1 → sum (size (net_of s)) (e + 1) ≡ suc (sum (size (net_of s)) e + rest)
  sum_after h = omega (arith, sum_next (size (net_of s)) e weight o.whole, o.below)

  pub next_event : weight ≤ rest + 1 → e + 1 < events → (k : ℕ) → k ≡ word_at s at → (pre : List ℕ) → pre ≡ list_part false s (at + 4 + k)
      → (r : ℕ) → r ≡ capped (product (radices s ms (words pre))) → Owner s (suc (sum (size (net_of s)) e + rest)) (e + 1) (at + 4 + k) 0 r
  next_event h l k q pre p r c =
      let here : e + 1 < (net_of s).events = omega (arith, w.all) in
      let place : at + 4 + k ≡ offset_of s (e + 1) = walk_next s e at o.event o.offset k q in
      let whole : r ≡ size (net_of s) (e + 1) = whole_size s ms events w (e + 1) (at + 4 + k) here place pre p c in
      record {
        event = here;
        offset = place;
        left = omega (arith, sum_after h);
        whole = whole;
        below = omega (arith, some_colour (net_of s) (e + 1));
      }

  pub past_event : weight ≤ rest + 1 → events ≤ e + 1 → event_count (net_of s) ≤ suc (sum (size (net_of s)) e + rest)
  past_event h l =
      past_end s ms events w (e + 1) (suc (sum (size (net_of s)) e + rest)) 0 (omega (arith, o.event, w.all)) (omega (arith, sum_after h))
