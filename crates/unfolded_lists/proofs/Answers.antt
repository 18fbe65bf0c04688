-- What the call on one list answers and writes.
use mathlib.Core.Path.{◌≡◌, sym, ◌∙◌, ap}
use mathlib.Core.Bool.{Bool, true}
use mathlib.Core.List.{List}
use Prim.Native.Nat.{ℕ, ◌+◌, ◌≤◌, ◌<◌}
use lib.Dec.{ltb}
use lib.ListN.{length, get_or}
use lib.Seq.{sets}
use native.Mathlib.Omega.{arith}
use borrow.Author.Tests.{le-ltb}
use Rattle.lists.specs.Lists.{sum}
use Rattle.lists.proofs.Stored.{stored_whole}
use Rattle.model.specs.Unfolding.{basic}
use Rattle.model.specs.Numbering.{size, event_count}
use Rattle.refusal.specs.Answer.{Judged, refused_at, fitting, written}
use Rattle.std.specs.Prelude.{Ok, Err}
use Rattle.refusal.specs.declared.Refusal.{Refusal}
use Rattle.refusal.proofs.Chain.{need_passes, need_refuses, fitting_room, fitting_short}
use Rattle.table.specs.Decoded.{net_of}
use Rattle.tally.specs.Having.{list_of}
use Rattle.layout.specs.Unfolds.{unfolding_of}
use Rattle.unfolding.specs.Numbers.{Owner}
use Rattle.unfolding.proofs.Numbered.{events_basic, origin_low}
use Rattle.unfolded_lists.specs.Calls.{unfolded_list_of, unfolded_listed_of}
use Rattle.segments.specs.Ranges.{ranged, Ranges}
use Rattle.segments.proofs.Ranged.{ranged_length}

module _ (s : List ℕ) (post : Bool) (j : ℕ) (out : List ℕ) where
  -- a refusal leaves the output
  pub kept : {x : Refusal} → unfolded_list_of s post j (length out) ≡ Err x → out ≡ unfolded_listed_of s post j out
  unfolding unfolded_listed_of
  kept e = sym (ap (λ (a : Judged). written a (list_of (basic (net_of s)) post j) out) e)

  module _ (u : (own : Judged) → unfolding_of s own ≡ own) where
    pub listing_past : event_count (net_of s) ≤ j → refused_at 10 0 ≡ unfolded_list_of s post j (length out)
    unfolding unfolded_list_of
    listing_past h =
        sym (u _ ∙ need_refuses 10 0 (fitting (length (list_of (basic (net_of s)) post j)) (length out)) (le-ltb j (basic (net_of s)).events (omega (arith, events_basic (net_of s)))))

    module _ {e at rest weight : ℕ} (o : Owner s j e at rest weight) (starts sizes : List ℕ) (r : ℕ) (q : Ranges (net_of s) post (sum (size (net_of s)) e + rest) starts sizes r)
        (k : ℕ) (w : k ≡ sum (λ i. get_or sizes i 0) r) where
      list_is : ranged starts sizes r ≡ list_of (basic (net_of s)) post j
      list_is = q.numbers ∙ ap (λ (i : ℕ). list_of (basic (net_of s)) post i) o.left

      z : k ≡ length (list_of (basic (net_of s)) post j)
      z = w ∙ sym (ranged_length starts sizes r) ∙ ap (λ (l : List ℕ). length l) list_is

      there : ltb j (basic (net_of s)).events ≡ true
      there = ap (λ (i : ℕ). ltb i (basic (net_of s)).events) (sym o.left) ∙ origin_low (net_of s) e rest o.event (omega (arith, o.whole, o.below))

      is_fitting : unfolded_list_of s post j (length out) ≡ fitting (length (list_of (basic (net_of s)) post j)) (length out)
      unfolding unfolded_list_of
      is_fitting = u _ ∙ need_passes 10 0 there

      pub listing_short : length out < k → refused_at 16 k ≡ unfolded_list_of s post j (length out)
      listing_short h = sym (is_fitting ∙ rw (← z) (fitting_short k (length out) h))

      pub listing_fine : k ≤ length out → Ok k ≡ unfolded_list_of s post j (length out)
      listing_fine h = sym (is_fitting ∙ rw (← z) (fitting_room k (length out) h))

      pub listed_fine : k ≤ length out → sets out 0 (ranged starts sizes r) ≡ unfolded_listed_of s post j out
      unfolding unfolded_listed_of
      listed_fine h =
          ap (sets out 0) list_is
          ∙ stored_whole (list_of (basic (net_of s)) post j) out (omega (arith, z))
          ∙ sym (ap (λ (a : Judged). written a (list_of (basic (net_of s)) post j) out) (sym (listing_fine h)))
