-- An unfolded event found by the sums before the events: which event it is of, and its colour.
use Prim.Native.Nat.{ℕ, zero, suc, ◌+◌, ◌-◌, ◌≤◌, ◌<◌}
use native.Mathlib.Omega.{arith}
use native.Mathlib.Numerals.{add-one}
use mathlib.Core.Path.{◌≡◌, refl, sym, ap, ◌∙◌}
use mathlib.Core.Option.{some}
use mathlib.Core.List.{List, [], map}
use lib.Dec.{T, ltb, lt→ltb}
use lib.ListN.{get_or}
use borrow.Author.Tests.{le-ltb}
use Rattle.lists.specs.Lists.{sum}
use Rattle.lists.proofs.Places.{at_get_d}
use Rattle.model.specs.Net.{Net, Marking, unknown, stopping}
use Rattle.model.specs.Unfolding.{unfolded_events, markers, reads, origin, basic}
use Rattle.model.specs.Numbering.{digits, size, event_count}
use Rattle.model.proofs.Counts.{count_events, event_from}
use Rattle.layout.specs.Laid.{Sums}
use Rattle.across.specs.Prepared.{Around, Between}

module _ (n : Net) (before : List ℕ) (sizes : Sums (size n) n.events before) (j : ℕ) where
  pub total : get_or before n.events 0 ≡ (basic n).events
  unfolding basic event_count
  total = sizes.at n.events (omega arith) ∙ sym (count_events n)

  -- a number past the last sum is that of no unfolded event
  pub past_last : get_or before n.events 0 ≤ j → (u : Marking) → stopping (basic n) u j ≡ some unknown
  unfolding stopping
  past_last h u = let low : (basic n).events ≤ j = omega (arith, total) in rw (le-ltb j (basic n).events low) refl

  module _ (h : j < get_or before n.events 0) where
    pub among : T (ltb j (basic n).events)
    among = lt→ltb j (basic n).events (omega (arith, total))

    pub around : n.events ≤ 256 → Around before 0 n.events j
    around few = record {
      within = omega (arith, sizes.size);
      apart = go n.events refl;
      from = omega (arith, sizes.at 0 (omega arith));
      to = h;
    }
      where
        go : (k : ℕ) → n.events ≡ k → 0 < k
        go zero q = absurd (let z = sizes.at n.events (omega arith) in let y : sum (size n) n.events ≡ 0 = ap (sum (size n)) q in omega arith)
        go (suc k) q = omega arith

  module _ (e : ℕ) (b : Between before n.events j e) where
    first : get_or before e 0 ≡ sum (size n) e
    first = sizes.at e (omega (arith, b.event))

    next : get_or before (e + 1) 0 ≡ sum (size n) e + size n e
    next = sizes.at (e + 1) (omega (arith, b.event)) ∙ ap (sum (size n)) (add-one e)

    pub weight_is : get_or before (e + 1) 0 - get_or before e 0 ≡ size n e
    weight_is = omega (arith, first, next)

    pub rest_below : j - get_or before e 0 < size n e
    rest_below = omega (arith, first, next, b.from, b.to)

    pub origin_is : origin n j ≡ record { event = e; colour = digits (map (markers n) (reads n e)) (j - get_or before e 0) }
    unfolding origin
    origin_is =
        let r = j - get_or before e 0 in
        let whole : sum (size n) e + r ≡ j = omega (arith, first, b.from) in
        at_get_d {x = record { event = e; colour = digits (map (markers n) (reads n e)) r }} (unfolded_events n) j (record { event = 0; colour = [] })
        (ap (λ (k : ℕ). lib.ListN.get_elem? (unfolded_events n) k) (sym whole) ∙ event_from n e r b.event rest_below)
