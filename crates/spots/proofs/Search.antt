-- The search for an arc by number: what a transition on its way gives, and where it ends.
use Prim.Native.Nat.{ℕ, suc, ◌+◌, ◌*◌, ◌≤◌, ◌<◌}
use mathlib.Core.Path.{◌≡◌, sym, ◌∙◌, ap, subst}
use mathlib.Core.List.{List}
use lib.ListN.{get_or}
use native.Mathlib.Decide.{dec_le}
use native.Mathlib.Omega.{arith}
use Rattle.model.specs.Numbering.{event_count}
use Rattle.table.specs.Decoded.{net_of}
use Rattle.layout.specs.Laid.{Laid}
use Rattle.unfolding.specs.Numbers.{Belongs}
use Rattle.std.specs.Prelude.{Option as Perhaps, None, Some}
use Rattle.unfolding.specs.declared.Coloured.{Coloured}
use Rattle.arcs.proofs.Counts.{arcs_few}
use Rattle.arcs.specs.Arcs.{arcs_at, Arcs, Shared}
use Rattle.spots.specs.declared.Reached.{Reached}
use Rattle.spots.specs.declared.Spot.{Spot}
use Rattle.spots.specs.Spots.{transition_of, arc_count, sizes_before, Open, Spotted, Due, found_by, Reaches, at_none, Holding, Held}
use Rattle.spots.proofs.Ranges.{sum_most, sizes_whole}
use Rattle.spots.proofs.Spots.{before_low, owned_low, due_owned, due_open, due_next, due_past}

module _ {s ms us bs marks uses starts sizes : List ℕ} (wanted : ℕ) where
  pub reaches_none : (f : Perhaps Coloured) (t b : ℕ) → f ≡ None → Due s ms us bs marks uses starts sizes f t b → b ≤ wanted → (r : Reached) → r ≡ at_none b
      → Reaches s ms us bs wanted marks uses starts sizes r
  reaches_none f t b e d low r z =
      subst (λ (x : Reached). Reaches s ms us bs wanted marks uses starts sizes x) (sym z) (record {
        opened = λ h. absurd (omega arith);
        holds = λ h. absurd (omega arith);
        from = low;
        whole = λ h. omega (arith, due_past f t b e d);
      })

  module _ {own : Coloured} {t b : ℕ} (d : Due s ms us bs marks uses starts sizes (found_by own) t b) where
    pub due_low : t < event_count (net_of s)
    due_low = omega (arith, d.belongs.left, owned_low (due_owned d))

    -- no sum of arcs is large
    pub sum_low : (arcs : ℕ) → arcs ≡ arcs_at (net_of s) (transition_of (net_of s) own) → b + arcs ≤ 17179607040
    sum_low arcs e =
        let laid = d.table.laid in
        omega (arith, d.counted, before_low s ms us bs laid t, due_low, laid.few_events, arcs_few s ms us bs laid (transition_of (net_of s) own))

    module _ (marks' uses' starts' sizes' : List ℕ) (h : Shared s own.event marks' uses') (a : Arcs (net_of s) (transition_of (net_of s) own) starts' sizes')
        (arcs : ℕ) (e : arcs ≡ arcs_at (net_of s) (transition_of (net_of s) own)) where
      told : arcs ≡ arcs_at (net_of s) t
      told = e ∙ ap (arcs_at (net_of s)) d.belongs.left

      pub reaches_here : b ≤ wanted → wanted < b + arcs
          → Reaches s ms us bs wanted marks' uses' starts' sizes' (record { own = own; transition = t; before = b; arcs = arcs })
      reaches_here low high =
          record { opened = λ _. due_open d marks' uses' starts' sizes' h a; holds = λ _. told; from = low; whole = λ l. absurd (omega arith) }

      pub reaches_on : b + arcs ≤ wanted → (f : Perhaps Coloured) → Belongs s (suc (transition_of (net_of s) own)) f
          → Due s ms us bs marks' uses' starts' sizes' f (t + 1) (b + arcs) × (b + arcs ≤ wanted)
      reaches_on low f q = (due_next (due_open d marks' uses' starts' sizes' h a) d.table f q (b + arcs) (ap (λ (x : ℕ). b + x) told), low)

-- ---- what the end of a search tells

module _ {s ms us bs marks uses starts sizes : List ℕ} {wanted : ℕ} {r : Reached} (laid : Laid s ms us bs) (w : Reaches s ms us bs wanted marks uses starts sizes r) where
  -- the arcs counted are those of all transitions on the way, or as many as wanted
  pub reached_few : 0 < r.arcs → r.before + r.arcs ≤ 17179607040
  reached_few h =
      let o = w.opened h in
      omega (arith, o.counted, before_low s ms us bs laid r.transition, o.told, owned_low o.owned, laid.few_events, w.holds h, arcs_few s ms us bs laid r.transition)

  pub reached_fits : wanted ≤ 18446744073709551615 → r.before + r.arcs ≤ 18446744073709551615
  reached_fits h = go (dec_le r.arcs 0)
    where
      go : Dec (r.arcs ≤ 0) → r.before + r.arcs ≤ 18446744073709551615
      go (yes l) = omega (arith, w.from)
      go (no l) = omega (arith, reached_few (omega arith))

  -- past all arcs their number is known
  pub reached_all : wanted ≡ 1099511627776 → r.before + r.arcs ≡ arc_count (net_of s)
  reached_all e = w.whole (go (dec_le r.arcs 0))
    where
      go : Dec (r.arcs ≤ 0) → r.before + r.arcs ≤ wanted
      go (yes l) = omega (arith, w.from)
      go (no l) = omega (arith, reached_few (omega arith))

  module _ (high : wanted < r.before + r.arcs) where
    some_arc : 0 < r.arcs
    some_arc = omega (arith, w.from)

    whole : sizes_before sizes (8 * (net_of s).conditions) ≡ r.arcs
    whole = sizes_whole (net_of s) r.transition starts sizes (w.opened some_arc).arcs ∙ sym (w.holds some_arc)

    pub reached_holding : Holding sizes r.before wanted
    reached_holding =
        record {
          ranges = 8 * (net_of s).conditions;
          in_sizes = omega (arith, (w.opened some_arc).arcs.in_sizes, laid.counted.marked.limits.few_conditions);
          from = w.from;
          below = omega (arith, whole);
          few = omega (arith, whole, w.holds some_arc, arcs_few s ms us bs laid r.transition);
        }

    in_ranges : (p : Spot) → Held sizes r wanted p → Dec (8 * (net_of s).conditions ≤ p.range) → p.range < 8 * (net_of s).conditions
    in_ranges p h (yes l) = absurd (omega (arith, sum_most (λ i. get_or sizes i 0) (8 * (net_of s).conditions) p.range l, whole, h.counted))
    in_ranges p h (no l) = omega arith

    -- the spot that was found is that of the wanted arc
    pub reached_spot : (p : Spot) → Held sizes r wanted p → Spotted s ms us bs marks uses starts sizes p
    reached_spot p h =
        let o = w.opened some_arc in
        let o' = subst (λ (x : Coloured). Open s ms us bs marks uses starts sizes x r.transition r.before) (sym h.owned) o in
        record {
          before = r.before;
          opened = subst (λ (x : ℕ). Open s ms us bs marks uses starts sizes p.own x r.before) (sym h.opened) o';
          here = in_ranges p h (dec_le (8 * (net_of s).conditions) p.range);
          inside = h.inside;
          counted = h.told ∙ h.counted;
        }
