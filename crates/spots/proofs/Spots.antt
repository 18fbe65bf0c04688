-- From one spot to the next, and from one transition to the next.
use Prim.Native.Nat.{ℕ, zero, suc, ◌+◌, ◌*◌, ◌-◌, ◌≤◌, ◌<◌}
use mathlib.Core.Path.{◌≡◌, refl, sym, ◌∙◌, ap, subst}
use mathlib.Core.List.{List}
use mathlib.Core.Option.{Option, none, some}
use lib.ListN.{length, get_or}
use native.Mathlib.Decide.{dec_le}
use native.Mathlib.Omega.{arith}
use Rattle.lists.specs.Lists.{sum}
use Rattle.model.specs.Net.{Net}
use Rattle.model.specs.Numbering.{size, event_count}
use Rattle.model.specs.Across.{Refusal, unfolding_refused}
use Rattle.std.specs.Prelude.{Ok, Option as Perhaps, None, Some}
use Rattle.refusal.proofs.Chain.{never_both, then_fine}
use Rattle.table.specs.Walk.{judge_of}
use Rattle.table.specs.Links.{refused_or}
use Rattle.table.specs.Decoded.{net_of}
use Rattle.layout.specs.Laid.{Laid}
use Rattle.layout.specs.Unfolds.{unfolding_of}
use Rattle.records.specs.Records.{conditions}
use Rattle.layout.proofs.Counts.{sum_part, sum_next}
use Rattle.unfolding.specs.Numbers.{Belongs}
use Rattle.unfolding.specs.Numbers as numbers
use Rattle.unfolding.proofs.Numbered.{events_basic}
use Rattle.unfolding.specs.declared.Coloured.{Coloured}
use Rattle.segments.specs.Ranges.{Owned}
use Rattle.segments.proofs.Listed.{all_conditions}
use Rattle.doubled.specs.Doubling.{doubled}
use Rattle.arcs.proofs.Counts.{arcs_few, arcs_some}
use Rattle.arcs.specs.Arcs.{exported, arcs_at, arcs_before, Arcs, Shared, Lent}
use Rattle.spots.specs.declared.Spot.{Spot}
use Rattle.spots.specs.Spots.{transition_of, arc_count, sizes_before, Open, Spotted, Skips, moved_to, Sized, Unfolds, Due, found_by}
use Rattle.spots.proofs.Ranges.{sum_most, size_next, sizes_whole}

-- ---- a table that unfolds

not_refused : (o : Option Refusal) → refused_or o (Ok 0) ≡ Ok 0 → o ≡ none
not_refused none e = refl
not_refused (some x) e = never_both (sym e)

-- it was judged, and nothing of its unfolding is refused
pub unfolds_fine : (s : List ℕ) → unfolding_of s (Ok 0) ≡ Ok 0 → (k : ℕ) × (judge_of s ≡ Ok k) × (unfolding_refused (net_of s) ≡ none)
unfolding unfolding_of
unfolds_fine s e =
    let q = then_fine (judge_of s) (λ _. refused_or (unfolding_refused (net_of s)) (Ok 0)) 0 e in
    (q.0, q.1, not_refused (unfolding_refused (net_of s)) q.2)

-- ---- few arcs

pub before_low : (s ms us bs : List ℕ) → Laid s ms us bs → (t : ℕ) → arcs_before (net_of s) t ≤ 262140 * t
before_low s ms us bs h zero = omega arith
before_low s ms us bs h (suc t) = omega (arith, before_low s ms us bs h t, arcs_few s ms us bs h t)

-- ---- the last transition

pub all_transitions : (n : Net) → (exported n).transitions ≡ event_count n
unfolding exported doubled
all_transitions n = events_basic n

module _ {s ms us bs : List ℕ} where
  pub owner_at : {own : Coloured} → Owned s ms us bs own.event own.at own.weight own.rest
      → numbers.Owner s (transition_of (net_of s) own) own.event own.at own.rest own.weight
  owner_at o = record { event = o.event; offset = o.offset; left = refl; whole = o.whole; below = o.below }

  -- a transition that is owned is among all
  pub owned_low : {own : Coloured} → Owned s ms us bs own.event own.at own.weight own.rest → transition_of (net_of s) own < event_count (net_of s)
  unfolding event_count
  owned_low {own} o = omega (arith, sum_part (size (net_of s)) (net_of s).events own.event o.event, o.whole, o.below)

  pub unfolds_all : {events : ℕ} → Unfolds s ms us bs events → Unfolds s ms us bs (net_of s).events
  unfolds_all u = record { laid = u.laid; unfolds = u.unfolds; all = refl }

  module _ {marks uses starts sizes : List ℕ} where
    -- ---- a transition opened

    pub due_owned : {own : Coloured} {t b : ℕ} → Due s ms us bs marks uses starts sizes (found_by own) t b → Owned s ms us bs own.event own.at own.weight own.rest
    due_owned d =
        record { laid = d.table.laid; event = d.belongs.event; offset = d.belongs.offset; whole = d.belongs.whole; below = d.belongs.below }

    pub due_ranges : {own : Coloured} {t b : ℕ} → Due s ms us bs marks uses starts sizes (found_by own) t b → (m : ℕ) → m ≡ 8 * conditions s → (m ≡ 8 * (net_of s).conditions) × (m ≤ 2048)
    due_ranges d m z =
        let all = all_conditions (due_owned d) in
        (omega arith, omega (arith, d.table.laid.counted.marked.limits.few_conditions))

    pub due_lent : {own : Coloured} {t b : ℕ} → Due s ms us bs marks uses starts sizes (found_by own) t b → Lent s own.event own.rest marks uses
    due_lent {own} d = record { in_marks = d.sized.in_marks; in_uses = d.sized.in_uses; shared = λ h. d.lent own refl h }

    pub due_open : {own : Coloured} {t b : ℕ} → Due s ms us bs marks uses starts sizes (found_by own) t b → (marks' uses' starts' sizes' : List ℕ)
        → Shared s own.event marks' uses' → Arcs (net_of s) (transition_of (net_of s) own) starts' sizes' → Open s ms us bs marks' uses' starts' sizes' own t b
    due_open {own} {t} {b} d marks' uses' starts' sizes' h a =
        record {
          owned = due_owned d;
          shared = h;
          arcs = subst (λ (j : ℕ). Arcs (net_of s) j starts' sizes') d.belongs.left a;
          told = sym d.belongs.left;
          counted = d.counted;
        }

    -- ---- the next transition

    module _ {own : Coloured} {t b : ℕ} (o : Open s ms us bs marks uses starts sizes own t b) where
      pub open_sized : Sized marks uses starts sizes
      open_sized =
          record {
            in_marks = o.shared.marks_are.size;
            in_uses = o.shared.uses_are.size;
            in_starts = o.arcs.in_starts;
            in_sizes = o.arcs.in_sizes;
          }

      -- where some of an event's number is left after a step, the event is the same
      same_event_lem : (e rest : ℕ) → sum (size (net_of s)) e + rest ≡ suc (transition_of (net_of s) own) → rest < size (net_of s) e → 0 < rest → own.event ≡ e
      same_event_lem e rest q l h = go (dec_le e own.event) (dec_le own.event e)
        where
          go : Dec (e ≤ own.event) → Dec (own.event ≤ e) → own.event ≡ e
          go (yes x) (yes y) = omega arith
          go (yes x) (no y) = absurd (omega (arith, sum_part (size (net_of s)) own.event e (omega arith)))
          go (no x) d = absurd (omega (arith, sum_part (size (net_of s)) e own.event (omega arith), o.owned.whole, o.owned.below))

      next_shared : (f : Perhaps Coloured) → Belongs s (suc (transition_of (net_of s) own)) f → (next : Coloured) → f ≡ Some next → 0 < next.rest → Shared s next.event marks uses
      next_shared f q next z h =
          let w = subst (λ (x : Perhaps Coloured). Belongs s (suc (transition_of (net_of s) own)) x) z q in
          subst (λ (i : ℕ). Shared s i marks uses) (same_event_lem next.event next.rest w.left (omega (arith, w.whole, w.below)) h) o.shared

      pub due_next : Unfolds s ms us bs (net_of s).events → (f : Perhaps Coloured) → Belongs s (suc (transition_of (net_of s) own)) f → (b' : ℕ) → b' ≡ b + arcs_at (net_of s) t
          → Due s ms us bs marks uses starts sizes f (t + 1) b'
      due_next u f q b' z =
          record {
            table = u;
            sized = open_sized;
            belongs = subst (λ (j : ℕ). Belongs s j f) (let z : suc (transition_of (net_of s) own) ≡ t + 1 = omega (arith, o.told) in z) q;
            within = omega (arith, o.told, owned_low o.owned);
            counted = z ∙ ap (λ (x : ℕ). x + arcs_at (net_of s) t) o.counted ∙ sum_next (arcs_at (net_of s)) t (arcs_at (net_of s) t) refl;
            lent = next_shared f q;
          }

    -- past the last transition all arcs were counted
    pub due_past : (f : Perhaps Coloured) (t b : ℕ) → f ≡ None → Due s ms us bs marks uses starts sizes f t b → b ≡ arc_count (net_of s)
    due_past f t b e d =
        let past : event_count (net_of s) ≤ t = subst (λ (x : Perhaps Coloured). Belongs s t x) e d.belongs in
        let z : t ≡ (exported (net_of s)).transitions = omega (arith, past, d.within, all_transitions (net_of s)) in
        d.counted ∙ ap (arcs_before (net_of s)) z

    pub due_by : (f : Perhaps Coloured) (t b : ℕ) (own : Coloured) → f ≡ Some own → Due s ms us bs marks uses starts sizes f t b
        → Due s ms us bs marks uses starts sizes (found_by own) t b
    due_by f t b own z d = subst (λ (x : Perhaps Coloured). Due s ms us bs marks uses starts sizes x t b) z d

    pub due_first : (events : ℕ) → Unfolds s ms us bs events → Sized marks uses starts sizes → (f : Perhaps Coloured) → Belongs s 0 f → Due s ms us bs marks uses starts sizes f 0 0
    due_first events u z f q =
        record {
          table = unfolds_all u;
          sized = z;
          belongs = q;
          within = omega arith;
          counted = refl;
          lent = λ own p h. absurd (let w = subst (λ (x : Perhaps Coloured). Belongs s 0 x) p q in omega (arith, w.left));
        }

    -- ---- the spots of an open transition

    open_some : {own : Coloured} {t b : ℕ} → Open s ms us bs marks uses starts sizes own t b → Unfolds s ms us bs (net_of s).events → 0 < arcs_at (net_of s) t
    open_some {own} {t} o u =
        let f = unfolds_fine s (u.unfolds (Ok 0)) in
        arcs_some s f.0 f.1 f.2 t (omega (arith, o.told, owned_low o.owned, events_basic (net_of s)))

    pub spot_first : {own : Coloured} {t b : ℕ} → Open s ms us bs marks uses starts sizes own t b → Unfolds s ms us bs (net_of s).events → (k r : ℕ) → k ≡ 8 * (net_of s).conditions → Skips sizes k 0 r
        → Spotted s ms us bs marks uses starts sizes (record { own = own; transition = t; number = b; range = r; offset = 0 })
    spot_first {own} {t} {b} o u m r q k =
        let has : 0 < arcs_at (net_of s) t = open_some o u in
        let whole = sizes_whole (net_of s) t starts sizes o.arcs in
        let here : r < 8 * (net_of s).conditions = go has whole (dec_le (8 * (net_of s).conditions) r) in
        record { before = b; opened = o; here = here; inside = k.some (omega arith); counted = omega (arith, k.same) }
      where
        go : 0 < arcs_at (net_of s) t → sizes_before sizes (8 * (net_of s).conditions) ≡ arcs_at (net_of s) t → Dec (8 * (net_of s).conditions ≤ r) → r < 8 * (net_of s).conditions
        go has whole (yes l) = absurd (omega (arith, k.same, sum_most (λ i. get_or sizes i 0) (8 * (net_of s).conditions) r l))
        go has whole (no l) = omega arith

    module _ {p : Spot} (w : Spotted s ms us bs marks uses starts sizes p) where
      pub spot_by : (q : Spot) → q ≡ p → (a : ℕ) → p.number ≡ a → Spotted s ms us bs marks uses starts sizes q × (q.number ≡ a)
      spot_by q z a e = (subst (λ (x : Spot). Spotted s ms us bs marks uses starts sizes x) (sym z) w, ap (λ (x : Spot). x.number) z ∙ e)

      pub spot_ranges : (m : ℕ) → m ≡ 8 * conditions s → (m ≡ 8 * (net_of s).conditions) × (m ≤ length sizes) × (p.range < m)
      spot_ranges m z =
          let all = all_conditions w.opened.owned in
          (omega arith, omega (arith, w.opened.arcs.in_sizes, w.opened.owned.laid.counted.marked.limits.few_conditions), omega (arith, w.here))

      pub spot_on : p.offset + 1 < get_or sizes p.range 0 → Spotted s ms us bs marks uses starts sizes (moved_to p p.range (p.offset + 1))
      spot_on h = record { before = w.before; opened = w.opened; here = w.here; inside = h; counted = omega (arith, w.counted) }

      module _ (last : get_or sizes p.range 0 ≤ p.offset + 1) (m r : ℕ) (q : m ≡ 8 * (net_of s).conditions) (k : Skips sizes m (p.range + 1) r) where
        all_passed : sizes_before sizes r ≡ sizes_before sizes p.range + (p.offset + 1)
        all_passed = omega (arith, k.same, size_next sizes p.range, w.inside)

        pub spot_after : r < m → Spotted s ms us bs marks uses starts sizes (moved_to p r 0)
        spot_after h =
            record { before = w.before; opened = w.opened; here = omega arith; inside = k.some h; counted = omega (arith, w.counted, all_passed) }

        pub spot_end : m ≤ r → p.number + 1 ≡ w.before + arcs_at (net_of s) p.transition
        spot_end h =
            let z : r ≡ 8 * (net_of s).conditions = omega (arith, k.within) in
            omega (arith, w.counted, all_passed, ap (sizes_before sizes) z, sizes_whole (net_of s) p.transition starts sizes w.opened.arcs)

      -- its number is below that of all arcs
      pub spot_low : p.number < arc_count (net_of s)
      spot_low =
          let t = p.transition in
          let o = w.opened in
          let in-range = sum_part (λ i. get_or sizes i 0) (8 * (net_of s).conditions) p.range w.here in
          let low : t < (exported (net_of s)).transitions = omega (arith, o.told, owned_low o.owned, all_transitions (net_of s)) in
          omega (arith, w.counted, w.inside, in-range, sizes_whole (net_of s) t starts sizes o.arcs, o.counted, sum_part (arcs_at (net_of s)) (exported (net_of s)).transitions t low)

      pub spot_few : p.number < 1099511627776
      unfolding event_count
      spot_few =
          let laid = w.opened.owned.laid in
          omega (arith, spot_low, before_low s ms us bs laid (exported (net_of s)).transitions, all_transitions (net_of s), laid.few_events)
