-- The number of an unfolded event taken apart on the bytes: its event, and its colour laid out by condition.
use Prim.Native.Nat.{ℕ, ◌+◌, ◌-◌, ◌≤◌, ◌<◌}
use native.Mathlib.Omega.{arith}
use mathlib.Core.Path.{◌≡◌, sym, ap, ◌∙◌, subst}
use mathlib.Core.Bool.{false}
use mathlib.Core.List.{List, map}
use lib.Dec.{T}
use lib.ListN.{length, get_or, take}
use lib.Seq.{length-take-le, get_or-take}
use Rattle.lists.specs.Lists.{mem, keep, ascending}
use Rattle.lists.proofs.Bools.{and_left}
use Rattle.lists.proofs.Members.{mem_keep}
use Rattle.lists.proofs.Distinct.{ascending_keep}
use Rattle.words.specs.Words.{words}
use Rattle.records.specs.Records.{pre_part}
use Rattle.std.specs.Prelude.{Ok}
use Rattle.model.specs.Net.{Net}
use Rattle.model.specs.Runs.{Marker}
use Rattle.model.specs.Unfolding.{markers, reads}
use Rattle.model.specs.Numbering.{digits, ways, size, event_count}
use Rattle.table.specs.Decoded.{net_of}
use Rattle.table.proofs.Decoded.{events_are_all}
use Rattle.table.proofs.Sound.{tabled}
use Rattle.tally.proofs.Events.{list_read, list_ascends, list_inside}
use Rattle.layout.proofs.Counts.{sum_part}
use Rattle.unfolding.specs.Numbers.{choices_of}
use Rattle.played.specs.Played.{Indexed}
use Rattle.across.specs.Prepared.{Around, Between}
use Rattle.decided.specs.Kept.{marker_at, Kept, Choosing, Chosen}
use Rattle.project.specs.Walked.{Numbered, Coloured, Replayable}
use Rattle.project.proofs.Located.{around, weight_is, rest_below, origin_is}

module _ (s offsets ms before : List ℕ) (q : Numbered s offsets ms before) where
  abbrev n : Net
  n = net_of s

  pub all_events : length offsets ≡ n.events
  all_events = events_are_all s (length offsets) q.judged

  pub few_events : length offsets ≤ 256
  few_events = omega (arith, all_events, (tabled s (length offsets) q.judged).few_events)

  module _ (j : ℕ) where
    pub surrounded : j < get_or before (length offsets) 0 → Around before 0 (length offsets) j
    surrounded l = rw all_events (around n before q.sizes j (rw (← all_events) l) (omega (arith, all_events, few_events)))

    module _ (e : ℕ) (b : Between before (length offsets) j e) (pre : List ℕ) (is_pre : pre ≡ pre_part s (get_or offsets e 0)) where
      here : e < n.events
      here = omega (arith, b.event, all_events)

      between : Between before n.events j e
      between = rw (← all_events) b

      pre_is : words pre ≡ n.preconditions e
      pre_is = rw (is_pre, q.indexed.each e b.event) (list_read s e here false)

      choices_is : choices_of s (words pre) ≡ map (markers n) (reads n e)
      unfolding reads
      choices_is = ap (choices_of s) pre_is

      pub choosing : (places kept : List ℕ) → Kept n places kept
          → Choosing s ms (length offsets) (words pre) (get_or before (e + 1) 0 - get_or before e 0) (j - get_or before e 0) places kept
      unfolding size event_count
      choosing places kept held =
          let weight = weight_is n before q.sizes j e between in
          record {
            picking = record {
              within = record { marked = q.marked; few = q.few; all = all_events };
              inside = λ x t.
                  list_inside s e here false x (subst (λ (y : List ℕ). T (mem x y)) pre_is (and_left (mem x (words pre)) (n.persistent x) (rw mem_keep at t)));
              whole = weight ∙ sym (ap ways choices_is);
              limit = omega (arith, weight, q.few, sum_part (size n) n.events e here);
              below = omega (arith, weight, rest_below n before q.sizes j e between);
            };
            ascends = ascending_keep n.persistent 0 (words pre) (subst (λ (y : List ℕ). T (ascending y)) (sym pre_is) (list_ascends s e here false));
            held = held;
          }

      pub coloured : (old places kept : List ℕ) → Chosen s (words pre) (j - get_or before e 0) old places kept → Coloured n j e places kept
      unfolding reads
      coloured old places kept d =
          record {
            event = here;
            whole =
                rw (origin_is n before q.sizes j e between)
                (ap (λ (y : List Marker). record { event = e; colour = y })
                (sym (ap (λ (y : List ℕ). map (marker_at n places) (keep n.persistent y)) (sym pre_is) ∙ d.colour ∙ ap (λ (y : List (List Marker)). digits y (j - get_or before e 0)) choices_is)));
            held = d.held;
          }

-- the index of a replay, as far as there are events
pub numbered_part : (s : List ℕ) (events : ℕ) (offsets ms us before w : List ℕ) → Replayable s events ms us before w → Indexed s events offsets
    → (i : ℕ) → i ≡ events → Numbered s (take i offsets) ms before
numbered_part s events offsets ms us before w q x i z =
    let long : length (take i offsets) ≡ events = length-take-le i offsets (omega (arith, x.long)) ∙ z in
    record {
      judged = q.judged ∙ ap Ok (sym long);
      indexed = record { long = omega arith; each = λ e l. get_or-take i offsets e 0 (omega (arith, long)) ∙ x.each e (omega (arith, long)) };
      marked = q.counted.marked;
      few = q.few;
      sizes = q.sizes;
    }
