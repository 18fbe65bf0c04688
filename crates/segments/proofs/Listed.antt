-- One list of an unfolded event: what is known of its event, and what all conditions add.
use mathlib.Core.Path.{◌≡◌, refl, sym, ◌∙◌, ap, subst}
use mathlib.Core.Bool.{Bool, true, false}
use mathlib.Core.List.{List}
use Prim.Native.Nat.{ℕ, ◌+◌, ◌*◌, ◌≤◌, ◌<◌}
use lib.Dec.{T}
use lib.ListN.{length}
use native.Mathlib.Omega.{arith}
use Rattle.lists.specs.Lists.{mem, count, spread, sum, places_from}
use Rattle.lists.proofs.Places.{at_lt}
use Rattle.words.specs.Words.{words}
use Rattle.model.specs.Net.{Net}
use Rattle.model.specs.Unfolding.{UnfoldedEvent, reads, copies, unfolded_conditions, takes, puts, basic}
use Rattle.model.specs.Numbering.{ways, size, width, condition_count}
use Rattle.model.proofs.Unfolded.{in_pre, in_post}
use Rattle.model.proofs.Counts.{width_copies, count_conditions}
use Rattle.table.specs.Decoded.{net_of}
use Rattle.table.proofs.Decoded.{conditions_are_all}
use Rattle.tally.specs.Having.{list_of, list_part, Listed, Members, Tally}
use Rattle.records.specs.Records.{conditions}
use Rattle.table.proofs.InOrder.{judged}
use Rattle.tally.proofs.Events.{list_read, list_inside, list_ascends}
use Rattle.unfolding.specs.Numbers.{choices_of}
use Rattle.unfolding.proofs.Numbered.{origin_is}
use Rattle.unfolding.proofs.Owners.{within_laid, before_few}
use Rattle.segments.specs.Ranges.{ranged, chosen_from, Choosing, event_at, touching, added, Known, Owned, Ranges}
use Rattle.segments.proofs.Places.{places_spread}
use Rattle.segments.proofs.Chosen.{chosen_at}

-- ---- what all conditions add

module _ (n : Net) (post : Bool) (e rest : ℕ) (h : e < n.events) (l : rest < size n e) where
  abbrev j : ℕ
  j = sum (size n) e + rest

  pub added_all : spread (added n post (event_at n e rest)) (count 0 n.conditions) ≡ list_of (basic n) post j
  unfolding added basic unfolded_conditions
  added_all = sym (places_spread (touching n post (event_at n e rest)) (copies n) (width n) (width_copies n) 0 n.conditions) ∙ go post
    where
      go : (t : Bool) → places_from 0 (touching n t (event_at n e rest)) (unfolded_conditions n) ≡ list_of (basic n) t j
      go true = ap (λ (x : UnfoldedEvent). places_from 0 (puts n x) (unfolded_conditions n)) (sym (origin_is n e rest h l))
      go false = ap (λ (x : UnfoldedEvent). places_from 0 (takes n x) (unfolded_conditions n)) (sym (origin_is n e rest h l))

  -- each of its numbers is that of an unfolded condition
  pub added_low : condition_count n ≤ 65535 → (b : ℕ) → T (mem b (list_of (basic n) post j)) → b < 65535
  added_low f b t = go post t
    where
      go : (p : Bool) → T (mem b (list_of (basic n) p j)) → b < 65535
      go true t = omega (arith, at_lt (unfolded_conditions n) b (in_post n j b t).1, count_conditions n)
      go false t = omega (arith, at_lt (unfolded_conditions n) b (in_pre n j b t).1, count_conditions n)

-- ---- what is known of an event

module _ {s ms us bs : List ℕ} {e at weight rest : ℕ} (o : Owned s ms us bs e at weight rest) where
  pub list_known : (post : Bool) (l : List ℕ) → l ≡ list_part post s at → words l ≡ list_of (net_of s) post e
  list_known post l p = rw (p, o.offset) (list_read s e o.event post)

  size_is : weight ≡ ways (choices_of s ((net_of s).preconditions e))
  unfolding size reads
  size_is = o.whole

  pub choosing : (pre : List ℕ) → pre ≡ list_part false s at → Choosing s ms (words pre) weight rest
  choosing pre p =
      rw (list_known false pre p) (record {
        marked = o.laid.counted.marked;
        inside = λ b t. list_inside s e o.event false b t;
        whole = size_is;
        limit = omega (arith, o.whole, before_few s ms (net_of s).events (within_laid s ms us bs (net_of s).events o.laid refl) e o.event);
        below = o.below;
      })

  pub list_fine : (post : Bool) (l : List ℕ) → l ≡ list_part post s at → Listed l
  list_fine post l p =
      record {
        ascends = rw (list_known post l p) (list_ascends s e o.event post);
        inside = λ b t. list_inside s e o.event post b (rw (list_known post l p) at t);
      }

  module _ (pre list members mk uz ch zs : List ℕ) (post : Bool) (p : pre ≡ list_part false s at) (q : list ≡ list_part post s at) (r : Members (words list) members)
      (m : Tally (net_of s) true 1 e mk) (u : Tally (net_of s) false 0 e uz) (c : ch ≡ chosen_from s (words pre) rest zs) (z : length zs ≡ 256) where
    pub known : Known s us bs mk uz ch pre members post e rest
    unfolding reads
    known =
        record {
          limits = o.laid.counted.marked.limits;
          flags = o.laid.counted.marked.flags;
          used = o.laid.counted.uses;
          sums = o.laid.sums;
          few = o.laid.few_conditions;
          event = o.event;
          own_marks = m;
          own_uses = u;
          places = λ b t f. rw (c, list_known false pre p)
              (chosen_at s o.laid.counted.marked.flags 0 ((net_of s).preconditions e) (list_ascends s e o.event false) (λ b t. list_inside s e o.event false b t)
              rest zs z (omega (arith, size_is, o.below)) b t f);
          reading = list_known false pre p;
          listing = λ b. r b ∙ ap (mem b) (list_known post list q);
        }

  pub all_conditions : conditions s ≡ (net_of s).conditions
  all_conditions = conditions_are_all s (net_of s).events (judged s e o.event)

  pub listed : (post : Bool) (starts sizes : List ℕ) (c w : ℕ) → w ≡ c → c ≡ (net_of s).conditions
      → ranged starts sizes (2 * c) ≡ spread (added (net_of s) post (event_at (net_of s) e rest)) (count 0 c) → Ranges (net_of s) post (sum (size (net_of s)) e + rest) starts sizes (2 * w)
  listed post starts sizes c w p q r =
      let all : ranged starts sizes (2 * w) ≡ list_of (basic (net_of s)) post (sum (size (net_of s)) e + rest)
      = rw p (r ∙ ap (λ (x : ℕ). spread (added (net_of s) post (event_at (net_of s) e rest)) (count 0 x)) q
      ∙ added_all (net_of s) post e rest o.event (omega (arith, o.whole, o.below))) in
      record {
        numbers = all;
        low = λ b t. added_low (net_of s) post e rest o.event (omega (arith, o.whole, o.below)) o.laid.few_conditions b (subst (λ (l : List ℕ). T (mem b l)) all t);
        few = omega (arith, o.laid.counted.marked.limits.few_conditions);
      }
