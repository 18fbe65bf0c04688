-- The number of an unfolded event or condition is one of two bytes.
use Prim.Native.Nat.{ℕ, ◌≤◌, ◌<◌}
use native.Mathlib.Omega.{arith}
use mathlib.Core.Path.{◌≡◌, refl}
use mathlib.Core.Bool.{Bool, true, false}
use mathlib.Core.List.{List}
use mathlib.Core.Option.{Option, none, some}
use borrow.Author.Tests.{leb-true, ltb-true}
use lib.Dec.{leb, ltb}
use Rattle.lists.proofs.Bools.{and-true}
use Rattle.model.specs.Net.{Net}
use Rattle.model.specs.Unfolding.{UnfoldedCondition, basic}
use Rattle.model.specs.Numbering.{condition_count, event_count, condition_number, number}
use Rattle.model.specs.Across.{Refusal, most_unfolded, within, lowest_idle, idle_or_over, unfolding_refused}
use Rattle.model.proofs.Counts.{count_conditions}
use Rattle.refusal.specs.Answer.{Judged, need, and_then, value_of}
use Rattle.std.specs.Prelude.{Ok, Err}
use Rattle.table.specs.Walk.{judge_of}
use Rattle.table.specs.Decoded.{net_of}
use Rattle.table.specs.Links.{refused_or}
use Rattle.layout.specs.Unfolds.{unfolding_of}
use Rattle.events.specs.declared.Colour.{Colour}
use Rattle.events.specs.Colours.{colour_of}
use Rattle.event_numbers.specs.Answers.{number_of}
use Rattle.unfolding.proofs.Numbered.{events_basic}
use Rattle.condition_numbers.specs.Answers.{numbered}
use Rattle.outward.specs.Words.{condition_for}

-- a net that is unfolded is within the limit
within_none : (o : Option ℕ) (w : Bool) → idle_or_over o w ≡ none → w ≡ true
within_none (some e) w q = absurd (let z : ◌≡◌ {A = ℕ} 0 1 = cc in omega arith)
within_none none true q = refl
within_none none false q = absurd (let z : ◌≡◌ {A = ℕ} 0 1 = cc in omega arith)

limits : (n : Net) → unfolding_refused n ≡ none → (condition_count n ≤ most_unfolded) × (event_count n ≤ most_unfolded)
unfolding unfolding_refused within
limits n q =
    let b = and-true (leb (condition_count n) most_unfolded) (leb (event_count n) most_unfolded) (within_none (lowest_idle n) (within n) q) in
    (leb-true (condition_count n) most_unfolded b.0, leb-true (event_count n) most_unfolded b.1)

-- the value of a call's own answer counts only where the table is unfolded
small_if : (j : Judged) (o : Option Refusal) (own : Judged) → (o ≡ none → value_of own < 65536) → value_of (and_then j (λ _. refused_or o own)) < 65536
small_if (Err x) o own h = omega arith
small_if (Ok n) none own h = h refl
small_if (Ok n) (some x) own h = omega arith

small : (s : List ℕ) (own : Judged) → (unfolding_refused (net_of s) ≡ none → value_of own < 65536) → value_of (unfolding_of s own) < 65536
unfolding unfolding_of
small s own h = small_if (judge_of s) (unfolding_refused (net_of s)) own h

below : (k most : ℕ) → most ≤ 65535 → value_of (need (ltb k most) 10 0 (Ok k)) < 65536
unfolding need
below k most h = go (ltb k most) refl
  where
    go : (b : Bool) → ltb k most ≡ b → value_of (need b 10 0 (Ok k)) < 65536
    go true e = let l = ltb-true k most e in omega arith
    go false e = omega arith

pub number_small : (s : List ℕ) (e : ℕ) (c : Colour) → value_of (number_of s e c) < 65536
unfolding number_of
number_small s e c =
    small s _ (λ q. below (number (net_of s) (record { event = e; colour = colour_of c })) (basic (net_of s)).events (omega (arith, events_basic (net_of s), (limits (net_of s) q).1)))

numbered_small : (s : List ℕ) (p : UnfoldedCondition) → value_of (unfolding_of s (numbered (net_of s) p)) < 65536
unfolding numbered basic
numbered_small s p =
    small s _ (λ q. below (condition_number (net_of s) p) (basic (net_of s)).conditions (omega (arith, count_conditions (net_of s), (limits (net_of s) q).0)))

pub condition_small : (s : List ℕ) (b : ℕ) (copy : Bool) (m u : ℕ) → value_of (condition_for s b copy m u) < 65536
unfolding condition_for
condition_small s b true m u = numbered_small s _
condition_small s b false m u = numbered_small s _
