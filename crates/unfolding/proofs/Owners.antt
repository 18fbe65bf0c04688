-- Which event an unfolded event's number belongs to, event by event.
use Prim.Native.Nat.{ℕ, ◌+◌, ◌-◌, ◌≤◌, ◌<◌}
use native.Mathlib.Omega.{arith}
use mathlib.Core.Path.{◌≡◌, ap, ◌∙◌}
use mathlib.Core.List.{List}
use mathlib.Core.Bool.{false}
use Rattle.lists.specs.Lists.{sum}
use Rattle.words.specs.Words.{words}
use Rattle.model.specs.Numbering.{size, event_count}
use Rattle.table.specs.Walk.{offset_of}
use Rattle.table.specs.Decoded.{net_of}
use Rattle.tally.specs.Having.{list_part}
use Rattle.layout.specs.Laid.{Laid}
use Rattle.colours.specs.Colours.{radices, product, capped}
use Rattle.layout.proofs.Counts.{sum_part, sum_next, colours_walk}
use Rattle.unfolding.specs.Numbers.{Within}

module _ (s ms : List ℕ) (events : ℕ) (w : Within s ms events) where
  -- the number of colours of an event is not cut
  pub whole_size : (e at : ℕ) → e < (net_of s).events → at ≡ offset_of s e → (pre : List ℕ) → pre ≡ list_part false s at → {r : ℕ} → r ≡ capped (product (radices s ms (words pre))) → r ≡ size (net_of s) e
  unfolding event_count
  whole_size e at h q pre p t =
      omega (arith, colours_walk s ms w.marked e at h q pre p t, sum_part (size (net_of s)) (net_of s).events e h, w.few)

  pub past_end : (e j rest : ℕ) → e ≡ events → sum (size (net_of s)) e + rest ≡ j → event_count (net_of s) ≤ j
  unfolding event_count
  past_end e j rest z q =
      let k : e ≡ (net_of s).events = z ∙ w.all in
      omega (arith, ap (λ (x : ℕ). sum (size (net_of s)) x) k)

pub next_sum : (f : ℕ → ℕ) (e rest weight j : ℕ) → weight ≡ f e → weight ≤ rest → sum f e + rest ≡ j → sum f (e + 1) + (rest - weight) ≡ j
next_sum f e rest weight j q h z = omega (arith, sum_next f e weight q)

-- what comes before an event is within the limit
pub before_few : (s ms : List ℕ) (events : ℕ) → Within s ms events → (e : ℕ) → e < (net_of s).events → sum (size (net_of s)) e + size (net_of s) e ≤ 65535
unfolding event_count
before_few s ms events w e h = omega (arith, sum_part (size (net_of s)) (net_of s).events e h, w.few)

-- what a laid out table gives the walks
pub within_laid : (s ms us bases : List ℕ) (events : ℕ) → Laid s ms us bases → events ≡ (net_of s).events → Within s ms events
within_laid s ms us bases events l q = record { marked = l.counted.marked; few = l.few_events; all = q }
