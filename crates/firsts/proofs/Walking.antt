-- The walk on a table's bytes: what its lists mark is what the net's events mark.
use Prim.Native.Nat.{ℕ, ◌<◌}
use native.Mathlib.Omega.{arith}
use mathlib.Core.Path.{◌≡◌, refl, sym, ap, ◌∙◌}
use mathlib.Core.Bool.{Bool, true}
use mathlib.Core.List.{List}
use lib.Dec.{eqb}
use lib.ListN.{length, get_or, length-replicate}
use Rattle.lists.specs.Lists.{mem}
use Rattle.words.specs.Words.{words}
use Rattle.model.specs.Runs.{at_start, by_event, marker, or_else}
use Rattle.model.specs.Across.{marks_for_others}
use Rattle.refusal.specs.declared.Marker.TheVariants.{Start, ByEvent}
use Rattle.std.specs.Prelude.{Ok, Option as Perhaps, None}
use Rattle.records.specs.Records.{marking_part}
use Rattle.table.specs.Walk.{judge_of, offset_of}
use Rattle.table.specs.Decoded.{net_of}
use Rattle.table.proofs.Decoded.{start_read, events_are_all}
use Rattle.table.proofs.Sound.{tabled}
use Rattle.tally.specs.Having.{list_part}
use Rattle.tally.proofs.Events.{list_read, list_inside}
use Rattle.layout.proofs.Limits.{flags_are}
use Rattle.repeats.specs.Repeats.{Once}
use Rattle.firsts.specs.Firsts.{Slot, Inside, first_at, no_slots, mark_all}
use Rattle.firsts.specs.Walks.{Walkable}
use Rattle.firsts.proofs.Marking.{all_length, all_first}
use Rattle.firsts.proofs.Along.{none_set, Along, along_event}

no_slots_length : length no_slots ≡ 256
unfolding no_slots
no_slots_length = length-replicate {A = Slot} 256 None

module _ (s : List ℕ) (events : ℕ) (j : judge_of s ≡ Ok events) where
  pub few_events : events < 257
  few_events = omega (arith, (tabled s events j).few_events, events_are_all s events j)

  -- ---- the start

  module _ (at : ℕ) (q : at ≡ offset_of s events) (part : List ℕ) (p : part ≡ marking_part s at) where
    start_is : words part ≡ (net_of s).start
    start_is = rw (p, q) (start_read s events j)

    pub start_inside : Inside (words part)
    start_inside b t = let l = (tabled s events j).sound.start_in b (rw start_is at t) in omega (arith, (tabled s events j).few_conditions)

    module _ (begun slots : List Slot) (z : begun ≡ no_slots) (e : slots ≡ mark_all s begun Start (words part)) where
      start_all : slots ≡ mark_all s no_slots Start (words part)
      start_all = rw z at e

      pub start_length : length slots ≡ 256
      start_length = ap length start_all ∙ all_length s no_slots Start (words part) ∙ no_slots_length

      pub start_first : (b : ℕ) → b < 256 → first_at slots b ≡ marker ((net_of s).persistent b) (mem b (net_of s).start) at_start
      start_first b h =
          ap (λ (x : List Slot). first_at x b) start_all
          ∙ all_first s no_slots Start (words part) b (omega (arith, no_slots_length))
          ∙ rw (none_set b, flags_are s events j b, start_is)

  -- ---- an event's postconditions

  module _ (e : ℕ) (h : e < (net_of s).events) (at : ℕ) (q : at ≡ offset_of s e) (post : List ℕ) (p : post ≡ list_part true s at) where
    post_is : words post ≡ (net_of s).postconditions e
    post_is = rw (p, q) (list_read s e h true)

    pub post_inside : Inside (words post)
    post_inside b t = list_inside s e h true b (rw post_is at t)

    module _ (slots slots' : List Slot) (w : length slots ≡ 256) (z : slots' ≡ mark_all s slots (ByEvent (record { 0 = e })) (words post)) where
      pub post_length : length slots' ≡ 256
      post_length = ap length z ∙ all_length s slots (ByEvent (record { 0 = e })) (words post) ∙ w

      pub post_first : (b : ℕ) → b < 256 → first_at slots' b ≡ or_else (first_at slots b) (marker ((net_of s).persistent b) (mem b ((net_of s).postconditions e)) (by_event e))
      post_first b g =
          ap (λ (x : List Slot). first_at x b) z
          ∙ all_first s slots (ByEvent (record { 0 = e })) (words post) b (omega (arith, w))
          ∙ rw (flags_are s events j b, post_is)

-- ---- the step that a walk is at

module _ (s : List ℕ) (events : ℕ) (offsets r : List ℕ) (w : Walkable s events offsets r) (k : ℕ) (repeat : Perhaps ℕ)
    (slots : List Slot) (seen : List ℕ) (a : Along (net_of s) r k repeat slots seen) (h : k < length r) where
  pub step_event : get_or r k 0 < (net_of s).events
  step_event = along_event (net_of s) r k repeat slots seen a h (get_or r k 0) refl

  pub step_low : get_or r k 0 < 256
  step_low = omega (arith, step_event, few_events s events w.judged, events_are_all s events w.judged)

  pub step_inside : get_or r k 0 < length offsets
  step_inside = omega (arith, step_event, events_are_all s events w.judged, w.indexed.long)

  pub step_offset : get_or offsets (get_or r k 0) 0 ≡ offset_of s (get_or r k 0)
  step_offset = w.indexed.each (get_or r k 0) (omega (arith, step_event, events_are_all s events w.judged))

  module _ (once : List ℕ) (o : Once (net_of s) once) where
    pub step_once : get_or r k 0 < length once
    step_once = omega (arith, step_low, o.size)

    pub step_others : (t : Bool) → eqb (get_or once (get_or r k 0) 0) 1 ≡ t → marks_for_others (net_of s) (get_or r k 0) ≡ t
    step_others t z = sym (o.each (get_or r k 0) step_event) ∙ z
