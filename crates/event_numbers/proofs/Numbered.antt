-- An unfolded event's number: where its event and markers are, and where there is none.
use Prim.Native.Nat.{ℕ, ◌+◌, ◌≤◌, ◌<◌}
use native.Mathlib.Omega.{arith}
use mathlib.Core.Path.{◌≡◌, sym, subst}
use mathlib.Core.List.{List, [], ◌∷◌}
use mathlib.Core.Bool.{true, false}
use lib.Dec.{T, ltb, ltb→lt}
use lib.ListN.{length}
use borrow.Author.Tests.{lt-ltb}
use Rattle.lists.specs.Lists.{index, sum, ◌∈◌}
use Rattle.lists.proofs.Bools.{T_of, is_false, not-true, and_left, and_right}
use Rattle.lists.proofs.Places.{at_lt}
use Rattle.model.specs.Net.{Net}
use Rattle.model.specs.Runs.{Marker}
use Rattle.model.specs.Unfolding.{same_marker, UnfoldedEvent, unfolded_events, basic}
use Rattle.model.specs.Numbering.{same_event, number, radix, size, counted}
use Rattle.model.proofs.Unfolded.{Each, choices_each, event_in, colour_out}
use Rattle.model.proofs.Numbers.{same_event_eq, number_at}
use Rattle.model.proofs.Counts.{number_counted}
use Rattle.unfolding.specs.Numbers.{all_mark}
use Rattle.unfolding.proofs.Numbered.{index_found, marker_in, marks_each, choices_at}

pub each_marks : (mss : List (List Marker)) (c : List Marker) → T (all_mark mss c) → Each c mss
each_marks [] [] t = tt
each_marks [] (m ∷ c) t = absurd t
each_marks (ms ∷ mss) [] t = absurd t
each_marks (ms ∷ mss) (m ∷ c) t =
    let b = ltb (index (same_marker m) ms) (length ms) in
    (marker_in m ms (ltb→lt (index (same_marker m) ms) (length ms) (and_left b (all_mark mss c) t)), each_marks mss c (and_right b (all_mark mss c) t))

module _ (n : Net) (e : ℕ) (c : List Marker) where
  abbrev x : UnfoldedEvent
  x = record { event = e; colour = c }

  -- an event with a marker for each of its persistent preconditions has its number
  module _ (h : e < n.events) (t : all_mark (choices_at n e) c ≡ true) where
    there : x ∈ unfolded_events n
    there = event_in n x h (each_marks (choices_at n e) c (T_of (all_mark (choices_at n e) c) t))

    pub number_is : number n x ≡ sum (size n) e + radix (choices_at n e) c
    unfolding counted
    number_is = number_counted n x there

    pub number_low : ltb (number n x) (basic n).events ≡ true
    unfolding basic
    number_low = lt-ltb (number n x) (length (unfolded_events n)) (at_lt (unfolded_events n) (number n x) (number_at n x there))

  -- what has a number is an event with such a list
  out : number n x < length (unfolded_events n) → (e < n.events) × T (all_mark (choices_at n e) c)
  unfolding number
  out h =
      let r = index_found (same_event x) (unfolded_events n) h in
      let i = subst (λ (y : UnfoldedEvent). y ∈ unfolded_events n) (sym (same_event_eq x r.0 r.2)) r.1 in
      let o = colour_out n x i in
      (o.0, marks_each (choices_at n e) c (choices_each (choices_at n e) c o.1))

  pub no_event : n.events ≤ e → ltb (number n x) (basic n).events ≡ false
  unfolding basic
  no_event h = is_false (ltb (number n x) (length (unfolded_events n))) (λ t. let o = out (ltb→lt (number n x) (length (unfolded_events n)) t) in omega arith)

  pub no_colour_lem : all_mark (choices_at n e) c ≡ false → ltb (number n x) (basic n).events ≡ false
  unfolding basic
  no_colour_lem q =
      is_false (ltb (number n x) (length (unfolded_events n))) (λ t. not-true (all_mark (choices_at n e) c) q (out (ltb→lt (number n x) (length (unfolded_events n)) t)).1)
