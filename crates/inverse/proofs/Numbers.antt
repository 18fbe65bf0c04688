-- Both directions of the numbers undo each other: over what the calls answer with, `number` and `origin`.
use Prim.Native.Nat.{ℕ}
use mathlib.Core.Path.{◌≡◌}
use mathlib.Core.Bool.{true}
use lib.Dec.{ltb, ltb→lt}
use lib.ListN.{length}
use Rattle.lists.specs.Lists.{◌∈◌}
use Rattle.lists.proofs.Bools.{T_of}
use Rattle.lists.proofs.Places.{at_some, at_get_d}
use Rattle.model.specs.Net.{Net}
use Rattle.model.specs.Unfolding.{UnfoldedEvent, unfolded_events, origin, basic}
use Rattle.model.specs.Numbering.{number}
use Rattle.model.proofs.Numbers.{number_at}
use Rattle.model.proofs.Counts.{number_back}

module _ (n : Net) where
  -- The number of the origin of a number is that number.
  pub number_origin : (j : ℕ) → ltb j (basic n).events ≡ true → number n (origin n j) ≡ j
  unfolding basic origin
  number_origin j t =
      number_back n j (origin n j) (at_some (unfolded_events n) j _ (ltb→lt j (length (unfolded_events n)) (T_of (ltb j (length (unfolded_events n))) t)))

  -- The origin of the number of an unfolded event is that event with its markers.
  pub origin_number_lem : (x : UnfoldedEvent) → x ∈ unfolded_events n → origin n (number n x) ≡ x
  unfolding origin
  origin_number_lem x i = at_get_d (unfolded_events n) (number n x) _ (number_at n x i)
