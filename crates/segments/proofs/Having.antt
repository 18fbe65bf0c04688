-- The place of an event among the users and among the markers of a condition: how many of the events before it are there.
use mathlib.Core.Path.{◌≡◌, ◌∙◌, ap}
use mathlib.Core.Bool.{Bool, true, false}
use mathlib.Core.Option.{some}
use mathlib.Core.List.{List, ◌∷◌, ◌++◌}
use Prim.Native.Nat.{ℕ, suc, ◌+◌, ◌-◌, ◌≤◌, ◌<◌}
use lib.ListN.{get_elem?, length, length-append, length-map}
use native.Mathlib.Nat.{add-zero, zero-add}
use native.Mathlib.Omega.{arith}
use Rattle.lists.specs.Lists.{mem, keep, count}
use Rattle.lists.proofs.Positions.{at_right, at_map, count_split}
use Rattle.lists.proofs.Members.{keep_append}
use Rattle.model.specs.Net.{Net}
use Rattle.model.specs.Runs.{Marker, by_event}
use Rattle.model.specs.Unfolding.{markers, users}
use Rattle.tally.specs.Having.{having}

module _ (t : ℕ → Bool) (e k : ℕ) where
  keep_split : e ≤ k → keep t (count 0 k) ≡ keep t (count 0 e) ++ keep t (count e (k - e))
  keep_split h =
      let whole : e + (k - e) ≡ k = omega arith in
      ap (keep t) (rw (whole, zero-add) at (count_split 0 e (k - e))) ∙ keep_append t (count 0 e) (count e (k - e))

  pub kept_at : e < k → t e ≡ true → get_elem? (keep t (count 0 k)) (length (keep t (count 0 e))) ≡ some e
  kept_at h p =
      let z : k - e ≡ suc (k - suc e) = omega arith in
      let first : keep t (count e (k - e)) ≡ e ∷ keep t (count (suc e) (k - suc e)) = rw (z, p) in
      rw (keep_split (omega arith), first) (rw add-zero at (at_right (keep t (count 0 e)) (e ∷ keep t (count (suc e) (k - suc e))) 0))

  pub kept_fewer : e ≤ k → length (keep t (count 0 e)) ≤ length (keep t (count 0 k))
  kept_fewer h = omega (arith, ap (λ (l : List ℕ). length l) (keep_split h), length-append (keep t (count 0 e)) (keep t (count e (k - e))))

module _ (n : Net) (b e : ℕ) (h : e < n.events) where
  pub user_here : mem b (n.preconditions e) ≡ true → get_elem? (users n b) (length (having n false b e)) ≡ some e
  unfolding users
  user_here p = kept_at (λ i. mem b (n.preconditions i)) e n.events h p

  pub marker_here : mem b (n.postconditions e) ≡ true → get_elem? (markers n b) (1 + length (having n true b e)) ≡ some (by_event e)
  unfolding markers
  marker_here p =
      let z : 1 + length (having n true b e) ≡ suc (length (having n true b e)) = omega arith in
      rw z (at_map by_event (having n true b n.events) (length (having n true b e)) (kept_at (λ i. mem b (n.postconditions i)) e n.events h p))

  pub marker_most : 1 + length (having n true b e) ≤ length (markers n b)
  unfolding markers
  marker_most = omega (arith, kept_fewer (λ i. mem b (n.postconditions i)) e n.events (omega arith), length-map {B = Marker} (having n true b n.events) by_event)
