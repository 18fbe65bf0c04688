-- What all conditions add to each of the four sides of an unfolded event: its lists, and each without what the other excuses.
use mathlib.Core.Path.{◌≡◌, refl, sym, ◌∙◌, ap}
use mathlib.Core.Bool.{Bool, true, false, not, ◌&&◌, cond}
use mathlib.Core.List.{List, [], ◌∷◌}
use Prim.Native.Nat.{ℕ, suc, ◌+◌, ◌<◌}
use lib.ListN.{get_elem?}
use native.Mathlib.Nat.{add-zero, zero-add, suc-add, add-suc}
use Rattle.lists.specs.Lists.{mem, keep, count, spread, sum, places_from}
use Rattle.lists.proofs.Places.{hit, mem_places}
use Rattle.model.specs.Net.{Net}
use Rattle.model.specs.Unfolding.{UnfoldedCondition, UnfoldedEvent, copies, unfolded_conditions, takes, puts, follows, origin, basic}
use Rattle.model.specs.Numbering.{size, width}
use Rattle.model.proofs.Counts.{width_copies}
use Rattle.doubled.specs.Doubling.{without, excusing}
use Rattle.unfolding.proofs.Numbered.{origin_is}
use Rattle.segments.specs.Ranges.{event_at}
use Rattle.segments.proofs.Places.{places_spread}
use Rattle.sides.specs.declared.Side.{Side}
use Rattle.sides.specs.declared.Side.TheVariants.{Takes, Fills, Puts, Empties}
use Rattle.sides.specs.Sides.{sided, added_on}

-- ---- the places of one test without those of another

module _ {A : Type 0} (t u : A → Bool) where
  keep_places : (g : ℕ → Bool) (l : List A) (k : ℕ) → ((i : ℕ) → g (k + i) ≡ not (hit u (get_elem? l i))) → keep g (places_from k t l) ≡ places_from k (λ y. t y && not (u y)) l
  keep_places g [] k h = refl
  keep_places g (x ∷ l) k h = go (t x) (u x) (rw add-zero at (h 0)) (keep_places g l (suc k) (λ i. rw (suc-add, ← add-suc) (h (suc i))))
    where
      go : (a b : Bool) → g k ≡ not b → keep g (places_from (suc k) t l) ≡ places_from (suc k) (λ y. t y && not (u y)) l
          → keep g (cond a (k ∷ places_from (suc k) t l) (places_from (suc k) t l))
          ≡ cond (a && not b) (k ∷ places_from (suc k) (λ y. t y && not (u y)) l) (places_from (suc k) (λ y. t y && not (u y)) l)
      go true true e ih = rw e ih
      go true false e ih = rw e (ap {B = List ℕ} (λ z. k ∷ z) ih)
      go false b e ih = ih

  pub places_without : (l : List A) → places_from 0 (λ y. t y && not (u y)) l ≡ without (places_from 0 t l) (places_from 0 u l)
  unfolding without
  places_without l =
      sym (keep_places (λ x. not (mem x (places_from 0 u l))) l 0 (λ i. rw zero-add (ap not (mem_places u l i))))

-- ---- the four sides

module _ (n : Net) (e rest : ℕ) (h : e < n.events) (l : rest < size n e) where
  abbrev j : ℕ
  j = sum (size n) e + rest

  -- what is on a side, among all unfolded conditions
  side_all : (side : Side) → spread (added_on n side (event_at n e rest)) (count 0 n.conditions) ≡ places_from 0 (sided n side (origin n j)) (unfolded_conditions n)
  unfolding added_on unfolded_conditions
  side_all side =
      sym (places_spread (sided n side (event_at n e rest)) (copies n) (width n) (width_copies n) 0 n.conditions)
      ∙ ap (λ (x : UnfoldedEvent). places_from 0 (sided n side x) (unfolded_conditions n)) (sym (origin_is n e rest h l))

  pub takes_all : spread (added_on n Takes (event_at n e rest)) (count 0 n.conditions) ≡ (basic n).preconditions j
  unfolding basic
  takes_all = side_all Takes

  pub puts_all : spread (added_on n Puts (event_at n e rest)) (count 0 n.conditions) ≡ (basic n).postconditions j
  unfolding basic
  puts_all = side_all Puts

  -- the places of one test without what those of another excuse
  places_unexcused : (t u : UnfoldedCondition → Bool) → places_from 0 (λ p. t p && not (u p && not (follows n p))) (unfolded_conditions n)
      ≡ without (places_from 0 t (unfolded_conditions n)) (excusing (basic n) (places_from 0 u (unfolded_conditions n)))
  unfolding without excusing basic
  places_unexcused t u =
      places_without t (λ p. u p && not (follows n p)) (unfolded_conditions n)
      ∙ ap (without (places_from 0 t (unfolded_conditions n))) (places_without u (follows n) (unfolded_conditions n))

  pub fills_all : spread (added_on n Fills (event_at n e rest)) (count 0 n.conditions)
      ≡ without ((basic n).postconditions j) (excusing (basic n) ((basic n).preconditions j))
  unfolding basic
  fills_all = side_all Fills ∙ places_unexcused (puts n (origin n j)) (takes n (origin n j))

  pub empties_all : spread (added_on n Empties (event_at n e rest)) (count 0 n.conditions)
      ≡ without ((basic n).preconditions j) (excusing (basic n) ((basic n).postconditions j))
  unfolding basic
  empties_all = side_all Empties ∙ places_unexcused (takes n (origin n j)) (puts n (origin n j))
