-- Refusal 13: an unfolded event has both lists empty exactly if its event is idle.
use mathlib.Core.Path.{◌≡◌, refl, sym, subst}
use mathlib.Core.Bool.{Bool, true, false, ◌&&◌}
use mathlib.Core.Logic.{◌↔◌}
use mathlib.Core.List.Memᴰ
use mathlib.Core.List.{List, []}
use Prim.Native.Nat.{ℕ, ◌<◌}
use lib.Dec.{T, eqb, eqb_refl, ltb}
use Rattle.lists.specs.Lists.{mem, all, empty, ◌∈◌}
use Rattle.lists.proofs.Bools.{T_of, not-true, and_left, and_right, and_both, or_right, or_cases}
use Rattle.lists.proofs.Members.{mem_in, in_mem, no_member, empty_nil, keep_out}
use Rattle.lists.proofs.Tests.{all_at, all_of}
use Rattle.lists.proofs.Places.{place_of, in_at}
use Rattle.model.specs.Net.{Net, Sound}
use Rattle.model.specs.Runs.{by_event}
use Rattle.model.specs.Unfolding.{same_marker, UnfoldedCondition, ordinary, copy, users, unfolded_conditions, reads, picked, takes, puts, origin, basic, idle}
use Rattle.model.proofs.Unfolded.{picked_in, event_marks, event_uses, ordinary_in_lem, copy_in, kind_of, pair_of, colour_out, colour_picks, takes_at, puts_at, in_pre, in_post, origin_in}

module _ (n : Net) (s : Sound n) (j : ℕ) (c : T (ltb j (basic n).events)) where
  abbrev e : ℕ
  e = (origin n j).event

  here : e < n.events
  here = (colour_out n (origin n j) (origin_in n j c)).0

  -- what an unfolded event touches, its event does
  pub touches_nothing : (basic n).preconditions j ≡ [] → (basic n).postconditions j ≡ [] → T (idle n e)
  unfolding idle takes puts
  touches_nothing p q =
      and_both (empty (n.preconditions e)) (all (λ b. n.persistent b && empty (users n b)) (n.postconditions e)) (no_member (n.preconditions e) no_pre)
      (all_of (λ b. n.persistent b && empty (users n b)) (n.postconditions e) (λ b t. go b t (n.persistent b) refl))
    where
      out : (k : ℕ) → T (mem k ((basic n).preconditions j)) → ⊥
      out k t = subst (λ (l : List ℕ). T (mem k l)) p t

      out₂ : (k : ℕ) → T (mem k ((basic n).postconditions j)) → ⊥
      out₂ k t = subst (λ (l : List ℕ). T (mem k l)) q t

      pre_at : (b : ℕ) → T (mem b (n.preconditions e)) → (t : Bool) → n.persistent b ≡ t → ⊥
      pre_at b t false x =
          let r = place_of (ordinary_in_lem n b (s.pre_in e b here t) x) in out r.0 (subst T (sym (takes_at n j r.0 (ordinary b) r.1)) t)
      pre_at b t true x =
          let y = colour_picks n (origin n j) (origin_in n j c) b (T_of (n.persistent b) x) t in
          let r = place_of (copy_in n b y.0 e (s.pre_in e b here t) x y.1 (event_uses n b e here t)) in
          out r.0 (subst T (sym (takes_at n j r.0 (copy b y.0 e) r.1)) (and_both (eqb e e) (picked (reads n e) (origin n j).colour b y.0) (eqb_refl e) y.2))

      no_pre : (b : ℕ) → T (mem b (n.preconditions e)) → ⊥
      no_pre b t = pre_at b t (n.persistent b) refl

      go : (b : ℕ) → T (mem b (n.postconditions e)) → (t : Bool) → n.persistent b ≡ t → T (t && empty (users n b))
      go b t false x =
          let r = place_of (ordinary_in_lem n b (s.post_in e b here t) x) in absurd (out₂ r.0 (subst T (sym (puts_at n j r.0 (ordinary b) r.1)) t))
      go b t true x = no_member (users n b) (λ u i.
          let r = place_of (copy_in n b (by_event e) u (s.post_in e b here t) x (event_marks n b e here t) (mem_in u (users n b) i)) in
          out₂ r.0 (subst T (sym (puts_at n j r.0 (copy b (by_event e) u) r.1))
          (or_right (takes n (origin n j) (copy b (by_event e) u)) (same_marker (by_event e) (by_event e) && mem b (n.postconditions e)) (and_both (eqb e e) (mem b (n.postconditions e)) (eqb_refl e) t))))

module _ (n : Net) (j : ℕ) (i : T (idle n (origin n j).event)) where
  abbrev f : ℕ
  f = (origin n j).event

  no_pre : (b : ℕ) → T (mem b (n.preconditions f)) → ⊥
  unfolding idle
  no_pre b t = subst (λ (l : List ℕ). T (mem b l)) (empty_nil (n.preconditions f) (and_left (empty (n.preconditions f)) (all (λ b. n.persistent b && empty (users n b)) (n.postconditions f)) i)) t

  only_unused : (b : ℕ) → T (mem b (n.postconditions f)) → T (n.persistent b && empty (users n b))
  unfolding idle
  only_unused b t =
      all_at (λ b. n.persistent b && empty (users n b)) (n.postconditions f) (and_right (empty (n.preconditions f)) (all (λ b. n.persistent b && empty (users n b)) (n.postconditions f)) i) b t

  no_takes : (p : UnfoldedCondition) → T (takes n (origin n j) p) → ⊥
  unfolding takes reads
  no_takes (ordinary b) t = no_pre b t
  no_takes (copy b m u) t =
      no_pre b (in_mem (keep_out n.persistent (n.preconditions f) (picked_in (reads n f) (origin n j).colour b m (and_right (eqb u f) (picked (reads n f) (origin n j).colour b m) t))).0)

  no_puts : (p : UnfoldedCondition) → p ∈ unfolded_conditions n → T (puts n (origin n j) p) → ⊥
  unfolding puts
  no_puts (ordinary b) h t = not-true (n.persistent b) (kind_of n (ordinary b) h) (and_left (n.persistent b) (empty (users n b)) (only_unused b t))
  no_puts (copy b m u) h t =
      or_cases (takes n (origin n j) (copy b m u)) (same_marker m (by_event f) && mem b (n.postconditions f)) t (no_takes (copy b m u))
      (λ t. Memᴰ.not-nil (subst (λ (l : List ℕ). u ∈ l)
      (empty_nil (users n b) (and_right (n.persistent b) (empty (users n b)) (only_unused b (and_right (same_marker m (by_event f)) (mem b (n.postconditions f)) t))))
      (pair_of n (copy b m u) h).1))

  -- an idle event touches nothing once unfolded
  pub idle_nothing : ((basic n).preconditions j ≡ []) × ((basic n).postconditions j ≡ [])
  idle_nothing = (
    empty_nil ((basic n).preconditions j) (no_member ((basic n).preconditions j) (λ k t. let r = in_pre n j k t in no_takes r.0 r.2)),
    empty_nil ((basic n).postconditions j)
        (no_member ((basic n).postconditions j) (λ k t. let r = in_post n j k t in no_puts r.0 (in_at (unfolded_conditions n) k r.1) r.2)),
  )

-- 13 speaks of exactly the events that touch nothing once unfolded.
pub idle_exactly : (n : Net) → Sound n → (j : ℕ) → T (ltb j (basic n).events) → (((basic n).preconditions j ≡ []) × ((basic n).postconditions j ≡ [])) ↔ T (idle n (origin n j).event)
idle_exactly n s j c = (λ h. touches_nothing n s j c h.0 h.1, idle_nothing n j)
