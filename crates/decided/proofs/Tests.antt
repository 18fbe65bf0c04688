-- The tests over kept numbers are the model's tests, and what they find is what stops the step.
use Prim.Native.Nat.{ℕ, zero, suc, ◌<◌}
use native.Mathlib.Omega.{arith}
use mathlib.Core.Path.{◌≡◌, refl, sym, ap, ◌∙◌, subst}
use mathlib.Core.List.{List, [], ◌∷◌}
use mathlib.Core.Bool.{Bool, true, false, not, ◌&&◌, ◌||◌, cond, and-true}
use mathlib.Core.Option.{Option, none, some}
use lib.Dec.{T, eqb, eqb→eq, eqb_refl}
use lib.ListN.{length, get_or}
use borrow.Author.Tests.{ne_eqb}
use Rattle.lists.specs.Lists.{mem, all, failing}
use Rattle.lists.proofs.Bools.{iff, is_false, and_left, and_right, or_left, or_right}
use Rattle.lists.proofs.Members.{mem_in, in_mem}
use Rattle.lists.proofs.Distinct.{Distinct}
use Rattle.words.specs.Words.{words}
use Rattle.records.specs.Records.{old_rule, pre_part, post_part}
use Rattle.refusal.specs.declared.TableCondition.{TableCondition}
use Rattle.model.specs.Net.{Net, begin, free, first_stop}
use Rattle.model.specs.Runs.{Marker, by_event}
use Rattle.model.specs.Unfolding.{same_marker, users}
use Rattle.model.specs.Lent.{marking}
use Rattle.model.proofs.Firing.{free_taken, free_never}
use Rattle.model.proofs.Lent.{begun_marking}
use Rattle.model.proofs.Unfolded.{event_uses}
use Rattle.model.proofs.Counts.{distinct_users}
use Rattle.table.specs.Decoded.{net_of}
use Rattle.tally.specs.Having.{Listed}
use Rattle.table.proofs.Ruled.{rule_read}
use Rattle.table.proofs.InOrder.{judged}
use Rattle.tally.proofs.Events.{within_limits, list_read, list_ascends, list_inside}
use Rattle.std.specs.Prelude.{Err, None, Some}
use Rattle.stopping.specs.Causes.{goes}
use Rattle.stopping.specs.declared.Cause.TheVariants.{Lacks, Meets}
use Rattle.step.specs.Steps.{Failing, failing_of}
use Rattle.stopping.specs.Table.{step_of}
use Rattle.decided.specs.Decided.{has_marked, ready, clear, stopped_by}
use Rattle.decided.specs.Kept.{marker_at, kept_marker, ready_at, back_at, excused, clear_at, Deciding}
use Rattle.decided.proofs.Decision.{user_reads}

-- a byte that is read tells what holds
pub byte_tells : (l : List ℕ) (i x : ℕ) → x ≡ get_or l i 0 → eqb x 1 ≡ marking l i
unfolding marking
byte_tells l i x e = ap (λ (y : ℕ). eqb y 1) e

-- tests that agree on the members of a list find the same
failing_same : (f g : ℕ → Bool) (l : List ℕ) → ((b : ℕ) → T (mem b l) → f b ≡ g b) → failing f l ≡ failing g l
failing_same f g [] h = refl
failing_same f g (x ∷ l) h =
    rw (h x (or_left (eqb x x) (mem x l) (eqb_refl x)), failing_same f g l (λ b t. h b (or_right (eqb b x) (mem b l) t)))

-- of a list in which nothing stands twice every member is e if there is none, or e alone
own_alone : (e : ℕ) (p : Bool) (us : List ℕ) → Distinct us
    → all (λ u. eqb u e && p) us ≡ cond (eqb (length us) 0) true (cond (eqb (length us) 1) (mem e us && p) false)
own_alone e p [] d = refl
own_alone e p (x ∷ []) d = go (eqb x e) (eqb e x) (eqb_swap x e)
  where
    eqb_swap : (a c : ℕ) → eqb a c ≡ eqb c a
    eqb_swap a c = iff (eqb a c) (eqb c a) (λ t. rw (eqb→eq a c t) (eqb_refl c)) (λ t. rw (eqb→eq c a t) (eqb_refl a))

    go : (a c : Bool) → a ≡ c → ((a && p) && true) ≡ ((c || false) && p)
    go true true q = and-true p
    go true false q = absurd (subst T q tt)
    go false true q = absurd (subst T (sym q) tt)
    go false false q = refl
own_alone e p (x ∷ y ∷ us) d =
    rw (ne_eqb (suc (suc (length us))) 0 (λ z. omega arith), ne_eqb (suc (suc (length us))) 1 (λ z. omega arith))
    (is_false ((eqb x e && p) && ((eqb y e && p) && all (λ u. eqb u e && p) us)) (λ t.
    let a = eqb→eq x e (and_left (eqb x e) p (and_left (eqb x e && p) ((eqb y e && p) && all (λ u. eqb u e && p) us) t)) in
    let c = eqb→eq y e (and_left (eqb y e) p (and_left (eqb y e && p) (all (λ u. eqb u e && p) us) (and_right (eqb x e && p) ((eqb y e && p) && all (λ u. eqb u e && p) us) t))) in
    let z : ◌≡◌ {A = ℕ} 0 1 = d x 0 1 refl (ap some (c ∙ sym a)) in
    omega arith))

-- a marker that is kept is e exactly if it is no start and its event is e
pub own_kept : (e p k : ℕ) → same_marker (by_event e) (kept_marker p k) ≡ (not (eqb p 0) && eqb e k)
own_kept e zero k = refl
own_kept e (suc p) k = rw (ne_eqb (suc p) 0 (λ z. omega arith)) refl

-- a kept marker has marked its condition
kept_marked : (n : Net) (seen : ℕ → Bool) (b p k : ℕ) (t : Bool) → t ≡ mem b n.start → cond (eqb p 0) t (seen k) ≡ has_marked n seen (kept_marker p k) b
kept_marked n seen b zero k t e = e
kept_marked n seen b (suc p) k t e = rw (ne_eqb (suc p) 0 (λ z. omega arith)) refl

-- the preconditions of the event, where they are read from its record
module _ (s us : List ℕ) (at e : ℕ) (begun places kept : List ℕ) (d : Deciding s us at e begun places kept) (pre : List ℕ) (p : pre ≡ pre_part s at) where
  pre_known : words pre ≡ (net_of s).preconditions e
  pre_known = rw (p, d.offset) (list_read s e d.event false)

  pub pre_listed : Listed pre
  pre_listed =
      record {
        ascends = rw pre_known (list_ascends s e d.event false);
        inside = λ b t. list_inside s e d.event false b (rw pre_known at t);
      }

module _ (s us : List ℕ) (at e : ℕ) (begun places kept : List ℕ) (d : Deciding s us at e begun places kept) (state seen : List ℕ) where
  abbrev n : Net
  n = net_of s

  begun_is : (b : ℕ) → marking begun b ≡ mem b n.start
  unfolding begin
  begun_is b =
      let limits = within_limits s e d.event in
      ap (λ (l : List ℕ). marking l b) d.start
      ∙ ap (λ (m : ℕ → Bool). m b) (begun_marking n limits.sound 256 limits.few_conditions)

  ready_same : (b : ℕ) → b < 256 → ready_at s state begun seen places kept b ≡ ready n (marking state) (marking seen) (marker_at n places) b
  ready_same b h =
      rw (d.flags b) (ap (λ (t : Bool). cond (n.persistent b) t (marking state b))
      (kept_marked n (marking seen) b (get_or places b 0) (get_or kept b 0) (marking begun b) (begun_is b) ∙ ap (λ (k : Marker). has_marked n (marking seen) k b) (sym (d.held.each b h))))

  uses_at : (b : ℕ) → b < 256 → get_or us b 0 ≡ length (users n b)
  unfolding users
  uses_at b h = d.uses.at b h ∙ omega arith

  uses_here : (b : ℕ) → mem e (users n b) ≡ mem b (n.preconditions e)
  uses_here b =
      iff (mem e (users n b)) (mem b (n.preconditions e)) (λ t. user_reads n b e (mem_in e (users n b) t)) (λ t. in_mem (event_uses n b e d.event t))

  abbrev own : ℕ → Bool
  own b = same_marker (by_event e) (marker_at n places b)

  back_same : (b : ℕ) → b < 256 → (pre : List ℕ) → pre ≡ n.preconditions e → back_at us pre e places kept b ≡ all (λ u. eqb u e && own b) (users n b)
  back_same b h pre q =
      let k : own b ≡ (not (eqb (get_or places b 0) 0) && eqb e (get_or kept b 0)) = ap (same_marker (by_event e)) (d.held.each b h) ∙ own_kept e (get_or places b 0) (get_or kept b 0) in
      rw (uses_at b h, q, ← uses_here b, ← k) (sym (own_alone e (own b) (users n b) (distinct_users n b)))

  clear_same : (b : ℕ) → b < 256 → (pre : List ℕ) → pre ≡ n.preconditions e
      → clear_at s us pre e (marking seen e) state places kept b ≡ clear n (marking state) (marking seen) (marker_at n places) e b
  clear_same b h pre q = rw (d.flags b) (go (n.persistent b) refl)
    where
      rule : n.old b ≡ old_rule s
      rule = rule_read s n.events (judged s e d.event) b

      -- an ordinary condition is excused exactly if it is free
      frees : n.persistent b ≡ false → (t : Bool) → old_rule s ≡ t → mem b (cond t [] pre) ≡ free n e b
      frees p true t = sym (free_never n e b (rule ∙ t) ∙ p)
      frees p false t = ap (mem b) q ∙ sym (free_taken n e b (rule ∙ t) ∙ ap (λ (x : Bool). x || mem b (n.preconditions e)) p)

      go : (t : Bool) → n.persistent b ≡ t
          → cond t (not (marking seen e) || back_at us pre e places kept b) (not (marking state b) || mem b (excused s pre))
          ≡ cond t (not (marking seen e) || all (λ u. eqb u e && own b) (users n b)) (not (marking state b) || free n e b)
      go true p = ap (λ (x : Bool). not (marking seen e) || x) (back_same b h pre q)
      go false p = ap (λ (x : Bool). not (marking state b) || x) (frees p (old_rule s) refl)

  -- ---- what the two walks find

  module _ (pre post : List ℕ) (is_pre : pre ≡ pre_part s at) (is_post : post ≡ post_part s at) (again : Bool) (is_again : again ≡ marking seen e) where
    pre_is : words pre ≡ n.preconditions e
    pre_is = rw (is_pre, d.offset) (list_read s e d.event false)

    post_is : words post ≡ n.postconditions e
    post_is = rw (is_post, d.offset) (list_read s e d.event true)

    abbrev low : Option ℕ
    low = failing (ready_at s state begun seen places kept) (words pre)

    abbrev high : Option ℕ
    high = failing (clear_at s us (words pre) e again state places kept) (words post)

    lacks_is : low ≡ failing (ready n (marking state) (marking seen) (marker_at n places)) (n.preconditions e)
    lacks_is =
        ap (failing (ready_at s state begun seen places kept)) pre_is
        ∙ failing_same (ready_at s state begun seen places kept) (ready n (marking state) (marking seen) (marker_at n places)) (n.preconditions e) (λ b t. ready_same b (list_inside s e d.event false b t))

    meets_is : high ≡ failing (clear n (marking state) (marking seen) (marker_at n places) e) (n.postconditions e)
    meets_is =
        ap (λ (t : Bool). failing (clear_at s us (words pre) e t state places kept) (words post)) is_again
        ∙ ap (failing (clear_at s us (words pre) e (marking seen e) state places kept)) post_is
        ∙ failing_same (clear_at s us (words pre) e (marking seen e) state places kept) (clear n (marking state) (marking seen) (marker_at n places) e) (n.postconditions e)
        (λ b t. clear_same b (list_inside s e d.event true b t) (words pre) pre_is)

    stops : step_of (first_stop true low high) ≡ step_of (stopped_by n (marking state) (marking seen) (marker_at n places) e)
    unfolding stopped_by
    stops = rw (lacks_is, meets_is)

    module _ (x : Failing) (is_x : x ≡ failing_of low) where
      pub found_lacks : (b : TableCondition) → x ≡ Some b → Err (Lacks b) ≡ step_of (stopped_by n (marking state) (marking seen) (marker_at n places) e)
      found_lacks b q = go low (sym is_x ∙ q) ∙ stops
        where
          go : (o : Option ℕ) → failing_of o ≡ Some b → Err (Lacks b) ≡ step_of (first_stop true o high)
          go none q = absurd (let z : ◌≡◌ {A = ℕ} 0 1 = cc in omega arith)
          go (some y) q = let z : record { 0 = y } ≡ b = cc in ap (λ (y : TableCondition). Err (Lacks y)) (sym z)

      module _ (none-lacks : x ≡ None) (y : Failing) (is_y : y ≡ failing_of high) where
        pub found_meets : (b : TableCondition) → y ≡ Some b → Err (Meets b) ≡ step_of (stopped_by n (marking state) (marking seen) (marker_at n places) e)
        found_meets b q = go low high (sym is_x ∙ none-lacks) (sym is_y ∙ q) ∙ stops
          where
            go : (o p : Option ℕ) → failing_of o ≡ None → failing_of p ≡ Some b → Err (Meets b) ≡ step_of (first_stop true o p)
            go none none d q = absurd (let z : ◌≡◌ {A = ℕ} 0 1 = cc in omega arith)
            go none (some y) d q = let z : record { 0 = y } ≡ b = cc in ap (λ (y : TableCondition). Err (Meets y)) (sym z)
            go (some y) p d q = absurd (let z : ◌≡◌ {A = ℕ} 0 1 = cc in omega arith)

        pub found_nothing : y ≡ None → goes ≡ step_of (stopped_by n (marking state) (marking seen) (marker_at n places) e)
        found_nothing q = go low high (sym is_x ∙ none-lacks) (sym is_y ∙ q) ∙ stops
          where
            go : (o p : Option ℕ) → failing_of o ≡ None → failing_of p ≡ None → goes ≡ step_of (first_stop true o p)
            go none none d q = refl
            go none (some y) d q = absurd (let z : ◌≡◌ {A = ℕ} 0 1 = cc in omega arith)
            go (some y) p d q = absurd (let z : ◌≡◌ {A = ℕ} 0 1 = cc in omega arith)
