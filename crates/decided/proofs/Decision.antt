-- What is told from the table's marking and the events that have occurred is what stops the unfolded event at the unfolded marking, down
-- to the unfolded condition.
use mathlib.Core.Path.{◌≡◌, refl, sym, ◌∙◌, ap, ap₂, subst}
use mathlib.Core.Bool.{Bool, true, false, not, ◌&&◌, ◌||◌, cond, and-true}
use mathlib.Core.Option.{Option, none, some}
use mathlib.Core.List.Memᴰ
use mathlib.Core.List.{List, [], ◌∷◌, map}
use mathlib.Core.Logic.{inl, inr}
use Prim.Native.Nat.{ℕ, ◌≤◌, ◌<◌}
use native.Mathlib.Omega.{arith}
use lib.Dec.{T, eqb, ltb, eqb→eq, eqb_refl}
use lib.ListN.{get_elem?}
use Rattle.lists.specs.Lists.{mem, all, failing, keep, count, ◌∈◌}
use Rattle.lists.proofs.Bools.{T_of, is_true, is_false, not-true, and_left, and_right, and_both, or_right, or_cases}
use Rattle.lists.proofs.Tests.{all_at}
use Rattle.lists.proofs.Members.{in_mem, mem_in, keep_in, keep_out, mem_keep}
use Rattle.lists.proofs.Places.{in_at, places_ascend}
use Rattle.lists.proofs.Lowest.{led, Leads, failing_led, first_place}
use Rattle.model.specs.Net.{Net, Sound, Marking, lacking, free, contact, first_stop, stopping}
use Rattle.model.specs.Runs.{Marker, at_start, by_event, State}
use Rattle.model.specs.Unfolding.{same_marker, UnfoldedCondition, ordinary, copy, markers, users, unfolded_conditions, unfolded_events, reads, picked, takes, puts, origin, basic}
use Rattle.model.specs.Numbering.{condition_number}
use Rattle.model.proofs.Laws.{marked}
use Rattle.model.proofs.Unfolded.{Each, choices_each, same_marker_refl, same_marker_eq, kind_of, pair_of, colour_out, takes_at, puts_at, in_pre, in_post, free_ordinary, free_copy, origin_in}
use Rattle.model.proofs.Numbers.{condition_at_lem}
use Rattle.model.proofs.Counts.{condition_back}
use Rattle.model.proofs.Copies.{status, Copies}
use Rattle.decided.specs.Decided.{Picks, has_marked, ready, given_back, clear, stopped_by, lacked_condition, met_condition, unfolded_stop}
use Rattle.decided.proofs.Orders.{owner, user_below, in_order}
use Rattle.decided.proofs.Named.{neither, some_fails, not_clear, lacked_owner, left, met_owner, left_lowest, lacked_in, met_in}

-- ---- tests

-- what makes a test fail that is asked only where another passes
both_fail : (a c : Bool) → T a → c ≡ false → (not a || c) ≡ false
both_fail true c t q = q
both_fail false c t q = absurd t

and_between : (a m c : Bool) → (a && c) ≡ false → (a && (m && c)) ≡ false
and_between true true c q = q
and_between true false c q = refl
and_between false m c q = refl

-- ---- a colour laid out by condition

-- it picks for each of its conditions what is laid out there
pub picked_map : (pick : Picks) (bs : List ℕ) (b : ℕ) (k : Marker) → picked bs (map pick bs) b k ≡ (mem b bs && same_marker k (pick b))
picked_map pick [] b k = refl
picked_map pick (x ∷ bs) b k = go (eqb b x) refl (picked_map pick bs b k)
  where
    go : (t : Bool) → eqb b x ≡ t → picked bs (map pick bs) b k ≡ (mem b bs && same_marker k (pick b))
        → (t && same_marker k (pick x) || picked bs (map pick bs) b k) ≡ ((t || mem b bs) && same_marker k (pick b))
    go true q ih = rw (ih, eqb→eq b x (T_of (eqb b x) q)) (or_same (mem x bs) (same_marker k (pick x)))
      where
        or_same : (m a : Bool) → (a || m && a) ≡ a
        or_same m true = refl
        or_same true false = refl
        or_same false false = refl
    go false q ih = ih

-- each of its markers is one of its condition's
each_map : (n : Net) (pick : Picks) (bs : List ℕ) → Each (map pick bs) (map (markers n) bs) → (b : ℕ) → b ∈ bs → pick b ∈ markers n b
each_map n pick [] h b i = absurd (in_mem i)
each_map n pick (x ∷ bs) h b i = elim (Memᴰ.cases_cons i) [ inl e ↦ rw e h.0 | inr j ↦ each_map n pick bs h.1 b j ]

-- what marks a condition has it as postcondition
event_puts : (n : Net) (b e : ℕ) → by_event e ∈ markers n b → T (mem b (n.postconditions e))
unfolding markers
event_puts n b e i = elim (Memᴰ.cases_cons i) [
  | inl q ↦ absurd (let z : ◌≡◌ {A = ℕ} 0 1 = cc in omega arith)
  | inr j ↦
      let r = Memᴰ.of_map by_event (keep (λ e. mem b (n.postconditions e)) (count 0 n.events)) j in
      let z : r.0 ≡ e = cc r.2 in
      subst (λ (x : ℕ). T (mem b (n.postconditions x))) z (keep_out (λ e. mem b (n.postconditions e)) (count 0 n.events) r.1).1
]

-- a user of a condition has it as precondition
pub user_reads : (n : Net) (b e : ℕ) → e ∈ users n b → T (mem b (n.preconditions e))
unfolding users
user_reads n b e i = (keep_out (λ e. mem b (n.preconditions e)) (count 0 n.events) i).1

-- for a marker of a condition, to have marked it is to have occurred
marked_is : (n : Net) (s : State) (k : Marker) (b : ℕ) → k ∈ markers n b → marked n s k b ≡ has_marked n s.seen k b
unfolding marked
marked_is n s at_start b i = refl
marked_is n s (by_event e) b i = rw (is_true (mem b (n.postconditions e)) (event_puts n b e i)) (and-true (s.seen e))

-- ---- the two tests of an unfolded event

module _ (n : Net) (d : Sound n) (s : State) (u : Marking) (i : Copies n s u) (j : ℕ) (l : T (ltb j (basic n).events)) (pick : Picks)
    (h : (origin n j).colour ≡ map pick (reads n (origin n j).event)) where
  -- the table's event
  abbrev e : ℕ
  e = (origin n j).event

  within : origin n j ∈ unfolded_events n
  within = origin_in n j l

  here : e < n.events
  here = (colour_out n (origin n j) within).0

  -- what is picked for a persistent precondition is one of its markers
  marks : (b : ℕ) → T (mem b (n.preconditions e)) → n.persistent b ≡ true → pick b ∈ markers n b
  unfolding reads
  marks b t p =
      let c = choices_each (map (markers n) (reads n e)) (origin n j).colour (colour_out n (origin n j) within).1 in
      each_map n pick (reads n e) (rw h at c) b (keep_in n.persistent (mem_in b (n.preconditions e) t) (T_of (n.persistent b) p))

  -- what it takes of the copies
  takes_copy : (b : ℕ) (k : Marker) (v : ℕ) → takes n (origin n j) (copy b k v) ≡ (eqb v e && (mem b (reads n e) && same_marker k (pick b)))
  unfolding takes
  takes_copy b k v = ap (λ (t : Bool). eqb v e && t) (ap (λ (c : List Marker). picked (reads n e) c b k) h ∙ picked_map pick (reads n e) b k)

  reads_both : (b : ℕ) → mem b (reads n e) ≡ (mem b (n.preconditions e) && n.persistent b)
  unfolding reads
  reads_both b = mem_keep n.persistent b (n.preconditions e)

  -- the copy of a picked marker is taken
  takes_picked : (b : ℕ) → T (mem b (n.preconditions e)) → n.persistent b ≡ true → T (takes n (origin n j) (copy b (pick b) e))
  takes_picked b t p =
      subst T (sym (takes_copy b (pick b) e))
      (and_both (eqb e e) (mem b (reads n e) && same_marker (pick b) (pick b)) (eqb_refl e)
      (and_both (mem b (reads n e)) (same_marker (pick b) (pick b))
      (subst T (sym (reads_both b)) (and_both (mem b (n.preconditions e)) (n.persistent b) t (T_of (n.persistent b) p))) (same_marker_refl (pick b))))

  -- ---- preconditions

  abbrev holds : ℕ → Bool
  holds b = ready n s.marking s.seen pick b

  abbrev lacked : ℕ → UnfoldedCondition
  lacked b = lacked_condition n pick e b

  -- what is taken for a precondition holds exactly if the precondition is ready
  record Takes (b : ℕ) (p : UnfoldedCondition) : Type 0 where
    taken : T (takes n (origin n j) p)
    same : status n s p ≡ holds b

  lacked_takes : (b : ℕ) → T (mem b (n.preconditions e)) → Takes b (lacked b)
  unfolding takes status
  lacked_takes b t = go (n.persistent b) refl
    where
      go : (x : Bool) → n.persistent b ≡ x → Takes b (cond x (copy b (pick b) e) (ordinary b))
      go false p = record { taken = t; same = rw p }
      go true p = record { taken = takes_picked b t p; same = rw p (marked_is n s (pick b) b (marks b t p)) }

  lacked_there : (b : ℕ) → T (mem b (n.preconditions e)) → lacked b ∈ unfolded_conditions n
  lacked_there b t = lacked_in n pick e b d here t (marks b t)

  -- whatever is taken is taken for a precondition
  taken_for : (p : UnfoldedCondition) → p ∈ unfolded_conditions n → T (takes n (origin n j) p) → (b : ℕ) × T (mem b (n.preconditions e)) × (lacked b ≡ p)
  unfolding takes
  taken_for (ordinary b) i q = (b, q, rw (kind_of n (ordinary b) i))
  taken_for (copy b y v) i q =
      let p : n.persistent b ≡ true = kind_of n (copy b y v) i in
      let all = subst T (takes_copy b y v) q in
      let both = and_right (eqb v e) (mem b (reads n e) && same_marker y (pick b)) all in
      let t = and_left (mem b (n.preconditions e)) (n.persistent b) (subst T (reads_both b) (and_left (mem b (reads n e)) (same_marker y (pick b)) both)) in
      let user : v ≡ e = eqb→eq v e (and_left (eqb v e) (mem b (reads n e) && same_marker y (pick b)) all) in
      let same : y ≡ pick b = same_marker_eq y (pick b) (and_right (mem b (reads n e)) (same_marker y (pick b)) both) in
      (b, t, rw (p, user, same))

  lacking_leads : Leads holds (n.preconditions e) u ((basic n).preconditions j) (λ b. condition_number n (lacked b))
  lacking_leads =
      record {
        inside = λ b t q. subst T (sym (takes_at n j (condition_number n (lacked b)) (lacked b) (condition_at_lem n (lacked b) (lacked_there b t)))) (lacked_takes b t).taken;
        fails = λ b t q. i.holding (condition_number n (lacked b)) (lacked b) (condition_at_lem n (lacked b) (lacked_there b t)) ∙ (lacked_takes b t).same ∙ q;
        back = λ c t q.
            let r = in_pre n j c t in
            let p = r.0 in
            let there = in_at (unfolded_conditions n) c r.1 in
            let w = taken_for p there r.2 in
            let b = w.0 in
            let number = condition_back n c p r.1 in (
              b,
              w.1,
              sym (lacked_takes b w.1).same ∙ ap (status n s) w.2 ∙ sym (i.holding c p r.1) ∙ q,
              λ x l y z. subst (λ (k : ℕ). condition_number n (lacked x) ≤ k) number
                  (in_order n lacked (lacked_owner n pick e) b p there (ap owner (sym w.2) ∙ lacked_owner n pick e b) (omega (arith, ap (condition_number n) w.2)) x l (lacked_there x y)),
            );
      }

  pub lacking_is : lacking (basic n) u j ≡ led (λ b. condition_number n (lacked b)) (failing holds (n.preconditions e))
  unfolding lacking basic
  lacking_is =
      failing_led holds (n.preconditions e) u ((basic n).preconditions j) (λ b. condition_number n (lacked b)) (d.pre_ascends_lem e here)
      (places_ascend (takes n (origin n j)) (unfolded_conditions n)) lacking_leads

  -- ---- postconditions

  abbrev opens : ℕ → Bool
  opens b = clear n s.marking s.seen pick e b

  abbrev given : ℕ → ℕ → Bool
  given b v = given_back pick e b v

  abbrev met : ℕ → UnfoldedCondition
  met b = met_condition n pick e b

  -- what stands for an ordinary condition is excused as that is, and a copy that is taken
  abbrev excuses : UnfoldedCondition → Bool
  excuses (ordinary b) = free n e b
  excuses (copy b y v) = takes n (origin n j) (copy b y v)

  -- an unfolded condition in contact is put, holds and is not excused
  record Contact (p : UnfoldedCondition) : Type 0 where
    inside : p ∈ unfolded_conditions n
    put : T (puts n (origin n j) p)
    held : T (status n s p)
    kept : excuses p ≡ false

  test_is : (k : ℕ) (p : UnfoldedCondition) → get_elem? (unfolded_conditions n) k ≡ some p → (not (u k) || free (basic n) j k) ≡ (not (status n s p) || excuses p)
  test_is k (ordinary b) a =
      ap₂ {C = Bool} (λ x y. not x || y) (i.holding k (ordinary b) a) (free_ordinary n j k b a (kind_of n (ordinary b) (in_at (unfolded_conditions n) k a)))
  test_is k (copy b y v) a =
      ap₂ {C = Bool} (λ x z. not x || z) (i.holding k (copy b y v) a) (free_copy n j k b y v a ∙ takes_at n j k (copy b y v) a)

  -- a postcondition that is not clear leads to one
  met_contact : (b : ℕ) → T (mem b (n.postconditions e)) → opens b ≡ false → Contact (met b)
  unfolding takes puts status marked
  met_contact b t q = go (n.persistent b) refl there q
    where
      there : met b ∈ unfolded_conditions n
      there = met_in n pick e b d here t (not_clear n pick e b s.marking s.seen q)

      copied : copy b (by_event e) (left n pick e b) ∈ unfolded_conditions n → T (s.seen e) → all (given b) (users n b) ≡ false → Contact (copy b (by_event e) (left n pick e b))
      copied i z a =
          record {
            inside = i;
            put = or_right (takes n (origin n j) (copy b (by_event e) (left n pick e b))) (eqb e e && mem b (n.postconditions e)) (and_both (eqb e e) (mem b (n.postconditions e)) (eqb_refl e) t);
            held = and_both (s.seen e) (mem b (n.postconditions e)) z t;
            kept =
                takes_copy b (by_event e) (left n pick e b)
                ∙ and_between (eqb (left n pick e b) e) (mem b (reads n e)) (same_marker (by_event e) (pick b)) (left_lowest n pick e b a).fails;
          }

      go : (x : Bool) → n.persistent b ≡ x → cond x (copy b (by_event e) (left n pick e b)) (ordinary b) ∈ unfolded_conditions n
          → cond x (not (s.seen e) || all (given b) (users n b)) (not (s.marking b) || free n e b) ≡ false
          → Contact (cond x (copy b (by_event e) (left n pick e b)) (ordinary b))
      go false p i q = let r = neither (s.marking b) (free n e b) q in record { inside = i; put = t; held = r.0; kept = r.1 }
      go true p i q = let r = neither (s.seen e) (all (given b) (users n b)) q in copied i r.0 r.1

  -- whatever is in contact comes of a postcondition that is not clear, which leads no further
  contact_for : (p : UnfoldedCondition) → Contact p
      → (b : ℕ) × T (mem b (n.postconditions e)) × (opens b ≡ false) × (owner p ≡ b) × (condition_number n (met b) ≤ condition_number n p)
  unfolding takes puts status marked
  contact_for (ordinary b) c =
      let p : n.persistent b ≡ false = kind_of n (ordinary b) c.inside in
      (b, c.put, rw p (both_fail (s.marking b) (free n e b) c.held c.kept), refl, rw p (omega arith))
  contact_for (copy b y v) c =
      let p : n.persistent b ≡ true = kind_of n (copy b y v) c.inside in
      let user = (pair_of n (copy b y v) c.inside).1 in
      let w = or_cases (takes n (origin n j) (copy b y v)) (same_marker y (by_event e) && mem b (n.postconditions e)) c.put
      (λ x. absurd (not-true (takes n (origin n j) (copy b y v)) c.kept x)) (λ x. x) in
      let same : y ≡ by_event e = same_marker_eq y (by_event e) (and_left (same_marker y (by_event e)) (mem b (n.postconditions e)) w) in
      let put = and_right (same_marker y (by_event e)) (mem b (n.postconditions e)) w in
      let seen : T (s.seen e && mem b (n.postconditions e)) = subst (λ (q : Marker). T (marked n s q b)) same c.held in
      let stays = is_false (given b v) (λ g.
      let own : v ≡ e = eqb→eq v e (and_left (eqb v e) (same_marker (by_event e) (pick b)) g) in
      let picks = same_marker_eq (by_event e) (pick b) (and_right (eqb v e) (same_marker (by_event e) (pick b)) g) in
      let reading = user_reads n b e (subst (λ (x : ℕ). x ∈ users n b) own user) in
      not-true (takes n (origin n j) (copy b y v)) c.kept
      (subst (λ (x : ℕ). T (takes n (origin n j) (copy b y x))) (sym own)
      (subst (λ (x : Marker). T (takes n (origin n j) (copy b x e))) (sym (same ∙ picks)) (takes_picked b reading p)))) in
      let some = is_false (all (given b) (users n b)) (λ a. not-true (given b v) stays (all_at (given b) (users n b) a v (in_mem user))) in
      let shut : opens b ≡ false = rw p (both_fail (s.seen e) (all (given b) (users n b)) (and_left (s.seen e) (mem b (n.postconditions e)) seen) some) in
      let mine : copy b (by_event e) (left n pick e b) ∈ unfolded_conditions n = rw p at (met_contact b put shut).inside in
      let yours : copy b (by_event e) v ∈ unfolded_conditions n = subst (λ (x : Marker). copy b x v ∈ unfolded_conditions n) same c.inside in (
        b,
        put,
        shut,
        refl,
        rw (p, same) (user_below n b (by_event e) (left n pick e b) v mine yours
            (first_place (given b) (users n b) (left n pick e b) v (some_fails (given b) (users n b) some) (in_mem user) stays)),
      )

  contact_leads : Leads opens (n.postconditions e) (λ k. not (u k) || free (basic n) j k) ((basic n).postconditions j) (λ b. condition_number n (met b))
  contact_leads =
      record {
        inside = λ b t q. let c = met_contact b t q in subst T (sym (puts_at n j (condition_number n (met b)) (met b) (condition_at_lem n (met b) c.inside))) c.put;
        fails = λ b t q.
            let c = met_contact b t q in
            test_is (condition_number n (met b)) (met b) (condition_at_lem n (met b) c.inside) ∙ both_fail (status n s (met b)) (excuses (met b)) c.held c.kept;
        back = λ k t q.
            let r = in_post n j k t in
            let p = r.0 in
            let z = neither (status n s p) (excuses p) (sym (test_is k p r.1) ∙ q) in
            let there = in_at (unfolded_conditions n) k r.1 in
            let w = contact_for p (record { inside = there; put = r.2; held = z.0; kept = z.1 }) in (
              w.0,
              w.1,
              w.2,
              λ x l y f. subst (λ (c : ℕ). condition_number n (met x) ≤ c) (condition_back n k p r.1)
                  (in_order n met (met_owner n pick e) w.0 p there w.3 w.4 x l (met_contact x y f).inside),
            );
      }

  pub contact_is : contact (basic n) u j ≡ led (λ b. condition_number n (met b)) (failing opens (n.postconditions e))
  unfolding contact basic
  contact_is =
      failing_led opens (n.postconditions e) (λ k. not (u k) || free (basic n) j k) ((basic n).postconditions j) (λ b. condition_number n (met b)) (d.post_ascends_lem e here)
      (places_ascend (puts n (origin n j)) (unfolded_conditions n)) contact_leads

-- ---- both together

stop_led : (n : Net) (pick : Picks) (e : ℕ) (a c : Option ℕ)
    → first_stop true (led (λ b. condition_number n (lacked_condition n pick e b)) a) (led (λ b. condition_number n (met_condition n pick e b)) c) ≡ unfolded_stop n pick e (first_stop true a c)
stop_led n pick e none none = refl
stop_led n pick e none (some b) = refl
stop_led n pick e (some b) c = refl

-- What stops an unfolded event at an unfolded marking is what is told without it, down to the condition.
pub decided : (n : Net) → Sound n → (s : State) (u : Marking) → Copies n s u → (j : ℕ) → T (ltb j (basic n).events) → (pick : Picks)
    → (origin n j).colour ≡ map pick (reads n (origin n j).event)
    → stopping (basic n) u j ≡ unfolded_stop n pick (origin n j).event (stopped_by n s.marking s.seen pick (origin n j).event)
unfolding stopping stopped_by
decided n d s u i j l pick h =
    rw (is_true (ltb j (basic n).events) l, lacking_is n d s u i j l pick h, contact_is n d s u i j l pick h)
    (stop_led n pick (origin n j).event (failing (ready n s.marking s.seen pick) (n.preconditions (origin n j).event))
    (failing (clear n s.marking s.seen pick (origin n j).event) (n.postconditions (origin n j).event)))
