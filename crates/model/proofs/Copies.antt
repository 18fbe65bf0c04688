-- The one invariant of every run of the unfolded net: an ordinary condition holds as in the table's marking, a copy
-- holds exactly if its marker has marked its condition.
use mathlib.Core.Path.{◌≡◌, refl, sym, ◌∙◌, ap, subst, fun_ext}
use mathlib.Core.Bool.{Bool, true, false, not, ◌&&◌, ◌||◌, cond, and-true}
use mathlib.Core.Option.{Option, none, some}
use mathlib.Core.List.{List, [], ◌∷◌}
use Prim.Native.Nat.{ℕ}
use lib.Dec.{T, eqb, eqb→eq, eqb_refl, ltb→lt}
use lib.ListN.{get_elem?}
use Rattle.lists.specs.Lists.{mem, ◌∈◌}
use Rattle.lists.proofs.Bools.{is_true, T_of, not-true, and_left, and_right, and_both, or_left, or_right, or_cases, or_none}
use Rattle.lists.proofs.Places.{place_of, in_at, hit, mem_places}
use Rattle.model.specs.Net.{Net, Marking, begin, can, fire}
use Rattle.model.specs.Runs.{runs, end, Marker, at_start, by_event, State, or_else, opening, step, after}
use Rattle.model.specs.Unfolding.{same_marker, UnfoldedCondition, ordinary, copy, markers, unfolded_conditions, takes, puts, begins, origin, basic}
use Rattle.model.specs.Demands.{Correspond, holds_after}
use Rattle.model.proofs.Firing.{runs_first, runs_rest, can_event, can_concession, pre_holds, fire_stays, fire_puts, fire_none}
use Rattle.model.proofs.Unfolded.{start_marks, event_marks, copy_in, kind_of, takes_at, puts_at, begins_at}
use Rattle.model.proofs.Laws.{marked, First, Reached}

-- ---- a state that a run has reached

pub reached_opening : (n : Net) → Reached n (opening n)
unfolding opening begin marked
reached_opening n = record { first = one; held = held; seen = λ e t. absurd t }
  where
    one : (b : ℕ) → n.persistent b ≡ true → First n (opening n) b ((opening n).first b)
    one b p = rw p (go (mem b n.start) refl)
      where
        go : (x : Bool) → mem b n.start ≡ x → First n (opening n) b (cond x (some at_start) none)
        go true q = (T_of (mem b n.start) q, T_of (mem b n.start) q)
        go false q = q

    held : (b : ℕ) → n.persistent b ≡ true → (k : Marker) → T (marked n (opening n) k b) → T (begin n b)
    held b p at_start t = t
    held b p (by_event e) t = absurd t

absorb : (a c : Bool) → a ≡ (a || c && a)
absorb true c = refl
absorb false true = refl
absorb false false = refl

-- a marker has marked a condition after the step: before it, or it is this event
abbrev pub fresh : Net → ℕ → Marker → ℕ → Bool
fresh n e q b = same_marker q (by_event e) && mem b (n.postconditions e)

pub marked_step : (n : Net) (s : State) (e : ℕ) (q : Marker) (b : ℕ) → marked n (step n s e) q b ≡ (fresh n e q b || marked n s q b)
unfolding marked step
marked_step n s e at_start b = refl
marked_step n s e (by_event x) b = go (eqb x e) refl
  where
    go : (y : Bool) → eqb x e ≡ y → (y || s.seen x) && mem b (n.postconditions x) ≡ (y && mem b (n.postconditions e) || s.seen x && mem b (n.postconditions x))
    go true q = rw (eqb→eq x e (T_of (eqb x e) q)) (absorb (mem b (n.postconditions e)) (s.seen e))
    go false q = refl

pub reached_step : (n : Net) (s : State) → Reached n s → (e : ℕ) → T (can n s.marking e) → Reached n (step n s e)
unfolding step
reached_step n s i e c =
    record {
      first = one;
      held = λ b p k t. or_cases (fresh n e k b) (marked n s k b) (subst T (marked_step n s e k b) t)
          (λ t. fire_puts n s.marking e b (and_right (same_marker k (by_event e)) (mem b (n.postconditions e)) t))
          (λ t. fire_stays n s.marking e b p (i.held b p k t));
      seen = λ x t. or_cases (eqb x e) (s.seen x) t (λ q. rw (eqb→eq x e q) (ltb→lt e n.events (can_event n s.marking e c))) (i.seen x);
    }
  where
    new : (b : ℕ) (x : Bool) → mem b (n.postconditions e) ≡ x → s.marking b ≡ false → First n (step n s e) b (cond x (some (by_event e)) none)
    new b true y q =
        let t = T_of (mem b (n.postconditions e)) y in (
          fire_puts n s.marking e b t,
          subst T (sym (marked_step n s e (by_event e) b))
              (or_left (fresh n e (by_event e) b) (marked n s (by_event e) b) (and_both (eqb e e) (mem b (n.postconditions e)) (eqb_refl e) t)),
        )
    new b false y q = fire_none n s.marking e b y q

    go : (b : ℕ) → n.persistent b ≡ true → (x : Option Marker) → First n s b x → First n (step n s e) b (or_else x (cond (mem b (n.postconditions e)) (some (by_event e)) none))
    go b p none q = new b (mem b (n.postconditions e)) refl q
    go b p (some k) q =
        (fire_stays n s.marking e b p q.0, subst T (sym (marked_step n s e k b)) (or_right (fresh n e k b) (marked n s k b) q.1))

    one : (b : ℕ) → n.persistent b ≡ true → First n (step n s e) b ((step n s e).first b)
    one b p = rw p (go b p (s.first b) (i.first b p))

pub reached_run : (n : Net) (s : State) → Reached n s → (r : List ℕ) → T (runs n s.marking r) → Reached n (after n s r)
unfolding after step
reached_run n s i [] t = i
reached_run n s i (e ∷ r) t = reached_run n (step n s e) (reached_step n s i e (runs_first n s.marking e r t)) r (runs_rest n s.marking e r t)

-- the marker of a condition that holds
pub marker_of_lem : (n : Net) (s : State) → Reached n s → (b : ℕ) → n.persistent b ≡ true → T (s.marking b) → (k : Marker) × T (marked n s k b)
marker_of_lem n s i b p t = go (s.first b) (i.first b p)
  where
    go : (o : Option Marker) → First n s b o → (k : Marker) × T (marked n s k b)
    go none q = absurd (not-true (s.marking b) q t)
    go (some k) q = (k, q.1)

-- what has marked a condition is one of its markers
pub marked_in : (n : Net) (s : State) → Reached n s → (k : Marker) (b : ℕ) → T (marked n s k b) → k ∈ markers n b
unfolding marked
marked_in n s i at_start b t = start_marks n b
marked_in n s i (by_event x) b t = event_marks n b x (i.seen x (and_left (s.seen x) (mem b (n.postconditions x)) t)) (and_right (s.seen x) (mem b (n.postconditions x)) t)

-- ---- the invariant

-- what an unfolded condition says of a state: an ordinary one holds where its condition does, a copy exactly if its marker
-- has marked its condition
unfoldable pub status : Net → State → UnfoldedCondition → Bool
unfolding marked
status n s (ordinary b) = s.marking b
status n s (copy b k v) = marked n s k b

pub record Copies (n : Net) (s : State) (u : Marking) : Type 0 where
  pub holding : (k : ℕ) (p : UnfoldedCondition) → get_elem? (unfolded_conditions n) k ≡ some p → u k ≡ status n s p
  pub outside : (k : ℕ) → get_elem? (unfolded_conditions n) k ≡ none → u k ≡ false
  pub reached : Reached n s

pub copies_opening : (n : Net) → Copies n (opening n) (begin (basic n))
unfolding begins begin status marked opening basic
copies_opening n = record { holding = hold; outside = out; reached = reached_opening n }
  where
    hold : (k : ℕ) (p : UnfoldedCondition) → get_elem? (unfolded_conditions n) k ≡ some p → begin (basic n) k ≡ status n (opening n) p
    hold k (ordinary b) h = begins_at n k (ordinary b) h
    hold k (copy b at_start v) h = begins_at n k (copy b at_start v) h
    hold k (copy b (by_event e) v) h = begins_at n k (copy b (by_event e) v) h

    out : (k : ℕ) → get_elem? (unfolded_conditions n) k ≡ none → begin (basic n) k ≡ false
    out k h = mem_places (begins n) (unfolded_conditions n) k ∙ ap (hit (begins n)) h

put_back : (t z a : Bool) → (T t → T a) → (t || z) || a && not t ≡ (z || a)
put_back true true a f = refl
put_back true false a f = sym (is_true a (f tt))
put_back false true a f = refl
put_back false false a f = and-true a

-- a step of the unfolded net
module _ (n : Net) (s : State) (u : Marking) (i : Copies n s u) (j : ℕ) (c : T (can (basic n) u j)) where
  abbrev e : ℕ
  e = (origin n j).event

  -- what it takes holds
  pub takes_held : (k : ℕ) (p : UnfoldedCondition) → get_elem? (unfolded_conditions n) k ≡ some p → T (takes n (origin n j) p) → T (status n s p)
  takes_held k p h t =
      subst T (i.holding k p h) (pre_holds (basic n) u j (can_concession (basic n) u j c) k (subst T (sym (takes_at n j k p h)) t))

  fire_at_lem : (k : ℕ) (p : UnfoldedCondition) → get_elem? (unfolded_conditions n) k ≡ some p
      → fire (basic n) u j k ≡ (puts n (origin n j) p || status n s p && not (takes n (origin n j) p))
  unfolding fire basic
  fire_at_lem k p h = cc (puts_at n j k p h, takes_at n j k p h, i.holding k p h)

  hold : (k : ℕ) (p : UnfoldedCondition) → get_elem? (unfolded_conditions n) k ≡ some p → fire (basic n) u j k ≡ status n (step n s e) p
  unfolding takes puts status fire step
  hold k (ordinary b) h = fire_at_lem k (ordinary b) h ∙ rw (kind_of n (ordinary b) (in_at (unfolded_conditions n) k h))
  hold k (copy b q v) h =
      fire_at_lem k (copy b q v) h
      ∙ put_back (takes n (origin n j) (copy b q v)) (fresh n e q b) (marked n s q b) (takes_held k (copy b q v) h)
      ∙ sym (marked_step n s e q b)

  out : (k : ℕ) → get_elem? (unfolded_conditions n) k ≡ none → fire (basic n) u j k ≡ false
  unfolding basic
  out k h = fire_none (basic n) u j k (mem_places (puts n (origin n j)) (unfolded_conditions n) k ∙ ap (hit (puts n (origin n j))) h) (i.outside k h)

  -- beside the step of the table that it reads back as
  pub copies_step : T (can n s.marking e) → Copies n (step n s e) (fire (basic n) u j)
  copies_step d = record { holding = hold; outside = out; reached = reached_step n s i.reached e d }

-- ---- what it gives

-- corresponding markings
pub correspond : (n : Net) (s : State) (u : Marking) → Copies n s u → Correspond n s.marking u
unfolding status
correspond n s u c =
    record {
      same = λ k b h. c.holding k (ordinary b) h;
      copied = λ b v l p h t.
          let r = marker_of_lem n s c.reached b p t in
          let q = place_of (copy_in n b r.0 v l p (marked_in n s c.reached r.0 b r.1) h) in
          (q.0, r.0, q.1, subst T (sym (c.holding q.0 (copy b r.0 v) q.1)) r.1);
      back = λ k b q v h t. c.reached.held b (kind_of n (copy b q v) (in_at (unfolded_conditions n) k h)) q (subst T (c.holding k (copy b q v) h) t);
    }

-- the unfolded marking is determined by the table's marking and the events that have occurred
pub determined : (n : Net) (s : State) (u w : Marking) → Copies n s u → Copies n s w → u ≡ w
determined n s u w i j = fun_ext (λ k. go k (get_elem? (unfolded_conditions n) k) refl)
  where
    go : (k : ℕ) (o : Option UnfoldedCondition) → get_elem? (unfolded_conditions n) k ≡ o → u k ≡ w k
    go k none h = i.outside k h ∙ sym (j.outside k h)
    go k (some p) h = i.holding k p h ∙ sym (j.holding k p h)

-- ---- states

pub state_same : (s t : State) → s.marking ≡ t.marking → s.first ≡ t.first → s.seen ≡ t.seen → s ≡ t
state_same s t a b c =
    ap {B = State} (λ m. record { marking = m; first = s.first; seen = s.seen }) a
    ∙ ap {B = State} (λ f. record { marking = t.marking; first = f; seen = s.seen }) b
    ∙ ap {B = State} (λ x. record { marking = t.marking; first = t.first; seen = x }) c

pub marking_after : (n : Net) (s : State) (r : List ℕ) → (after n s r).marking ≡ end n s.marking r
unfolding after step end
marking_after n s [] = refl
marking_after n s (e ∷ r) = marking_after n (step n s e) r

-- which events have occurred
pub seen_after : (n : Net) (s : State) (r : List ℕ) (x : ℕ) → (after n s r).seen x ≡ (mem x r || s.seen x)
unfolding after step
seen_after n s [] x = refl
seen_after n s (e ∷ r) x = seen_after n (step n s e) r x ∙ go (mem x r) (eqb x e) (s.seen x)
  where
    go : (a b c : Bool) → (a || (b || c)) ≡ ((b || a) || c)
    go true true c = refl
    go true false c = refl
    go false true c = refl
    go false false c = refl

-- what an unfolded condition says of the state after a run from the start
pub status_after : (n : Net) (r : List ℕ) (p : UnfoldedCondition) → status n (after n (opening n) r) p ≡ holds_after n r p
unfolding status holds_after marked opening
status_after n r (ordinary b) = ap (λ (m : Marking). m b) (marking_after n (opening n) r)
status_after n r (copy b at_start v) = refl
status_after n r (copy b (by_event e) v) = ap (λ (x : Bool). x && mem b (n.postconditions e)) (seen_after n (opening n) r e ∙ or_none (mem e r))
