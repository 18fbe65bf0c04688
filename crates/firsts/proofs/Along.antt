-- A walk along a run, step by step: the state that the model is in after the steps so far, and what of it is kept.
use Prim.Native.Nat.{ℕ, suc, ◌+◌, ◌≤◌, ◌<◌}
use native.Mathlib.Omega.{arith}
use native.Mathlib.Numerals.{add-one}
use native.Mathlib.Decide.{ℕ_discrete}
use mathlib.Core.Path.{◌≡◌, refl, sym, ap, ◌∙◌, subst}
use mathlib.Core.Bool.{Bool, true, false, ◌&&◌, ◌||◌, and-false}
use mathlib.Core.Option.{Option, none, some}
use mathlib.Core.List.{List, ◌∷◌}
use lib.Dec.{T, eqb, ltb→lt}
use lib.ListN.{length, get_or, set, drop, replicate, length-set, length-replicate, drop_of_length-le}
use lib.Seq.{drop-cons, get_or-set_same, get_or-set_other}
use borrow.Author.Tests.{eq-eqb, ne_eqb}
use Rattle.lists.specs.Lists.{mem}
use Rattle.lists.proofs.Bools.{T_of, not-true, and_both}
use Rattle.lists.proofs.Places.{replicate_at}
use Rattle.model.specs.Net.{Net, begin, can}
use Rattle.model.specs.Runs.{runs, Marker, at_start, by_event, State, marker, or_else, opening, step, after}
use Rattle.model.specs.Across.{marks_for_others, own_or_earliest, repeated}
use Rattle.model.proofs.Firing.{runs_first, runs_rest, can_event}
use Rattle.model.proofs.Laws.{marked, First, Reached}
use Rattle.model.proofs.Copies.{reached_opening, reached_step}
use Rattle.std.specs.Prelude.{Option as Perhaps, None, Some}
use Rattle.std.specs.Option.{option_or}
use Rattle.firsts.specs.declared.Walked.{Walked}
use Rattle.firsts.specs.Firsts.{Slot, first_of, first_at, no_slots, repeat_of}
use Rattle.firsts.specs.Walks.{Tells, Occurred, Walks}

-- the repeat that was met, else the one that is to come
abbrev soonest : Perhaps ℕ → Option ℕ → Option ℕ
soonest None o = o
soonest (Some k) o = some k

-- the walk has taken k steps of the run
pub record Along (n : Net) (r : List ℕ) (k : ℕ) (repeat : Perhaps ℕ) (slots : List Slot) (seen : List ℕ) : Type 0 where
  pub state : State
  pub upto : k ≤ length r
  pub rest : after n state (drop k r) ≡ after n (opening n) r
  pub plays : T (runs n state.marking (drop k r))
  pub reached : Reached n state
  pub firsts : Tells state slots
  pub seens : Occurred state seen
  pub repeats : soonest repeat (repeated n (own_or_earliest n) k state (drop k r)) ≡ repeated n (own_or_earliest n) 0 (opening n) r

-- ---- the start

pub none_set : (b : ℕ) → first_at no_slots b ≡ none
unfolding no_slots
none_set b = ap first_of (replicate_at {A = Slot} 256 b None)

pub along_start : (n : Net) (r : List ℕ) (slots : List Slot) (seen : List ℕ) → T (runs n (begin n) r) → length slots ≡ 256
    → ((b : ℕ) → b < 256 → first_at slots b ≡ marker (n.persistent b) (mem b n.start) at_start)
    → seen ≡ replicate 256 0 → Along n r 0 None slots seen
unfolding opening
along_start n r slots seen t l f z =
    record {
      state = opening n;
      upto = omega arith;
      rest = refl;
      plays = t;
      reached = reached_opening n;
      firsts = record { size = l; each = f };
      seens = record { size = ap length z ∙ length-replicate {A = ℕ} 256 0; each = λ e h. ap (λ (x : List ℕ). eqb (get_or x e 0) 1) z ∙ ap (λ (x : ℕ). eqb x 1) (replicate_at {A = ℕ} 256 e 0) };
      repeats = refl;
    }

-- ---- one step

-- what has occurred has marked all that it marks
pub stays : (n : Net) (s : State) → Reached n s → (e : ℕ) → s.seen e ≡ true → (b : ℕ)
    → s.first b ≡ or_else (s.first b) (marker (n.persistent b) (mem b (n.postconditions e)) (by_event e))
unfolding marked
stays n s i e t b = go (s.first b) (n.persistent b) (mem b (n.postconditions e)) refl refl refl
  where
    go : (o : Option Marker) (p m : Bool) → s.first b ≡ o → n.persistent b ≡ p → mem b (n.postconditions e) ≡ m → o ≡ or_else o (marker p m (by_event e))
    go (some k) p m x y z = refl
    go none false m x y z = refl
    go none true false x y z = refl
    go none true true x y z =
        let low : First n s b none = subst (First n s b) x (i.first b y) in
        absurd (not-true (s.marking b) low
        (i.held b y (by_event e) (and_both (s.seen e) (mem b (n.postconditions e)) (T_of (s.seen e) t) (T_of (mem b (n.postconditions e)) z))))

module _ (n : Net) (k : ℕ) (s : State) (e : ℕ) (r : List ℕ) where
  repeated_here : marks_for_others n e && s.seen e ≡ true → repeated n (own_or_earliest n) k s (e ∷ r) ≡ some k
  unfolding repeated own_or_earliest
  repeated_here h = rw (h, repeated)

  repeated_later : marks_for_others n e && s.seen e ≡ false → repeated n (own_or_earliest n) k s (e ∷ r) ≡ repeated n (own_or_earliest n) (suc k) (step n s e) r
  unfolding repeated own_or_earliest
  repeated_later h = rw (h, repeated)

module _ (n : Net) (r : List ℕ) (k : ℕ) (repeat : Perhaps ℕ) (slots : List Slot) (seen : List ℕ) (a : Along n r k repeat slots seen)
    (h : k < length r) (e : ℕ) (q : e ≡ get_or r k 0) where
  abbrev s : State
  s = a.state

  next : drop k r ≡ e ∷ drop (k + 1) r
  next = rw (drop-cons r k 0 h, add-one, q)

  can_fire : T (can n s.marking e)
  can_fire = runs_first n s.marking e (drop (k + 1) r) (rw next at a.plays)

  pub along_event : e < n.events
  along_event = ltb→lt e n.events (can_event n s.marking e can_fire)

  occurred : e < 256 → (b : Bool) → eqb (get_or seen e 0) 1 ≡ b → s.seen e ≡ b
  occurred l b z = sym (a.seens.each e l) ∙ z

  -- what every step does to the state
  stepped : (repeat' : Perhaps ℕ) (slots' : List Slot) (seen' : List ℕ) → Tells (step n s e) slots' → Occurred (step n s e) seen'
      → soonest repeat' (repeated n (own_or_earliest n) (k + 1) (step n s e) (drop (k + 1) r)) ≡ soonest repeat (repeated n (own_or_earliest n) k s (e ∷ drop (k + 1) r))
      → Along n r (k + 1) repeat' slots' seen'
  unfolding step after
  stepped repeat' slots' seen' f o p =
      record {
        state = step n s e;
        upto = omega arith;
        rest = rw next at a.rest;
        plays = runs_rest n s.marking e (drop (k + 1) r) (rw next at a.plays);
        reached = reached_step n s a.reached e can_fire;
        firsts = f;
        seens = o;
        repeats = p ∙ ap (λ (l : List ℕ). soonest repeat (repeated n (own_or_earliest n) k s l)) (sym next) ∙ a.repeats;
      }

  -- an event occurs for the first time
  pub along_new : e < 256 → (get_or seen e 0 ≡ 1 → ⊥) → (slots' : List Slot) → length slots' ≡ 256
      → ((b : ℕ) → b < 256 → first_at slots' b ≡ or_else (first_at slots b) (marker (n.persistent b) (mem b (n.postconditions e)) (by_event e)))
      → Along n r (k + 1) repeat slots' (set seen e 1)
  unfolding step
  along_new l z slots' w f =
      stepped repeat slots' (set seen e 1)
      (record { size = w; each = λ b g. f b g ∙ ap (λ (o : Option Marker). or_else o (marker (n.persistent b) (mem b (n.postconditions e)) (by_event e))) (a.firsts.each b g) })
      (record { size = length-set seen e 1 ∙ a.seens.size; each = λ x g. go x g (ℕ_discrete x e) })
      (ap (soonest repeat) (ap (λ (j : ℕ). repeated n (own_or_earliest n) j (step n s e) (drop (k + 1) r)) (add-one k) ∙ sym (repeated_later n k s e (drop (k + 1) r) (rw (occurred l false (ne_eqb (get_or seen e 0) 1 z), and-false)))))
    where
      go : (x : ℕ) → x < 256 → Dec (x ≡ e) → eqb (get_or (set seen e 1) x 0) 1 ≡ (eqb x e || s.seen x)
      go x g (yes y) = rw (y, get_or-set_same seen e 1 0 (omega (arith, a.seens.size)), eq-eqb e e refl)
      go x g (no y) = rw (get_or-set_other seen e x 1 0 y, ne_eqb x e y) (a.seens.each x g)

  module _ (l : e < 256) (z : get_or seen e 0 ≡ 1) where
    was : s.seen e ≡ true
    was = occurred l true (eq-eqb (get_or seen e 0) 1 z)

    same_firsts : Tells (step n s e) slots
    unfolding step
    same_firsts = record { size = a.firsts.size; each = λ b g. a.firsts.each b g ∙ stays n s a.reached e was b }

    same_seens : Occurred (step n s e) seen
    unfolding step
    same_seens = record { size = a.seens.size; each = λ x g. a.seens.each x g ∙ go x (ℕ_discrete x e) }
      where
        go : (x : ℕ) → Dec (x ≡ e) → s.seen x ≡ (eqb x e || s.seen x)
        go x (yes y) = rw (y, was, eq-eqb e e refl)
        go x (no y) = rw (ne_eqb x e y)

    -- an event that marks for nobody else occurs again
    pub along_again : marks_for_others n e ≡ false → Along n r (k + 1) repeat slots seen
    along_again m =
        stepped repeat slots seen same_firsts same_seens
        (ap (soonest repeat) (ap (λ (j : ℕ). repeated n (own_or_earliest n) j (step n s e) (drop (k + 1) r)) (add-one k) ∙ sym (repeated_later n k s e (drop (k + 1) r) (rw m))))

    -- an event that marks for others occurs again
    pub along_repeat : marks_for_others n e ≡ true → (j : ℕ) → j ≡ k → Along n r (k + 1) (option_or repeat (Some j)) slots seen
    along_repeat m j y =
        stepped (option_or repeat (Some j)) slots seen same_firsts same_seens
        (go repeat (repeated n (own_or_earliest n) (k + 1) (step n s e) (drop (k + 1) r)) ∙ ap (soonest repeat) (sym (repeated_here n k s e (drop (k + 1) r) (rw (m, was)))))
      where
        go : (x : Perhaps ℕ) (o : Option ℕ) → soonest (option_or x (Some j)) o ≡ soonest x (some k)
        go None o = ap some y
        go (Some i) o = refl

-- ---- the end

pub along_end : (n : Net) (r : List ℕ) (k : ℕ) (repeat : Perhaps ℕ) (slots : List Slot) (seen : List ℕ)
    → Along n r k repeat slots seen → length r ≤ k → (w : Walked) → w.repeat ≡ repeat → w.firsts.slots ≡ slots → Walks n r w seen
unfolding after repeated
along_end n r k repeat slots seen a h w x y =
    let none_left = drop_of_length-le r h in
    let last : a.state ≡ after n (opening n) r = rw none_left at a.rest in
    record {
      firsts = rw y (subst (λ (t : State). Tells t slots) last a.firsts);
      seens = subst (λ (t : State). Occurred t seen) last a.seens;
      repeat = rw x (go repeat ∙ (rw none_left at a.repeats));
    }
  where
    go : (x : Perhaps ℕ) → repeat_of x ≡ soonest x none
    go None = refl
    go (Some i) = refl
