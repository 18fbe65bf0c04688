-- Which condition stopped it: what is told of a firing or a run that is stopped is exactly the lowest condition that stops it.
use mathlib.Core.Path.{◌≡◌, refl, sym, subst}
use mathlib.Core.Bool.{Bool, true, false, not, ◌&&◌, ◌||◌}
use mathlib.Core.Logic.{◌↔◌}
use mathlib.Core.Option.{Option, none, some}
use mathlib.Core.List.{List}
use Prim.Native.Nat.{ℕ, ◌<◌}
use lib.Dec.{T, ltb, ltb→lt, lt→ltb}
use Rattle.lists.specs.Lists.{mem, ascending, failing, nothing}
use Rattle.lists.proofs.Bools.{T_of, is_true, is_false, not-true, not_out, not_in, and_left, and_right, and_both}
use Rattle.lists.proofs.Tests.{failing_at, failing_of_lem}
use Rattle.lists.proofs.Lowest.{failing_lowest, lowest_failing}
use Rattle.model.specs.Net.{Net, Sound, Marking, lacking, free, contact, Stop, unknown, lacks, meets, first_stop, stopping}
use Rattle.model.specs.Runs.{end, State, refused, replay}
use Rattle.model.specs.Unfolding.{basic}
use Rattle.model.specs.Stopped.{Least, lacked, touched, StoppedBy, StoppedAt}
use Rattle.model.proofs.Replay.{replay_stops, stops_replay}
use Rattle.model.proofs.Sets.{basic_sound}

-- ---- the lowest member that fails, told as the least number that passes

module _ (f p : ℕ → Bool) (l : List ℕ) (same : (c : ℕ) → p c ≡ (mem c l && not (f c))) where
  fails_passes : (c : ℕ) → T (mem c l) → f c ≡ false → T (p c)
  fails_passes c i z = subst T (sym (same c)) (and_both (mem c l) (not (f c)) i (not_in (f c) (not-true (f c) z)))

  passes_in : (c : ℕ) → T (p c) → T (mem c l)
  passes_in c t = and_left (mem c l) (not (f c)) (subst T (same c) t)

  passes_fails : (c : ℕ) → T (p c) → f c ≡ false
  passes_fails c t = is_false (f c) (not_out (f c) (and_right (mem c l) (not (f c)) (subst T (same c) t)))

  least_failing : T (ascending l) → (b : ℕ) → (failing f l ≡ some b) ↔ Least p b
  least_failing a b = (
    λ q. let w = failing_lowest f l a b q in
        record {
          passes = fails_passes b w.inside w.fails;
          least = λ c t. w.least c (passes_in c t) (passes_fails c t);
        },
    λ w. lowest_failing f l a b (record {
      inside = passes_in b w.passes;
      fails = passes_fails b w.passes;
      least = λ c i z. w.least c (fails_passes c i z);
    }),
  )

-- ---- firing

module _ (n : Net) (m : Marking) (e : ℕ) where
  lacked_is : (c : ℕ) → lacked n m e c ≡ (mem c (n.preconditions e) && not (m c))
  unfolding lacked
  lacked_is c = refl

  touched_is : (c : ℕ) → touched n m e c ≡ (mem c (n.postconditions e) && not (not (m c) || free n e c))
  unfolding touched free
  touched_is c = go (mem c (n.postconditions e)) (m c) (n.persistent c) (mem c (n.preconditions e)) (n.old c)
    where
      go : (a h p q o : Bool) → (a && (h && (not p && (not q || o)))) ≡ (a && not (not h || (p || q && not o)))
      go true true true q o = refl
      go true true false true true = refl
      go true true false true false = refl
      go true true false false o = refl
      go true false p q o = refl
      go false h p q o = refl

  all_hold : (lacking n m e ≡ none) ↔ ((c : ℕ) → T (mem c (n.preconditions e)) → T (m c))
  unfolding lacking
  all_hold = (
    λ q c i. failing_at m (n.preconditions e) (subst (λ (o : Option ℕ). T (nothing o)) (sym q) tt) c i,
    λ f. is_none (failing m (n.preconditions e)) (failing_of_lem m (n.preconditions e) f),
  )
    where
      is_none : (o : Option ℕ) → T (nothing o) → o ≡ none
      is_none none t = refl
      is_none (some b) t = absurd t

  module _ (s : Sound n) where
    lacks_least : e < n.events → (b : ℕ) → (lacking n m e ≡ some b) ↔ Least (lacked n m e) b
    unfolding lacking
    lacks_least h b = least_failing m (lacked n m e) (n.preconditions e) lacked_is (s.pre_ascends_lem e h) b

    meets_least : e < n.events → (b : ℕ) → (contact n m e ≡ some b) ↔ Least (touched n m e) b
    unfolding contact
    meets_least h b = least_failing (λ c. not (m c) || free n e c) (touched n m e) (n.postconditions e) touched_is (s.post_ascends_lem e h) b

    abbrev Told : Option Stop → Type 0
    Told none = Unit {0}
    Told (some v) = StoppedBy n m e v

    told : (t : Bool) → ltb e n.events ≡ t → (a z : Option ℕ) → lacking n m e ≡ a → contact n m e ≡ z → Told (first_stop t a z)
    told false h a z p q = λ l. not-true (ltb e n.events) h (lt→ltb e n.events l)
    told true h none none p q = tt
    told true h (some b) z p q = let l = ltb→lt e n.events (T_of (ltb e n.events) h) in (l, (lacks_least l b).0 p)
    told true h none (some b) p q = let l = ltb→lt e n.events (T_of (ltb e n.events) h) in (l, all_hold.0 p, (meets_least l b).0 q)

    stopped : (v : Stop) → StoppedBy n m e v → stopping n m e ≡ some v
    unfolding stopping
    stopped unknown f = rw (is_false (ltb e n.events) (λ t. f (ltb→lt e n.events t)))
    stopped (lacks b) w = rw (is_true (ltb e n.events) (lt→ltb e n.events w.0), (lacks_least w.0 b).1 w.1)
    stopped (meets b) w = rw (is_true (ltb e n.events) (lt→ltb e n.events w.0), all_hold.1 w.1, (meets_least w.0 b).1 w.2)

    -- What stops a firing is exactly what is told: no such event, the lowest precondition that does not hold, or, where all hold, the
    -- lowest ordinary condition in contact.
    pub stopping_exactly : (v : Stop) → (stopping n m e ≡ some v) ↔ StoppedBy n m e v
    unfolding stopping
    stopping_exactly v = (λ q. subst Told q (told (ltb e n.events) refl (lacking n m e) (contact n m e) refl refl), stopped v)

    -- So contact is never told at a persistent condition.
    pub meets_ordinary : (b : ℕ) → stopping n m e ≡ some (meets b) → n.persistent b ≡ false
    unfolding touched
    meets_ordinary b q = ordinary (mem b (n.postconditions e)) (m b) (n.persistent b) (not (mem b (n.preconditions e)) || n.old b) ((stopping_exactly (meets b)).0 q).2.passes
      where
        ordinary : (a h p q : Bool) → T (a && (h && (not p && q))) → p ≡ false
        ordinary true true false q t = refl
        ordinary true true true q t = absurd t
        ordinary true false p q t = absurd t
        ordinary false h p q t = absurd t

-- ---- runs

-- A replay is refused exactly if a step is stopped where those before it end, by what is told and at the step that is told.
pub refused_exactly : (n : Net) → Sound n → (k : ℕ) (s : State) (r : List ℕ) (v : Stop) (i : ℕ)
    → (replay n k s r ≡ refused v i) ↔ StoppedAt n k s.marking r v i
refused_exactly n z k s r v i = (
  λ q. let p = replay_stops n k s r v i q in
      record {
        before = p.before;
        event = p.event;
        rest = p.rest;
        splits = p.splits;
        place = p.place;
        plays = p.plays;
        by = (stopping_exactly n (end n s.marking p.before) p.event z v).0 p.stops;
      },
  λ p. stops_replay n k s r v i (record {
    before = p.before;
    event = p.event;
    rest = p.rest;
    splits = p.splits;
    place = p.place;
    plays = p.plays;
    stops = (stopping_exactly n (end n s.marking p.before) p.event z v).1 p.by;
  }),
)

-- ---- the same in the unfolded net

-- The unfolded net is sound, so what stops a firing there is exactly what is told, in unfolded conditions.
pub unfolded_stopping_exactly : (n : Net) (u : Marking) (j : ℕ) (v : Stop) → (stopping (basic n) u j ≡ some v) ↔ StoppedBy (basic n) u j v
unfolded_stopping_exactly n u j v = stopping_exactly (basic n) u j (basic_sound n) v

-- So is what refuses a replay of an unfolded run.
pub unfolded_refused_exactly : (n : Net) (k : ℕ) (s : State) (w : List ℕ) (v : Stop) (i : ℕ)
    → (replay (basic n) k s w ≡ refused v i) ↔ StoppedAt (basic n) k s.marking w v i
unfolded_refused_exactly n k s w v i = refused_exactly (basic n) (basic_sound n) k s w v i
