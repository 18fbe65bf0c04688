-- An event found in a judged table by its offset: the net of its record alone plays it as the table's net does.
use Prim.Native.Nat.{ℕ, ◌≤◌, ◌<◌}
use native.Mathlib.Omega.{arith}
use mathlib.Core.Path.{◌≡◌, refl, sym, ap, ◌∙◌, subst}
use mathlib.Core.Bool.{Bool, true, false}
use mathlib.Core.Option.{Option, none, some}
use mathlib.Core.List.{List}
use lib.Dec.{T, ltb}
use lib.ListN.{length}
use borrow.Author.Tests.{lt-ltb, le-ltb, ltb-true}
use Rattle.lists.specs.Lists.{fits}
use Rattle.lists.proofs.Bools.{T_of}
use Rattle.lists.proofs.Tests.{fits_ascends, fits_in, fits_of}
use Rattle.model.specs.Net.{Marking, free, lacking, contact, fire, Stop, unknown, lacks, meets, stopping}
use Rattle.model.specs.Across.{of_table, stopped}
use Rattle.refusal.specs.declared.Refusal.{Refusal}
use Rattle.refusal.specs.Answer.{Judged, need, and_then}
use Rattle.std.specs.Prelude.{Ok, Err}
use Rattle.refusal.proofs.Chain.{need_fine, goes_on}
use Rattle.words.specs.Words.{words}
use Rattle.records.specs.Records.{conditions, pre_part, post_part}
use Rattle.table.specs.Walk.{judge_of, offset_of}
use Rattle.table.specs.Decoded.{net_of}
use Rattle.table.specs.Links.{refusing, refused_or}
use Rattle.table.proofs.Walk.{accepted}
use Rattle.table.proofs.Decoded.{net_judged, conditions_are_all}
use Rattle.stopping.specs.declared.Cause.TheVariants.{Unknown}
use Rattle.stopping.specs.Table.{Step, cause_of, step_of, stopped_at, answered_of}
use Rattle.model.specs.Lent.{bytes, marking}
use Rattle.step.specs.Lent.{Lent}
use Rattle.step.specs.Tests.{Recorded}
use Rattle.game.specs.Lent.{lent}
use Rattle.step.specs.Steps.{lists_net, record_net, stepped}
use Rattle.game.specs.Calls.{on_marking, leaves, firing_stopped, firing_of, fired_of}
use Rattle.game.specs.Ready.{ready_of}
use Rattle.game.proofs.Marked.{on_then, on_fine}

-- ---- the record's net and the table's

module _ (s : List ℕ) (n : ℕ) (j : judge_of s ≡ Ok n) (e : ℕ) where
  pub stopping_found : e < n → (m : Marking) → stopping (net_of s) m e ≡ stopping (record_net s (offset_of s e)) m 0
  unfolding stopping lacking contact free record_net lists_net
  stopping_found h m = rw (net_judged s (Ok n) j, lt-ltb e n h)

  pub stopping_unknown : (ltb e n ≡ false) → (m : Marking) → stopping (net_of s) m e ≡ some unknown
  unfolding stopping
  stopping_unknown h m = rw (net_judged s (Ok n) j, h)

  pub fire_found : (m : Marking) → fire (net_of s) m e ≡ fire (record_net s (offset_of s e)) m 0
  unfolding fire record_net lists_net
  fire_found m = rw (net_judged s (Ok n) j)

  -- its lists ascend and name conditions that there are
  pub listed_found : e < n → Recorded s (offset_of s e)
  listed_found h =
      let a = accepted s n j in
      record {
        pre_fits = wider (words (pre_part s (offset_of s e))) a.conditions_fine.most (a.event e h).pre_ascends;
        post_fits = wider (words (post_part s (offset_of s e))) a.conditions_fine.most (a.event e h).post_ascends;
      }
    where
      wider : (l : List ℕ) → conditions s ≤ 256 → fits (conditions s) l ≡ true → T (fits 256 l)
      wider l h e =
          let t = T_of (fits (conditions s) l) e in
          fits_of 256 l (fits_ascends (conditions s) l t) (λ b i. let q = fits_in (conditions s) l t b i in omega arith)

-- ---- a step by the event's number, on bytes l

module _ (s : List ℕ) (n : ℕ) (j : judge_of s ≡ Ok n) (e : ℕ) (l : List ℕ) where
  abbrev stops_by : Option Stop
  stops_by = stopping (net_of s) (marking l) e

  abbrev new_by : List ℕ
  new_by = bytes (length l) (fire (net_of s) (marking l) e)

  pub number_unknown : n ≤ e → (Err Unknown ≡ step_of stops_by) × (l ≡ stepped stops_by new_by l)
  number_unknown h = let q = stopping_unknown s n j e (le-ltb e n h) (marking l) in (rw q, rw q)

  module _ (h : e < n) (at : ℕ) (is_at : at ≡ offset_of s e) where
    pub number_told : step_of (stopping (record_net s at) (marking l) 0) ≡ step_of stops_by
    number_told = rw is_at (ap step_of (sym (stopping_found s n j e h (marking l))))

    pub number_left : stepped (stopping (record_net s at) (marking l) 0) (bytes (length l) (fire (record_net s at) (marking l) 0)) l ≡ stepped stops_by new_by l
    number_left = rw is_at (rw (stopping_found s n j e h (marking l), fire_found s n j e (marking l)))

-- ---- a step's answer is the model's

-- in a run, at a step
pub stopped_is : (v : Stop) (k : ℕ) → stopped_at (cause_of v) k ≡ refusing (stopped of_table v k)
stopped_is unknown k = refl
stopped_is (lacks b) k = refl
stopped_is (meets b) k = refl

-- of a firing, at the condition
answered_is : (o : Option Stop) (value : ℕ) → answered_of (step_of o) value ≡ refused_or (firing_stopped of_table o) (Ok value)
answered_is none value = refl
answered_is (some unknown) value = refl
answered_is (some (lacks b)) value = refl
answered_is (some (meets b)) value = refl

-- ---- an event asked for

module _ (s m : List ℕ) (e : ℕ) where
  pub ready_is : ready_of s m e ≡ and_then (on_marking s m Ok) (λ n. need (ltb e n) 10 0 (Ok (offset_of s e)))
  unfolding ready_of
  ready_is = sym (on_then s m Ok (λ n. need (ltb e n) 10 0 (Ok (offset_of s e))))

  -- what a fine asking tells
  pub record Ready (at : ℕ) : Type 0 where
    pub events : ℕ
    pub judged : judge_of s ≡ Ok events
    pub long : length m ≡ conditions s
    pub few : length m ≤ 256
    pub lents : Lent m
    pub below : e < events
    pub place : at ≡ offset_of s e
    pub listed : Recorded s at

  pub ready_fine : (at : ℕ) → ready_of s m e ≡ Ok at → Ready at
  unfolding ready_of
  ready_fine at h =
      let k = on_fine s m (λ n. need (ltb e n) 10 0 (Ok (offset_of s e))) at h in
      let (t, f) = need_fine (ltb e k.events) 10 0 at (Ok (offset_of s e)) k.goes in
      let low = ltb-true e k.events t in
      let place : at ≡ offset_of s e = cc f in
      record {
        events = k.events;
        judged = k.judged;
        long = k.long;
        few = k.few;
        lents = k.lents;
        below = low;
        place = place;
        listed = subst (Recorded s) (sym place) (listed_found s k.events k.judged e low);
      }

-- ---- concession and firing, from the event that was found

module _ (s m : List ℕ) (e v : ℕ) where
  abbrev asking : ℕ → Judged
  asking at = refused_or (firing_stopped of_table (stopping (record_net s at) (marking m) 0)) (Ok v)

  pub firing_ready : firing_of s m e v ≡ and_then (ready_of s m e) asking
  unfolding firing_of ready_of on_marking need
  firing_ready = sym (on_then s m (λ n. need (ltb e n) 10 0 (Ok (offset_of s e))) asking ∙ go (judge_of s) refl)
    where
      tested : (n : ℕ) → judge_of s ≡ Ok n → (b : Bool) → ltb e n ≡ b
          → and_then (need b 10 0 (Ok (offset_of s e))) asking ≡ refused_or (firing_stopped of_table (stopping (net_of s) (marking m) e)) (Ok v)
      tested n j true t = rw (stopping_found s n j e (ltb-true e n t) (marking m))
      tested n j false t = rw (stopping_unknown s n j e t (marking m))

      go : (x : Judged) → judge_of s ≡ x
          → and_then x (λ n. lent (net_of s).conditions m (and_then (need (ltb e n) 10 0 (Ok (offset_of s e))) asking))
          ≡ and_then x (λ n. lent (net_of s).conditions m (refused_or (firing_stopped of_table (stopping (net_of s) (marking m) e)) (Ok v)))
      go (Ok n) j = ap (lent (net_of s).conditions m) (tested n j (ltb e n) refl)
      go (Err x) j = refl

  -- the answer r of the step at the event's offset is that of the call
  pub firing_told : (at : ℕ) (r : Step) → ready_of s m e ≡ Ok at → r ≡ step_of (stopping (record_net s at) (marking m) 0) → answered_of r v ≡ firing_of s m e v
  firing_told at r h told =
      ap (λ (x : Step). answered_of x v) told ∙ answered_is (stopping (record_net s at) (marking m) 0) v ∙ sym (firing_ready ∙ goes_on asking (sym h) refl)

-- the lent marking, by what the asking for the event answered
module _ (s m : List ℕ) (e : ℕ) where
  pub fired_refused : (x : Refusal) → ready_of s m e ≡ Err x → m ≡ fired_of s m e
  unfolding fired_of
  fired_refused x h = simp (firing_ready s m e (net_of s).conditions, h)

  module _ (at : ℕ) (h : ready_of s m e ≡ Ok at) where
    abbrev stops : Option Stop
    stops = stopping (record_net s at) (marking m) 0

    new_is : bytes (length m) (fire (record_net s at) (marking m) 0) ≡ bytes (net_of s).conditions (fire (net_of s) (marking m) e)
    new_is =
        let k = ready_fine s m e at h in
        ap (λ (c : ℕ). bytes c (fire (record_net s at) (marking m) 0)) (k.long ∙ conditions_are_all s k.events k.judged)
        ∙ ap (λ (a : ℕ). bytes (net_of s).conditions (fire (record_net s a) (marking m) 0)) k.place
        ∙ ap (bytes (net_of s).conditions) (sym (fire_found s k.events k.judged e (marking m)))

    pub fired_fine : stepped stops (bytes (length m) (fire (record_net s at) (marking m) 0)) m ≡ fired_of s m e
    unfolding fired_of
    fired_fine = rw (firing_ready s m e (net_of s).conditions, h, new_is) (go stops)
      where
        go : (o : Option Stop) → stepped o (bytes (net_of s).conditions (fire (net_of s) (marking m) e)) m
            ≡ leaves (refused_or (firing_stopped of_table o) (Ok (net_of s).conditions)) (bytes (net_of s).conditions (fire (net_of s) (marking m) e)) m
        go none = refl
        go (some v) = refl
