-- One step of an unfolded run on the bytes: what it needs, what it is stopped by, and what it leaves.
use Prim.Native.Nat.{ℕ, ◌+◌, ◌≤◌, ◌<◌}
use native.Mathlib.Omega.{arith}
use native.Mathlib.Numerals.{add-one}
use mathlib.Core.Path.{◌≡◌, refl, sym, ap, ◌∙◌, subst, fun_ext}
use mathlib.Core.Bool.{Bool, true, false, ◌||◌}
use mathlib.Core.Option.{Option, none, some}
use mathlib.Core.List.{List, [], ◌∷◌, ◌++◌, map}
use lib.Dec.{T, eqb}
use lib.ListN.{length, get_or, set, take, length-set}
use lib.Seq.{take-suc, get_or-set_same, get_or-set_other}
use borrow.Author.Tests.{eqb-true, eqb-false}
use Rattle.model.specs.Net.{Net, Marking, begin, can, fire, Stop, unknown, lacks, meets, stopping}
use Rattle.model.specs.Runs.{State, opening, step, after, runs}
use Rattle.model.specs.Unfolding.{reads, origin, basic, UnfoldedEvent}
use Rattle.model.specs.Across.{read_back}
use Rattle.model.specs.Lent.{bit, bytes, marking}
use Rattle.model.proofs.Firing.{none_can, can_none, runs_snoc}
use Rattle.model.proofs.Copies.{Copies, copies_opening}
use Rattle.model.proofs.Project.{project_from, back_can}
use Rattle.model.proofs.Lent.{length_bytes, bytes_marking}
use Rattle.table.specs.Walk.{offset_of}
use Rattle.table.specs.Decoded.{net_of}
use Rattle.tally.proofs.Events.{within_limits}
use Rattle.stopping.specs.Table.{Cause, Step, step_of}
use Rattle.std.specs.Prelude.{Err}
use Rattle.stopping.specs.Causes.{goes}
use Rattle.step.specs.Lent.{Lent}
use Rattle.step.specs.Steps.{record_net, stepped}
use Rattle.stopping.specs.declared.Cause.TheVariants.{Unknown}
use Rattle.stopping.specs.Unfolded as unfolded
use Rattle.game.proofs.Found.{stopping_found, fire_found}
use Rattle.played.proofs.Playing.{fired_marking}
use Rattle.step.proofs.Bytes.{lent_bytes, lent_at}
use Rattle.decided.specs.Decided.{Picks, unfolded_stop}
use Rattle.located.specs.Located.{stop_of}
use Rattle.located.proofs.Answers.{said_back}
use Rattle.decided.specs.Kept.{marker_at}
use Rattle.decided.proofs.Decision.{decided}
use Rattle.project.specs.Walked.{Numbered, state_at, unfolded_at, Walked, Underway, Coloured, Stepped, Fires, stops_at, Tried}
use Rattle.project.proofs.Located.{past_last, among}
use Rattle.project.proofs.Apart.{all_events, few_events}

-- ---- runs and their state, one step more

after_snoc : (n : Net) (s : State) (a : List ℕ) (e : ℕ) → after n s (a ++ e ∷ []) ≡ step n (after n s a) e
unfolding after
after_snoc n s [] e = refl
after_snoc n s (x ∷ a) e = after_snoc n (step n s x) a e

read_snoc : (n : Net) (a : List ℕ) (j : ℕ) → read_back n (a ++ j ∷ []) ≡ read_back n a ++ ((origin n j).event ∷ [])
unfolding read_back
read_snoc n [] j = refl
read_snoc n (x ∷ a) j = ap {B = List ℕ} (λ l. (origin n x).event ∷ l) (read_snoc n a j)

-- an event written down has occurred
seen_set : (l : List ℕ) (e : ℕ) → e < length l → marking (set l e 1) ≡ (λ (x : ℕ). eqb x e || marking l x)
unfolding marking
seen_set l e h = fun_ext (λ x. go x (eqb x e) refl)
  where
    go : (x : ℕ) (t : Bool) → eqb x e ≡ t → eqb (get_or (set l e 1) x 0) 1 ≡ (t || eqb (get_or l x 0) 1)
    go x true q = let z : x ≡ e = eqb-true x e q in rw (z, get_or-set_same l e 1 0 h) refl
    go x false q = rw (get_or-set_other l e x 1 0 (eqb-false x e q)) refl

bit_low : (t : Bool) → bit t ≤ 1
bit_low true = omega arith
bit_low false = omega arith

-- bytes in which an event is written down are still 0 or 1
lent_set : (l : List ℕ) (e : ℕ) → Lent l → Lent (set l e 1)
lent_set l e h = bytes_marking (set l e 1) (λ i p. go i (subst (λ (x : ℕ). i < x) (length-set l e 1) p) (eqb i e) refl)
  where
    go : (i : ℕ) → i < length l → (t : Bool) → eqb i e ≡ t → get_or (set l e 1) i 0 ≤ 1
    go i p true q = let z : i ≡ e = eqb-true i e q in rw (z, get_or-set_same l e 1 0 (subst (λ (x : ℕ). x < length l) z p)) (omega arith)
    go i p false q = rw (get_or-set_other l e i 1 0 (eqb-false i e q), lent_at l h i p) (bit_low (marking l i))

-- ---- what stops a step

goes_none : (o : Option Stop) (r : Step) → r ≡ step_of o → r ≡ goes → o ≡ none
goes_none none r t z = refl
goes_none (some v) r t z = absurd (let y : ◌≡◌ {A = ℕ} 0 1 = cc in omega arith)

-- what stops a step, by unfolded conditions
pub located_as : (n : Net) (pick : Picks) (e : ℕ) (o : Option Stop) (r : Step) → r ≡ step_of o → unfolded.step_of (unfolded_stop n pick e (stop_of r)) ≡ unfolded.step_of (unfolded_stop n pick e o)
located_as n pick e o r t = ap (λ (x : Option Stop). unfolded.step_of (unfolded_stop n pick e x)) (ap stop_of t ∙ said_back o)

-- a step that is stopped leaves bytes as they were
step_stays : (o : Option Stop) (r : Step) (x : Cause) → r ≡ step_of o → r ≡ Err x → (new old : List ℕ) → old ≡ stepped o new old
step_stays none r x t z new old = absurd (let y : ◌≡◌ {A = ℕ} 0 1 = cc in omega arith)
step_stays (some v) r x t z new old = refl

-- a step that goes leaves the new ones
step_moves : (o : Option Stop) → o ≡ none → (new old : List ℕ) → new ≡ stepped o new old
step_moves o z new old = rw z refl

-- ---- one step

-- what the step of an event leaves in the bytes, by what it answers
module _ (s : List ℕ) (at e : ℕ) (state seen places : List ℕ) (r : Step) (told : r ≡ step_of (stops_at s e state seen places)) where
  abbrev after_step : List ℕ → List ℕ → Type 0
  after_step new noted =
      (r ≡ step_of (stops_at s e state seen places))
      × ((new ≡ stepped (stops_at s e state seen places) (bytes (length state) (fire (record_net s at) (marking state) 0)) state)
      × (noted ≡ stepped (stops_at s e state seen places) (set seen e 1) seen))

  pub event_goes : r ≡ goes → stops_at s e state seen places ≡ none
  event_goes z = goes_none (stops_at s e state seen places) r told z

  pub event_stopped : (x : Cause) → r ≡ Err x → after_step state seen
  event_stopped x z = (told, (step_stays (stops_at s e state seen places) r x told z _ state, step_stays (stops_at s e state seen places) r x told z _ seen))

  pub event_fired : r ≡ goes → (new : List ℕ) → new ≡ bytes (length state) (fire (record_net s at) (marking state) 0) → after_step new (set seen e 1)
  event_fired z new y = (told, (y ∙ step_moves (stops_at s e state seen places) (event_goes z) _ state, step_moves (stops_at s e state seen places) (event_goes z) _ seen))

module _ (s offsets ms us before begun w : List ℕ) (k : ℕ) (state seen places kept : List ℕ) (q : Underway s offsets ms us before begun w k state seen places kept)
    (h : k < length w) where
  abbrev n : Net
  n = net_of s

  abbrev j : ℕ
  j = get_or w k 0

  c : Walked n w k state seen places kept
  c = q.walked

  numbered : Numbered s offsets ms before
  numbered = q.equipped.numbered

  all : length offsets ≡ n.events
  all = all_events s offsets ms before numbered

  -- a number of no unfolded event
  pub stops_unknown : get_or before (length offsets) 0 ≤ j → unfolded.step_of (stopping (basic n) (unfolded_at n w k) j) ≡ Err Unknown
  stops_unknown l = ap unfolded.step_of (past_last n before numbered.sizes j (omega (arith, ap (λ (x : ℕ). get_or before x 0) all)) (unfolded_at n w k))

  module _ (l : j < get_or before (length offsets) 0) (e : ℕ) (ps ks : List ℕ) (d : Coloured n j e ps ks) where
    abbrev at : ℕ
    at = get_or offsets e 0

    low : e < length offsets
    low = omega (arith, d.event, all)

    offset_is : at ≡ offset_of s e
    offset_is = numbered.indexed.each e low

    event_is : (origin n j).event ≡ e
    event_is = ap (λ (x : UnfoldedEvent). x.event) d.whole

    colour_is : (origin n j).colour ≡ map (marker_at n ps) (reads n (origin n j).event)
    colour_is = ap (λ (x : UnfoldedEvent). x.colour) d.whole ∙ sym (ap (λ (x : ℕ). map (marker_at n ps) (reads n x)) event_is)

    copied : Copies n (state_at n w k) (unfolded_at n w k)
    copied = (project_from n (within_limits s e d.event).sound (opening n) (begin (basic n)) (copies_opening n) (take k w) c.plays).1

    abbrev told : Option Stop
    told = stops_at s e state seen ps

    abbrev unfolded_told : Option Stop
    unfolded_told = unfolded_stop n (marker_at n ps) e told

    same_stop : stopping (basic n) (unfolded_at n w k) j ≡ unfolded_told
    same_stop =
        decided n (within_limits s e d.event).sound (state_at n w k) (unfolded_at n w k) copied j (among n before numbered.sizes j (rw (← all) l)) (marker_at n ps) colour_is
        ∙ rw (event_is, c.here, c.occurred) refl

    same_step : (o : Option Stop) → told ≡ o → unfolded.step_of (stopping (basic n) (unfolded_at n w k) j) ≡ unfolded.step_of (unfolded_stop n (marker_at n ps) e o)
    same_step o z = ap unfolded.step_of (same_stop ∙ ap (unfolded_stop n (marker_at n ps) e) z)

    -- it goes
    module _ (t : told ≡ none) where
      unfolded_can : T (can (basic n) (unfolded_at n w k) j)
      unfolded_can = none_can (basic n) (unfolded_at n w k) j (same_stop ∙ ap (unfolded_stop n (marker_at n ps) e) t)

      table_can : T (can n (marking state) e)
      table_can =
          subst (λ (x : ℕ). T (can n (marking state) x)) event_is
          (subst (λ (m : Marking). T (can n m (origin n j).event)) (sym c.here) (back_can n (within_limits s e d.event).sound (state_at n w k) (unfolded_at n w k) copied j unfolded_can))

      fires : Fires s at state
      fires = record {
        lents = c.lents;
        goes = rw offset_is (sym (stopping_found s (length offsets) numbered.judged e low (marking state)) ∙ can_none n (marking state) e table_can);
      }

      next : take (k + 1) w ≡ take k w ++ (j ∷ [])
      next = rw add-one (take-suc w k 0 h)

      state_next : state_at n w (k + 1) ≡ step n (state_at n w k) e
      state_next =
          ap (λ (y : List ℕ). after n (opening n) (read_back n y)) next ∙ ap (after n (opening n)) (read_snoc n (take k w) j)
          ∙ after_snoc n (opening n) (read_back n (take k w)) (origin n j).event ∙ ap (step n (state_at n w k)) event_is

      walked_on : (new noted : List ℕ) → new ≡ bytes (length state) (fire (record_net s at) (marking state) 0) → noted ≡ set seen e 1 → Walked n w (k + 1) new noted ps ks
      unfolding step
      walked_on new noted z y =
          let limits = within_limits s e d.event in
          let is : new ≡ bytes (length state) (fire n (marking state) e) = z ∙ ap (bytes (length state)) (rw offset_is (sym (fire_found s (length offsets) numbered.judged e (marking state)))) in
          record {
            short = c.short;
            upto = omega arith;
            plays = subst (λ (y : List ℕ). T (runs (basic n) (begin (basic n)) y)) (sym next) (runs_snoc (basic n) (begin (basic n)) (take k w) j c.plays unfolded_can);
            lents = rw is (lent_bytes (length state) (fire n (marking state) e));
            long = ap length is ∙ length_bytes (length state) (fire n (marking state) e) ∙ c.long;
            here =
                ap marking is ∙ fired_marking n limits.sound state e (omega (arith, limits.few_conditions, c.long)) table_can
                ∙ ap (λ (m : Marking). fire n m e) c.here ∙ sym (ap (λ (x : State). x.marking) state_next);
            noted = rw y (lent_set seen e c.noted);
            wide = ap length y ∙ length-set seen e 1 ∙ c.wide;
            occurred =
                ap marking y ∙ seen_set seen e (omega (arith, d.event, limits.few_events, c.wide))
                ∙ ap (λ (m : Marking). λ (x : ℕ). eqb x e || m x) c.occurred ∙ sym (ap (λ (x : State). x.seen) state_next);
            held = d.held;
          }

    pub tried : Tried s offsets ms us begun e state seen ps ks
    tried = record {
      below = low;
      trying = record {
        deciding = record {
          flags = numbered.marked.flags;
          uses = q.equipped.uses;
          event = d.event;
          offset = offset_is;
          start = q.equipped.start;
          held = d.held;
        };
        room = omega (arith, low, few_events s offsets ms before numbered, c.wide);
        fires = fires;
      };
      locating = record {
        counted = record { marked = numbered.marked; uses = q.equipped.uses };
        few = q.equipped.few_conditions;
        all = all;
        event = d.event;
        held = d.held;
      };
    }

    pub step_told : (r : unfolded.Step) (new noted : List ℕ) → r ≡ unfolded.step_of unfolded_told → new ≡ stepped told (bytes (length state) (fire (record_net s at) (marking state) 0)) state
        → noted ≡ stepped told (set seen e 1) seen → Stepped n w k r new noted ps ks
    step_told r new noted t x y = go told refl t x y
      where
        go : (o : Option Stop) → told ≡ o → r ≡ unfolded.step_of (unfolded_stop n (marker_at n ps) e o) → new ≡ stepped o (bytes (length state) (fire (record_net s at) (marking state) 0)) state
            → noted ≡ stepped o (set seen e 1) seen → Stepped n w k r new noted ps ks
        go none z t x y = rw t (walked_on z new noted x y)
        go (some unknown) z t x y = rw t (same_step (some unknown) z)
        go (some (lacks b)) z t x y = rw t (same_step (some (lacks b)) z)
        go (some (meets b)) z t x y = rw t (same_step (some (meets b)) z)
