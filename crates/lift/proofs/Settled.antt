-- What a step of a run picks is settled at the run's end: by the first markers on a first occurrence of its event, and by the later
-- slots on a later one.
use mathlib.Core.Path.{◌≡◌, refl, sym, ◌∙◌, ap, ap₂}
use mathlib.Core.Bool.{Bool, true, false, ◌&&◌, ◌||◌, cond}
use mathlib.Core.Option.{Option, none, some}
use mathlib.Core.List.Memᴰ
use mathlib.Core.List.{List, [], ◌∷◌, map}
use Prim.Native.Nat.{ℕ, suc, ◌<◌}
use native.Mathlib.Omega.{arith}
use native.Mathlib.Decide.{ℕ_discrete}
use lib.Dec.{T, eqb, ltb→lt}
use lib.ListN.{length, get_or, set, length-set}
use lib.Seq.{get_or-set_same, get_or-set_other}
use borrow.Author.Tests.{eq-eqb, ne_eqb}
use Rattle.lists.specs.Lists.{mem, ◌∈◌}
use Rattle.lists.proofs.Bools.{T_of, is_true, not-true}
use Rattle.lists.proofs.Members.{in_mem, keep_out, map_same}
use Rattle.model.specs.Net.{Net, begin, can}
use Rattle.model.specs.Runs.{runs, Marker, by_event, State, opening, step, after}
use Rattle.model.specs.Unfolding.{UnfoldedEvent, markers, reads}
use Rattle.model.specs.Numbering.{number, counted}
use Rattle.model.specs.Across.{or_start, own_or_earliest, coloured, lifted, repeated}
use Rattle.model.proofs.Firing.{runs_first, runs_rest, can_event, can_concession, pre_holds}
use Rattle.model.proofs.Laws.{First, Reached}
use Rattle.model.proofs.Copies.{reached_opening, reached_step, reached_run, marked_in}
use Rattle.model.proofs.Unfolded.{Each, start_marks, event_in, event_uses}
use Rattle.model.proofs.Counts.{number_counted}
use Rattle.model.proofs.Repeats.{repeated_cons}
use Rattle.model.proofs.Own.{own_lawful}
use Rattle.table.specs.Tabled.{Tabled}
use Rattle.firsts.specs.Firsts.{Slot, first_at}
use Rattle.firsts.specs.Walks.{Tells}
use Rattle.later.specs.Later.{Later}
use Rattle.places.specs.Places.{Marking}
use Rattle.places.specs.Numbers as numbers
use Rattle.lift.specs.Played.{numbers_for}
use Rattle.lift.proofs.Later.{later_marking, later_pick}

-- ---- first markers along a run

-- a first marker stays
first_step : (n : Net) (s : State) (e b : ℕ) (m : Marker) → s.first b ≡ some m → (step n s e).first b ≡ some m
unfolding step
first_step n s e b m h = rw h

first_stays : (n : Net) (s : State) (r : List ℕ) (b : ℕ) (m : Marker) → s.first b ≡ some m → (after n s r).first b ≡ some m
unfolding after
first_stays n s [] b m h = h
first_stays n s (e ∷ r) b m h = first_stays n (step n s e) r b m (first_step n s e b m h)

-- what a step reads has its first marker, so that a later state says the same
first_settled : (n : Net) (s : State) → Reached n s → (e : ℕ) → T (can n s.marking e) → (r : List ℕ) (b : ℕ) → n.persistent b ≡ true → T (mem b (n.preconditions e))
    → or_start (s.first b) ≡ or_start ((after n s r).first b)
first_settled n s i e c r b p h = go (s.first b) refl (i.first b p) (pre_holds n s.marking e (can_concession n s.marking e c) b h)
  where
    go : (x : Option Marker) → s.first b ≡ x → First n s b x → T (s.marking b) → or_start (s.first b) ≡ or_start ((after n s r).first b)
    go none z f t = absurd (not-true (s.marking b) f t)
    go (some m) z f t = ap or_start z ∙ sym (ap or_start (first_stays n s r b m z))

-- what a reached state tells is a marker
reached_marking : (n : Net) (s : State) → Reached n s → (slots : List Slot) → Tells s slots → Marking n slots
reached_marking n s i slots f b h p = rw (f.each b h) (go (s.first b) (i.first b p))
  where
    go : (x : Option Marker) → First n s b x → or_start x ∈ markers n b
    go none q = start_marks n b
    go (some m) q = marked_in n s i m b q.1

-- ---- the unfolded event that slots pick, and its number

abbrev picked_by : Net → List Slot → ℕ → UnfoldedEvent
picked_by n slots e = record { event = e; colour = map (λ b. or_start (first_at slots b)) (reads n e) }

module _ (n : Net) (limits : Tabled n) (e : ℕ) (h : e < n.events) where
  read_known : (b : ℕ) → b ∈ reads n e → (b < 256) × (n.persistent b ≡ true) × T (mem b (n.preconditions e))
  unfolding reads
  read_known b i =
      let q = keep_out n.persistent (n.preconditions e) i in
      let low = limits.sound.pre_in e b h (in_mem q.0) in
      (omega (arith, limits.few_conditions), is_true (n.persistent b) q.1, in_mem q.0)

  number_picked : (slots : List Slot) → Marking n slots → (ns : List ℕ) → numbers.Settled n slots ns → number n (picked_by n slots e) ≡ get_or ns e 0
  unfolding counted
  number_picked slots m ns g =
      number_counted n (picked_by n slots e) (event_in n (picked_by n slots e) h (each_marks (reads n e) (λ b i. let k = read_known b i in m b k.0 k.1))) ∙ sym (g.each e h)
    where
      each_marks : (bs : List ℕ) → ((b : ℕ) → b ∈ bs → or_start (first_at slots b) ∈ markers n b) → Each (map (λ b. or_start (first_at slots b)) bs) (map (markers n) bs)
      each_marks [] f = tt
      each_marks (b ∷ bs) f = (f b (Memᴰ.head refl), each_marks bs (λ x k. f x (Memᴰ.tail k)))

-- ---- a run without a repeat

-- the numbers left at a state: an event that has occurred has its later number
record Left (n : Net) (slots later : List Slot) (s : State) (xs : List ℕ) : Type 0 where
  pub long : length xs ≡ 256
  pub each : (e : ℕ) → e < n.events → get_or xs e 0 ≡ number n (picked_by n (cond (s.seen e) later slots) e)

left_step : (n : Net) (slots later : List Slot) (s : State) (xs : List ℕ) → Left n slots later s xs → (e : ℕ) → e < 256 → (x : ℕ) → x ≡ number n (picked_by n later e)
    → Left n slots later (step n s e) (set xs e x)
unfolding step
left_step n slots later s xs g e h x q = record { long = length-set xs e x ∙ g.long; each = λ y k. go y k (ℕ_discrete y e) }
  where
    go : (y : ℕ) → y < n.events → Dec (y ≡ e) → get_or (set xs e x) y 0 ≡ number n (picked_by n (cond (eqb y e || s.seen y) later slots) y)
    go y k (yes z) = rw (z, eq-eqb e e refl, get_or-set_same xs e x 0 (omega (arith, g.long))) q
    go y k (no z) = rw (ne_eqb y e z, get_or-set_other xs e y x 0 z) (g.each y k)

module _ (n : Net) (limits : Tabled n) (slots later : List Slot) (l : Later n slots later) where
  -- an event that has occurred picks by the later slots, and else by the first markers
  coloured_picked : (s : State) → Reached n s → (e : ℕ) → T (can n s.marking e) → (own_or_earliest n).repeats s e ≡ false → (r : List ℕ) → Tells (after n s r) slots
      → coloured n (own_or_earliest n) s e ≡ picked_by n (cond (s.seen e) later slots) e
  unfolding coloured own_or_earliest
  coloured_picked s i e c o r f =
      ap {B = UnfoldedEvent} (λ k. record { event = e; colour = k })
      (map_same ((own_or_earliest n).pick s e) (λ b. or_start (first_at (cond (s.seen e) later slots) b)) (reads n e) each)
    where
      h : e < n.events
      h = ltb→lt e n.events (can_event n s.marking e c)

      go : (b : ℕ) → b < 256 → n.persistent b ≡ true → T (mem b (n.preconditions e)) → (t : Bool) → s.seen e ≡ t
          → cond (t && mem b (n.postconditions e)) (by_event e) (or_start (first_at slots b)) ≡ or_start (first_at (cond t later slots) b)
      go b low p m true q =
          sym (later_pick n slots later l e b low p (event_uses n b e h m) (λ z v u. ((own_lawful n).own_user s e o (T_of (s.seen e) q) b p z v u).0))
      go b low p m false q = refl

      each : (b : ℕ) → b ∈ reads n e → (own_or_earliest n).pick s e b ≡ or_start (first_at (cond (s.seen e) later slots) b)
      each b j =
          let k = read_known n limits e h b j in
          ap (λ (x : Marker). cond (s.seen e && mem b (n.postconditions e)) (by_event e) x)
          (first_settled n s i e c r b k.1 k.2 ∙ ap or_start (sym (f.each b k.0)))
          ∙ go b k.0 k.1 k.2 (s.seen e) refl

  module _ (ms : List ℕ) (d : (e : ℕ) → e < n.events → number n (picked_by n later e) ≡ get_or ms e 0) where
    lifted_left : (s : State) → Reached n s → (k : ℕ) (r : List ℕ) → T (runs n s.marking r) → repeated n (own_or_earliest n) k s r ≡ none → Tells (after n s r) slots
        → (xs : List ℕ) → Left n slots later s xs → lifted n (own_or_earliest n) s r ≡ numbers_for ms xs r
    unfolding lifted after step numbers_for
    lifted_left s i k [] t o f xs g = refl
    lifted_left s i k (e ∷ r) t o f xs g =
        let c = runs_first n s.marking e r t in
        let h = ltb→lt e n.events (can_event n s.marking e c) in
        let a = repeated_cons n (own_or_earliest n) k s e r o in
        ap₂ {C = List ℕ} (λ x y. x ∷ y) (ap (number n) (coloured_picked s i e c a.0 (e ∷ r) f) ∙ sym (g.each e h))
        (lifted_left (step n s e) (reached_step n s i e c) (suc k) r (runs_rest n s.marking e r t) a.1 f (set xs e (get_or ms e 0))
        (left_step n slots later s xs g e (omega (arith, limits.few_events)) (get_or ms e 0) (sym (d e h))))

-- ---- from the start

module _ (n : Net) (r : List ℕ) (t : T (runs n (begin n) r)) (slots : List Slot) (f : Tells (after n (opening n) r) slots) where
  pub firsts_marking : Marking n slots
  unfolding opening
  firsts_marking = reached_marking n (after n (opening n) r) (reached_run n (opening n) (reached_opening n) r t) slots f

  -- The lift of a run without a repeat: the first numbers are by the first markers at its end, the later ones by the later slots.
  pub lifted_is : repeated n (own_or_earliest n) 0 (opening n) r ≡ none → Tabled n → (later : List Slot) → Later n slots later
      → (ns ms : List ℕ) → numbers.Settled n slots ns → numbers.Settled n later ms → lifted n (own_or_earliest n) (opening n) r ≡ numbers_for ms ns r
  unfolding opening
  lifted_is o limits later l ns ms g d =
      lifted_left n limits slots later l ms (λ e h. number_picked n limits e h later (later_marking n slots later l firsts_marking) ms d) (opening n) (reached_opening n) 0 r t o f ns
      (record { long = g.long; each = λ e h. sym (number_picked n limits e h slots firsts_marking ns g) })
