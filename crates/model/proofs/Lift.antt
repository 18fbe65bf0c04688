-- Demand 2, forth: every run of the table without a repeat lifts to a run of the unfolded net that reads back as itself.
use mathlib.Core.Path.{◌≡◌, refl, sym, ◌∙◌, ap, subst, ap₂}
use mathlib.Core.Bool.{true, false, ◌&&◌, ◌||◌}
use mathlib.Core.Logic.{◌⊎◌, inl, inr}
use mathlib.Core.Option.{none, some}
use mathlib.Core.List.Memᴰ
use mathlib.Core.List.{List, [], ◌∷◌, map}
use Prim.Native.Nat.{ℕ, suc}
use lib.Dec.{T, eqb, eqb→eq, eqb_refl, ltb→lt, lt→ltb}
use lib.ListN.{get_elem?, length}
use Rattle.lists.specs.Lists.{mem, count, ◌∈◌}
use Rattle.lists.proofs.Bools.{T_of, and_left, and_right, and_both, or_left, or_right, or_cases}
use Rattle.lists.proofs.Members.{mem_in, keep_in, keep_out}
use Rattle.lists.proofs.Places.{in_at, at_lt, at_get_d}
use Rattle.model.specs.Net.{Net, Marking, begin, free, can, fire}
use Rattle.model.specs.Runs.{runs, end, Marker, by_event, State, opening, step, after}
use Rattle.model.specs.Unfolding.{same_marker, UnfoldedCondition, ordinary, copy, markers, users, unfolded_conditions, UnfoldedEvent, reads, unfolded_events, picked, takes, puts, origin, basic}
use Rattle.model.specs.Numbering.{number}
use Rattle.model.specs.Across.{Lifting, coloured, lifted, repeated, read_back}
use Rattle.model.proofs.Firing.{runs_first, runs_rest, runs_cons, can_event, can_concession, can_of, pre_holds, unblocked, concession_intro}
use Rattle.model.proofs.Unfolded.{same_marker_refl, same_marker_eq, Each, Kind, kind_of, pair_of, event_in, takes_at, puts_at, in_pre, in_post, free_ordinary, free_copy}
use Rattle.model.proofs.Numbers.{number_at}
use Rattle.model.proofs.Laws.{marked, Lawful}
use Rattle.model.proofs.Copies.{marked_in, status, Copies, copies_opening, copies_step}
use Rattle.model.proofs.Repeats.{repeated_cons}

each_of : (g : ℕ → Marker) (ms : ℕ → List Marker) (bs : List ℕ) → ((b : ℕ) → b ∈ bs → g b ∈ ms b) → Each (map g bs) (map ms bs)
each_of g ms [] h = tt
each_of g ms (b ∷ bs) h = (h b (Memᴰ.head refl), each_of g ms bs (λ x i. h x (Memᴰ.tail i)))

picked_map : (g : ℕ → Marker) (bs : List ℕ) (b : ℕ) (k : Marker) → T (picked bs (map g bs) b k) → T (mem b bs) × (k ≡ g b)
picked_map g [] b k t = absurd t
picked_map g (x ∷ bs) b k t =
    or_cases (eqb b x && same_marker k (g x)) (picked bs (map g bs) b k) t
    (λ t.
    let e = and_left (eqb b x) (same_marker k (g x)) t in (
      or_left (eqb b x) (mem b bs) e,
      same_marker_eq k (g x) (and_right (eqb b x) (same_marker k (g x)) t) ∙ ap g (sym (eqb→eq b x e)),
    ))
    (λ t. let r = picked_map g bs b k t in (or_right (eqb b x) (mem b bs) r.0, r.1))

picked_at : (g : ℕ → Marker) (bs : List ℕ) (b : ℕ) → b ∈ bs → T (picked bs (map g bs) b (g b))
picked_at g [] b i = absurd (Memᴰ.not-nil i)
picked_at g (x ∷ bs) b i = go (Memᴰ.cases_cons i) (picked_at g bs b)
  where
    go : (b ≡ x) ⊎ (b ∈ bs) → (b ∈ bs → T (picked bs (map g bs) b (g b))) → T (eqb b x && same_marker (g b) (g x) || picked bs (map g bs) b (g b))
    go (inl q) ih =
        or_left (eqb b x && same_marker (g b) (g x)) (picked bs (map g bs) b (g b))
        (and_both (eqb b x) (same_marker (g b) (g x)) (subst (λ (y : ℕ). T (eqb b y)) q (eqb_refl b)) (subst (λ (y : ℕ). T (same_marker (g b) (g y))) q (same_marker_refl (g b))))
    go (inr j) ih = or_right (eqb b x && same_marker (g b) (g x)) (picked bs (map g bs) b (g b)) (ih j)

-- ---- a step of the table lifts to a step of the unfolded net

module _ (n : Net) (l : Lifting) (law : Lawful n l) (s : State) (u : Marking) (i : Copies n s u) (e : ℕ) (c : T (can n s.marking e)) (o : l.repeats s e ≡ false) where
  abbrev colour : List Marker
  colour = map (l.pick s e) (reads n e)

  abbrev this : UnfoldedEvent
  this = record { event = e; colour = colour }

  abbrev j : ℕ
  j = number n this

  pick_marked : (b : ℕ) → b ∈ reads n e → T (marked n s (l.pick s e b) b)
  pick_marked b h = law.picks_marked s i.reached e c b h

  lift_number : get_elem? (unfolded_events n) j ≡ some this
  lift_number =
      number_at n this
      (event_in n this (ltb→lt e n.events (can_event n s.marking e c))
      (each_of (l.pick s e) (markers n) (reads n e) (λ b h. marked_in n s i.reached (l.pick s e b) b (pick_marked b h))))

  pub lift_origin : origin n j ≡ this
  unfolding origin
  lift_origin = at_get_d (unfolded_events n) j (record { event = 0; colour = [] }) lift_number

  -- what it takes holds
  taken : (p : UnfoldedCondition) → T (takes n this p) → T (status n s p)
  unfolding takes status reads
  taken (ordinary b) t = pre_holds n s.marking e (can_concession n s.marking e c) b t
  taken (copy b q v) t =
      let r = picked_map (l.pick s e) (reads n e) b q (and_right (eqb v e) (picked (reads n e) colour b q) t) in
      rw r.1 (pick_marked b (mem_in b (reads n e) r.0))

  takes_here : (k : ℕ) (p : UnfoldedCondition) → get_elem? (unfolded_conditions n) k ≡ some p → mem k ((basic n).preconditions j) ≡ takes n this p
  takes_here k p h = takes_at n j k p h ∙ ap (λ (x : UnfoldedEvent). takes n x p) lift_origin

  puts_here : (k : ℕ) (p : UnfoldedCondition) → get_elem? (unfolded_conditions n) k ≡ some p → mem k ((basic n).postconditions j) ≡ puts n this p
  puts_here k p h = puts_at n j k p h ∙ ap (λ (x : UnfoldedEvent). puts n x p) lift_origin

  lift_pre : (k : ℕ) → T (mem k ((basic n).preconditions j)) → T (u k)
  lift_pre k t =
      let r = in_pre n j k t in
      subst T (sym (i.holding k r.0 r.1)) (taken r.0 (subst T (ap (λ (x : UnfoldedEvent). takes n x r.0) lift_origin) r.2))

  -- a copy that it marked before is its own, and taken
  takes_own : (b v : ℕ) → n.persistent b ≡ true → v ∈ users n b → T (s.seen e) → T (mem b (n.postconditions e)) → T (takes n this (copy b (by_event e) v))
  unfolding takes users reads
  takes_own b v p h t z =
      let w = law.own_user s e o t b p z v h in
      let r : T (mem b (n.preconditions e)) = subst (λ (y : ℕ). T (mem b (n.preconditions y))) w.0 (keep_out (λ e. mem b (n.preconditions e)) (count 0 n.events) h).1 in
      and_both (eqb v e) (picked (reads n e) colour b (by_event e)) (subst (λ (y : ℕ). T (eqb y e)) (sym w.0) (eqb_refl e))
      (subst (λ (q : Marker). T (picked (reads n e) colour b q)) w.1 (picked_at (l.pick s e) (reads n e) b (keep_in n.persistent (mem_in b (n.preconditions e) r) (T_of (n.persistent b) p))))

  -- what it puts does not block
  no_clash : (k : ℕ) (p : UnfoldedCondition) → get_elem? (unfolded_conditions n) k ≡ some p → Kind n p → T (puts n this p) → T (status n s p) → T (free (basic n) j k)
  unfolding puts status marked
  no_clash k (ordinary b) a q t h =
      subst T (sym (free_ordinary n j k b a q ∙ ap (λ (x : UnfoldedEvent). free n x.event b) lift_origin)) (unblocked n s.marking e (can_concession n s.marking e c) b t h)
  no_clash k (copy b q v) a p t h =
      subst T (sym (free_copy n j k b q v a ∙ takes_here k (copy b q v) a))
      (or_cases (takes n this (copy b q v)) (same_marker q (by_event e) && mem b (n.postconditions e)) t (λ t. t)
      (λ t.
      let x = same_marker_eq q (by_event e) (and_left (same_marker q (by_event e)) (mem b (n.postconditions e)) t) in
      let y : T (s.seen e && mem b (n.postconditions e)) = subst (λ (q : Marker). T (marked n s q b)) x h in
      subst (λ (q : Marker). T (takes n this (copy b q v))) (sym x)
      (takes_own b v p (pair_of n (copy b q v) (in_at (unfolded_conditions n) k a)).1 (and_left (s.seen e) (mem b (n.postconditions e)) y) (and_right (s.seen e) (mem b (n.postconditions e)) y))))

  lift_post : (k : ℕ) → T (mem k ((basic n).postconditions j)) → T (u k) → T (free (basic n) j k)
  lift_post k t h =
      let r = in_post n j k t in
      no_clash k r.0 r.1 (kind_of n r.0 (in_at (unfolded_conditions n) k r.1)) (subst T (puts_here k r.0 r.1) t) (subst T (i.holding k r.0 r.1) h)

  pub lift_can : T (can (basic n) u j)
  unfolding basic
  lift_can =
      can_of (basic n) u j (lt→ltb j (length (unfolded_events n)) (at_lt (unfolded_events n) j lift_number))
      (concession_intro (basic n) u j lift_pre (λ k t p h. lift_post k t h))

  pub lift_step : Copies n (step n s e) (fire (basic n) u j)
  lift_step =
      subst (λ (x : UnfoldedEvent). T (can n s.marking x.event) → Copies n (step n s x.event) (fire (basic n) u j)) lift_origin
      (copies_step n s u i j lift_can) c

-- what a lifted run comes to
pub record Lifted (n : Net) (s : State) (u : Marking) (r w : List ℕ) : Type 0 where
  pub run : T (runs (basic n) u w)
  pub back : read_back n w ≡ r
  pub reach : Copies n (after n s r) (end (basic n) u w)

pub lift_runs : (n : Net) (l : Lifting) → Lawful n l → (s : State) (u : Marking) → Copies n s u → (k : ℕ) (r : List ℕ) → T (runs n s.marking r) → repeated n l k s r ≡ none
    → Lifted n s u r (lifted n l s r)
unfolding lifted coloured read_back runs end after step
lift_runs n l law s u i k [] t o = record { run = tt; back = refl; reach = i }
lift_runs n l law s u i k (e ∷ r) t o =
    let a = repeated_cons n l k s e r o in
    let c = runs_first n s.marking e r t in
    let j = number n (coloured n l s e) in
    let h = lift_runs n l law (step n s e) (fire (basic n) u j) (lift_step n l law s u i e c a.0) (suc k) r (runs_rest n s.marking e r t) a.1 in
    record {
      run = runs_cons (basic n) u j (lifted n l (step n s e) r) (lift_can n l law s u i e c a.0) h.run;
      back = ap₂ {C = List ℕ} (λ x y. x ∷ y) (ap (λ (x : UnfoldedEvent). x.event) (lift_origin n l law s u i e c a.0)) h.back;
      reach = h.reach;
    }

-- Every accepted run of the table without a repeat becomes a run of the unfolded net that reads back as itself.
pub lifting_runs : (n : Net) (l : Lifting) → Lawful n l → (r : List ℕ) → T (runs n (begin n) r) → repeated n l 0 (opening n) r ≡ none
    → Lifted n (opening n) (begin (basic n)) r (lifted n l (opening n) r)
unfolding opening
lifting_runs n l law r t o = lift_runs n l law (opening n) (begin (basic n)) (copies_opening n) 0 r t o
