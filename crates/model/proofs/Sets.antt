-- The lists of the unfolding are the paper's sets: its markers and users, its conditions, events and colours, and what each
-- unfolded event takes and puts.
use mathlib.Core.Path.{◌≡◌, refl, sym, ◌∙◌, ap, subst, ap₂}
use mathlib.Core.Bool.{Bool, true, false, ◌&&◌, cond}
use mathlib.Core.Logic.{◌⊎◌, inl, inr, ◌↔◌}
use mathlib.Core.Option.{some}
use mathlib.Core.List.Memᴰ
use mathlib.Core.List.{List, [], ◌∷◌, map}
use Prim.Native.Nat.{ℕ, suc, ◌<◌}
use lib.Dec.{T, eqb, eqb→eq, eqb_refl, leb, ltb}
use lib.ListN.{get_elem?, length}
use native.Mathlib.Omega.{arith}
use Rattle.lists.specs.Lists.{mem, ascending_from, ascending, places_from, keep, count, spread, ◌∈◌}
use Rattle.lists.proofs.Bools.{is_true, T_of, is_false, not-true, and_left, and_right, and_both, or_left, or_right, or_cases}
use Rattle.lists.proofs.Members.{mem_in, in_mem, spread_out, keep_in, keep_out, count_out}
use Rattle.lists.proofs.Places.{at_lt, mem_places, places_ascend, hit_out, places_name}
use Rattle.lists.proofs.Distinct.{ascending_least, ascending_keep}
use Rattle.model.specs.Net.{Net, Sound}
use Rattle.model.specs.Runs.{Marker, at_start, by_event}
use Rattle.model.specs.Unfolding.{same_marker, UnfoldedCondition, ordinary, copy, markers, users, copies, unfolded_conditions, UnfoldedEvent, reads, unfolded_events, picked, takes, puts, begins, origin, basic}
use Rattle.model.specs.Paper.{◌∩◌, ◌≐◌, P, E, pre, Marks, Uses, E', B', pre', post', start', chosen, named}
use Rattle.model.proofs.Unfolded.{same_marker_eq, Each, picked_cases, picked_first, picked_in, choices_each, start_marks, event_marks, event_uses, ordinary_in_lem, copy_in, kind_of, pair_of, event_in, colour_out, colour_picks, origin_in}

module _ (n : Net) where
  -- ---- markers, users and conditions

  -- The markers of a condition are •b.
  pub markers_paper : (b : ℕ) (k : Marker) → (k ∈ markers n b) ↔ Marks n b k
  unfolding markers
  markers_paper b k = (λ i. out (Memᴰ.cases_cons i), λ u. elim u [ inl h ↦ rw h.3 (event_marks n b h.0 h.1 (in_mem h.2)) | inr e ↦ rw e (start_marks n b) ])
    where
      l : List ℕ
      l = keep (λ e. mem b (n.postconditions e)) (count 0 n.events)

      out : (k ≡ at_start) ⊎ (k ∈ map by_event l) → Marks n b k
      out (inl e) = inr e
      out (inr i) =
          let r = Memᴰ.of_map by_event l i in
          let q = keep_out (λ e. mem b (n.postconditions e)) (count 0 n.events) r.1 in
          let c = count_out r.0 0 n.events q.0 in
          inl (r.0, omega arith, mem_in b (n.postconditions r.0) q.1, sym r.2)

  -- The users of a condition are b•.
  pub users_paper : (b u : ℕ) → (u ∈ users n b) ↔ Uses n b u
  unfolding users
  users_paper b u = (
    λ i. let q = keep_out (λ e. mem b (n.preconditions e)) (count 0 n.events) i in
        let l = count_out u 0 n.events q.0 in
        (omega arith, mem_in b (n.preconditions u) q.1),
    λ h. event_uses n b u h.0 (in_mem h.1),
  )

  -- The unfolded conditions are B'.
  pub conditions_paper : (p : UnfoldedCondition) → (p ∈ unfolded_conditions n) ↔ B' n p
  unfolding unfolded_conditions copies
  conditions_paper p = (
    λ i. let r = spread_out (copies n) (count 0 n.conditions) i in
        let l = count_out r.0 0 n.conditions r.1 in
        out r.0 (omega arith) (n.persistent r.0) refl r.2,
    λ u. elim u [
      | inl h ↦ rw h.2 (ordinary_in_lem n h.0 h.1.0 (is_false (n.persistent h.0) h.1.1))
      | inr h ↦ rw h.6 (copy_in n h.0 h.1 h.2 h.3.0 (is_true (n.persistent h.0) h.3.1) ((markers_paper h.0 h.1).1 h.4) ((users_paper h.0 h.2).1 h.5))
    ],
  )
    where
      out : (b : ℕ) → b < n.conditions → (t : Bool) → n.persistent b ≡ t → p ∈ cond t (spread (λ m. map (copy b m) (users n b)) (markers n b)) (ordinary b ∷ []) → B' n p
      out b l true e i =
          let r = spread_out (λ m. map (copy b m) (users n b)) (markers n b) i in
          let q = Memᴰ.of_map (copy b r.0) (users n b) r.2 in
          inr (b, r.0, q.0, (l, T_of (n.persistent b) e), (markers_paper b r.0).0 r.1, (users_paper b q.0).0 q.1, sym q.2)
      out b l false e i = inl (b, (l, not-true (n.persistent b) e), Memᴰ.eq_of_singleton i)

-- ---- colours

-- in a list that ascends the rest picks nothing for the first
rest_apart : (i x : ℕ) (bs : List ℕ) → T (ascending_from i (x ∷ bs)) → (c : List Marker) (k : Marker) → T (picked bs c x k) → ⊥
rest_apart i x bs a c k t = let l = ascending_least (suc x) bs (and_right (leb i x) (ascending_from (suc x) bs) a) x (picked_in bs c x k t) in omega arith

-- for one condition one marker is picked
picked_one : (i : ℕ) (bs : List ℕ) → T (ascending_from i bs) → (c : List Marker) (b : ℕ) (k q : Marker) → T (picked bs c b k) → T (picked bs c b q) → k ≡ q
picked_one i [] a c b k q s t = absurd s
picked_one i (x ∷ bs) a [] b k q s t = absurd s
picked_one i (x ∷ bs) a (y ∷ c) b k q s t =
    go (picked_cases x bs y c b k s) (picked_cases x bs y c b q t) (picked_one (suc x) bs (and_right (leb i x) (ascending_from (suc x) bs) a) c b k q)
  where
    go : ((b ≡ x) × (k ≡ y)) ⊎ T (picked bs c b k) → ((b ≡ x) × (q ≡ y)) ⊎ T (picked bs c b q) → (T (picked bs c b k) → T (picked bs c b q) → k ≡ q) → k ≡ q
    go (inl h) (inl g) ih = h.1 ∙ sym g.1
    go (inl h) (inr s) ih = absurd (rest_apart i x bs a c q (rw (← h.0) s))
    go (inr s) (inl g) ih = absurd (rest_apart i x bs a c k (rw (← g.0) s))
    go (inr s) (inr t) ih = ih s t

module _ (n : Net) where
  -- what is picked is a marker of its condition
  picked_marks : (bs : List ℕ) (c : List Marker) → Each c (map (markers n) bs) → (b : ℕ) (k : Marker) → T (picked bs c b k) → k ∈ markers n b
  picked_marks [] c h b k t = absurd t
  picked_marks (x ∷ bs) [] h b k t = absurd t
  picked_marks (x ∷ bs) (y ∷ c) h b k t =
      elim (picked_cases x bs y c b k t) [ inl g ↦ rw (g.0, g.1) h.0 | inr s ↦ picked_marks bs c h.1 b k s ]

  -- two colours that pick the same are one
  picked_same : (i : ℕ) (bs : List ℕ) → T (ascending_from i bs) → (c d : List Marker) → Each c (map (markers n) bs) → Each d (map (markers n) bs)
      → ((b : ℕ) (k : Marker) → T (picked bs c b k) → T (picked bs d b k)) → c ≡ d
  picked_same i [] a [] [] g h f = refl
  picked_same i [] a [] (z ∷ d) g h f = absurd h
  picked_same i [] a (y ∷ c) d g h f = absurd g
  picked_same i (x ∷ bs) a [] d g h f = absurd g
  picked_same i (x ∷ bs) a (y ∷ c) [] g h f = absurd h
  picked_same i (x ∷ bs) a (y ∷ c) (z ∷ d) g h f =
      ap₂ {C = List Marker} (λ x y. x ∷ y) (first (picked_cases x bs z d x y (f x y (picked_first x bs y c))))
      (picked_same (suc x) bs (and_right (leb i x) (ascending_from (suc x) bs) a) c d g.1 h.1
      (λ b k t. rest b k t (picked_cases x bs z d b k (f b k (or_right (eqb b x && same_marker k y) (picked bs c b k) t)))))
    where
      first : ((x ≡ x) × (y ≡ z)) ⊎ T (picked bs d x y) → y ≡ z
      first (inl e) = e.1
      first (inr t) = absurd (rest_apart i x bs a d y t)

      rest : (b : ℕ) (k : Marker) → T (picked bs c b k) → ((b ≡ x) × (k ≡ z)) ⊎ T (picked bs d b k) → T (picked bs d b k)
      rest b k t (inl e) = absurd (rest_apart i x bs a c k (rw (← e.0) t))
      rest b k t (inr s) = s

  -- ---- unfolded events

  -- the persistent preconditions of an event are •e ∩ P
  reads_out : (e b : ℕ) → b ∈ reads n e → (pre n e ∩ P n) b
  unfolding reads
  reads_out e b i = keep_out n.persistent (n.preconditions e) i

  reads_ascend : Sound n → (e : ℕ) → E n e → T (ascending (reads n e))
  unfolding reads
  reads_ascend s e h = ascending_keep n.persistent 0 (n.preconditions e) (s.pre_ascends_lem e h)

  -- each of an unfolded event's markers is of its condition
  each_of : (x : UnfoldedEvent) → x ∈ unfolded_events n → Each x.colour (map (markers n) (reads n x.event))
  each_of x i = choices_each (map (markers n) (reads n x.event)) x.colour (colour_out n x i).1

  -- Each unfolded event is one of E',
  pub colours_paper : Sound n → (x : UnfoldedEvent) → x ∈ unfolded_events n → E' n x.event (chosen n x)
  colours_paper s x i = (
    (colour_out n x i).0,
    record {
      chooses = λ b h. let r = colour_picks n x i b h.1 (in_mem h.0) in (r.0, r.2);
      one = λ b k q. picked_one 0 (reads n x.event) (reads_ascend s x.event (colour_out n x i).0) x.colour b k q;
      from = λ b k t. (
        reads_out x.event b (picked_in (reads n x.event) x.colour b k t),
        (markers_paper n b k).0 (picked_marks (reads n x.event) x.colour (each_of x i) b k t),
      );
    },
  )

  -- a choice of one marker for each member of a list, as the list of the markers chosen
  gather : (c : ℕ → Marker → Type 0) → ((b : ℕ) (k q : Marker) → c b k → c b q → k ≡ q) → (bs : List ℕ) → ((b : ℕ) → b ∈ bs → (k : Marker) × (k ∈ markers n b) × c b k)
      → (d : List Marker) × Each d (map (markers n) bs) × ((b : ℕ) (k : Marker) → T (picked bs d b k) → c b k) × ((b : ℕ) (k : Marker) → b ∈ bs → c b k → T (picked bs d b k))
  gather c one [] f = ([], tt, λ b k t. absurd t, λ b k i h. absurd (Memᴰ.not-nil i))
  gather c one (x ∷ bs) f =
      let y = f x (Memᴰ.head refl) in
      let r = gather c one bs (λ b i. f b (Memᴰ.tail i)) in (
        y.0 ∷ r.0,
        (y.1, r.1),
        λ b k t. elim (picked_cases x bs y.0 r.0 b k t) [ inl e ↦ rw (e.0, e.1) y.2 | inr s ↦ r.2 b k s ],
        λ b k i h. elim (Memᴰ.cases_cons i) [
          | inl e ↦ rw (e, one x k y.0 (rw e at h) y.2) (picked_first x bs y.0 r.0)
          | inr j ↦ or_right (eqb b x && same_marker k y.0) (picked bs r.0 b k) (r.3 b k j h)
        ],
      )

  -- each of E' is an unfolded event,
  pub colours_all : (e : ℕ) (c : ℕ → Marker → Type 0) → E' n e c
      → (x : UnfoldedEvent) × (x ∈ unfolded_events n) × (x.event ≡ e) × ((b : ℕ) (k : Marker) → chosen n x b k ↔ c b k)
  unfolding reads
  colours_all e c f =
      let h = f.0 in
      let d = f.1 in
      let r = gather c d.one (reads n e) (λ b i. let y = d.chooses b (reads_out e b i) in (y.0, (markers_paper n b y.0).1 (d.from b y.0 y.1).1, y.1)) in
      let x : UnfoldedEvent = record { event = e; colour = r.0 } in (
        x,
        event_in n x h r.1,
        refl,
        λ b k. (r.2 b k, λ t. let i = (d.from b k t).0 in r.3 b k (keep_in n.persistent i.0 i.1) t),
      )

  -- and no two unfolded events are the same one of E'.
  pub colours_one : Sound n → (x y : UnfoldedEvent) → x ∈ unfolded_events n → y ∈ unfolded_events n → x.event ≡ y.event
      → ((b : ℕ) (k : Marker) → chosen n x b k ↔ chosen n y b k) → x ≡ y
  colours_one s x y i j e f =
      ap₂ {C = UnfoldedEvent} (λ e c. record { event = e; colour = c }) e
      (picked_same 0 (reads n x.event) (reads_ascend s x.event (colour_out n x i).0) x.colour y.colour (each_of x i)
      (rw e (each_of y j)) (λ b k t. rw e ((f b k).0 t)))

-- ---- what an unfolded event takes and puts, and the start

through : {A B C : Type 0} → A ↔ B → B ↔ C → A ↔ C
through f g = (λ a. g.0 (f.0 a), λ c. f.1 (g.1 c))

module _ (n : Net) (s : Sound n) where
  -- an ordinary condition, and the copies that the paper makes of a persistent one, are unfolded conditions
  ordinary_there : (b : ℕ) → b < n.conditions → (P n b → ⊥) → ordinary b ∈ unfolded_conditions n
  ordinary_there b l f = (conditions_paper n (ordinary b)).1 (inl (b, (l, f), refl))

  copy_there : (b : ℕ) (k : Marker) (u : ℕ) → b < n.conditions → P n b → Marks n b k → Uses n b u → copy b k u ∈ unfolded_conditions n
  copy_there b k u l p g h = (conditions_paper n (copy b k u)).1 (inr (b, k, u, (l, p), g, h, refl))

  module _ (x : UnfoldedEvent) (i : x ∈ unfolded_events n) where
    -- a copy that its colour chooses is an unfolded condition, and is what it takes of the persistent ones
    chosen_there : (b : ℕ) (k : Marker) → chosen n x b k → copy b k x.event ∈ unfolded_conditions n
    chosen_there b k t =
        let r = colours_paper n s x i in
        let g = r.1.from b k t in
        copy_there b k x.event (s.pre_in x.event b r.0 (in_mem g.0.0)) g.0.1 g.1 (r.0, g.0.0)

    chosen_taken : (b : ℕ) (k : Marker) → chosen n x b k → T (takes n x (copy b k x.event))
    unfolding takes
    chosen_taken b k t = and_both (eqb x.event x.event) (picked (reads n x.event) x.colour b k) (eqb_refl x.event) t

    taken_chosen : (b : ℕ) (k : Marker) (u : ℕ) → T (takes n x (copy b k u)) → (d : ℕ) × (q : Marker) × chosen n x d q × (copy b k u ≡ copy d q x.event)
    unfolding takes
    taken_chosen b k u t =
        let c = picked (reads n x.event) x.colour b k in
        (b, k, and_right (eqb u x.event) c t, ap (copy b k) (eqb→eq u x.event (and_left (eqb u x.event) c t)))

    -- what it takes, and what it puts
    takes_paper : (p : UnfoldedCondition) → ((p ∈ unfolded_conditions n) × T (takes n x p)) ↔ pre' n x.event (chosen n x) p
    unfolding takes
    takes_paper p = (λ h. out p h.0 h.1, into)
      where
        out : (p : UnfoldedCondition) → p ∈ unfolded_conditions n → T (takes n x p) → pre' n x.event (chosen n x) p
        out (ordinary b) i t = inl (b, (mem_in b (n.preconditions x.event) t, not-true (n.persistent b) (kind_of n (ordinary b) i)), refl)
        out (copy b k u) i t = inr (taken_chosen b k u t)

        into : pre' n x.event (chosen n x) p → (p ∈ unfolded_conditions n) × T (takes n x p)
        into (inl h) =
            let t = in_mem h.1.0 in
            rw h.2 (ordinary_there h.0 (s.pre_in x.event h.0 (colour_out n x i).0 t) h.1.1, t)
        into (inr h) = rw h.3 (chosen_there h.0 h.1 h.2, chosen_taken h.0 h.1 h.2)

    puts_paper : (p : UnfoldedCondition) → ((p ∈ unfolded_conditions n) × T (puts n x p)) ↔ post' n x.event (chosen n x) p
    unfolding puts
    puts_paper p = (λ h. out p h.0 h.1, into)
      where
        out : (p : UnfoldedCondition) → p ∈ unfolded_conditions n → T (puts n x p) → post' n x.event (chosen n x) p
        out (ordinary b) i t = inl (inl (b, (mem_in b (n.postconditions x.event) t, not-true (n.persistent b) (kind_of n (ordinary b) i)), refl))
        out (copy b k u) i t =
            let own = same_marker k (by_event x.event) in
            let put = mem b (n.postconditions x.event) in
            or_cases (takes n x (copy b k u)) (own && put) t (λ c. inr (taken_chosen b k u c))
            (λ c. inl (inr (
              b,
              u,
              (mem_in b (n.postconditions x.event) (and_right own put c), T_of (n.persistent b) (kind_of n (copy b k u) i)),
              (users_paper n b u).0 (pair_of n (copy b k u) i).1,
              ap (λ (k : Marker). copy b k u) (same_marker_eq k (by_event x.event) (and_left own put c)),
            )))

        into : post' n x.event (chosen n x) p → (p ∈ unfolded_conditions n) × T (puts n x p)
        into (inl (inl h)) =
            let t = in_mem h.1.0 in
            rw h.2 (ordinary_there h.0 (s.post_in x.event h.0 (colour_out n x i).0 t) h.1.1, t)
        into (inl (inr h)) =
            let e = (colour_out n x i).0 in
            let t = in_mem h.2.0 in
            let own = eqb x.event x.event in
            let put = mem h.0 (n.postconditions x.event) in
            let p = copy h.0 (by_event x.event) h.1 in
            rw h.4 (
              copy_there h.0 (by_event x.event) h.1 (s.post_in x.event h.0 e t) h.2.1 (inl (x.event, e, h.2.0, refl)) h.3,
              or_right (takes n x p) (own && put) (and_both own put (eqb_refl x.event) t),
            )
        into (inr h) =
            let p = copy h.0 h.1 x.event in
            rw h.3 (
              chosen_there h.0 h.1 h.2,
              or_left (takes n x p) (same_marker h.1 (by_event x.event) && mem h.0 (n.postconditions x.event)) (chosen_taken h.0 h.1 h.2),
            )

  -- what holds at the start
  begins_paper : (p : UnfoldedCondition) → ((p ∈ unfolded_conditions n) × T (begins n p)) ↔ start' n p
  unfolding begins
  begins_paper p = (λ h. out p h.0 h.1, into)
    where
      out : (p : UnfoldedCondition) → p ∈ unfolded_conditions n → T (begins n p) → start' n p
      out (ordinary b) i t = inl (b, (mem_in b n.start t, not-true (n.persistent b) (kind_of n (ordinary b) i)), refl)
      out (copy b k u) i t =
          inr (
            b,
            u,
            (mem_in b n.start (and_right (same_marker k at_start) (mem b n.start) t), T_of (n.persistent b) (kind_of n (copy b k u) i)),
            (users_paper n b u).0 (pair_of n (copy b k u) i).1,
            ap (λ (k : Marker). copy b k u) (same_marker_eq k at_start (and_left (same_marker k at_start) (mem b n.start) t)),
          )

      into : start' n p → (p ∈ unfolded_conditions n) × T (begins n p)
      into (inl h) = let t = in_mem h.1.0 in rw h.2 (ordinary_there h.0 (s.start_in h.0 t) h.1.1, t)
      into (inr h) = let t = in_mem h.2.0 in rw h.4 (copy_there h.0 at_start h.1 (s.start_in h.0 t) h.2.1 (inr refl) h.3, t)

  -- The preconditions of an unfolded event are pre'(e, c).
  pub pre_paper : (j : ℕ) → T (ltb j (basic n).events) → named n ((basic n).preconditions j) ≐ pre' n (origin n j).event (chosen n (origin n j))
  unfolding basic
  pre_paper j h p = through (places_name (takes n (origin n j)) (unfolded_conditions n) p) (takes_paper (origin n j) (origin_in n j h) p)

  -- Its postconditions are post'(e, c).
  pub post_paper : (j : ℕ) → T (ltb j (basic n).events) → named n ((basic n).postconditions j) ≐ post' n (origin n j).event (chosen n (origin n j))
  unfolding basic
  post_paper j h p = through (places_name (puts n (origin n j)) (unfolded_conditions n) p) (puts_paper (origin n j) (origin_in n j h) p)

  -- The unfolded start is that of the paper.
  pub start_paper : named n (basic n).start ≐ start' n
  unfolding basic
  start_paper p = through (places_name (begins n) (unfolded_conditions n) p) (begins_paper p)

-- ---- the lists of the unfolded net

module _ (n : Net) where
  -- Each list ascends, so that it names nothing twice.
  pub lists_ascend : (j : ℕ) → T (ascending ((basic n).preconditions j)) × T (ascending ((basic n).postconditions j)) × T (ascending (basic n).start)
  unfolding basic
  lists_ascend j = (
    places_ascend (takes n (origin n j)) (unfolded_conditions n),
    places_ascend (puts n (origin n j)) (unfolded_conditions n),
    places_ascend (begins n) (unfolded_conditions n),
  )

  -- each number in a list names an unfolded condition
  abbrev pub Names : List ℕ → Type 0
  Names l = (k : ℕ) → k ∈ l → (p : UnfoldedCondition) × (get_elem? (unfolded_conditions n) k ≡ some p)

  places_names : (t : UnfoldedCondition → Bool) → Names (places_from 0 t (unfolded_conditions n))
  places_names t k i =
      let r = hit_out t (get_elem? (unfolded_conditions n) k) (subst T (mem_places t (unfolded_conditions n) k) (in_mem i)) in
      (r.0, r.1)

  -- Each number in the unfolded net's lists names an unfolded condition, and one only.
  pub named_one : (j : ℕ) → Names ((basic n).preconditions j) × Names ((basic n).postconditions j) × Names (basic n).start
  unfolding basic
  named_one j = (places_names (takes n (origin n j)), places_names (puts n (origin n j)), places_names (begins n))

  -- The unfolded net is sound.
  pub basic_sound : Sound (basic n)
  unfolding basic
  basic_sound = record {
    pre_in = λ e b h t. below ((basic n).preconditions e) (named_one e).0 b t;
    post_in = λ e b h t. below ((basic n).postconditions e) (named_one e).1 b t;
    start_in = λ b t. below (basic n).start (named_one 0).2 b t;
    pre_ascends_lem = λ e h. (lists_ascend e).0;
    post_ascends_lem = λ e h. (lists_ascend e).1;
    start_ascends = (lists_ascend 0).2;
  }
    where
      below : (l : List ℕ) → Names l → (b : ℕ) → T (mem b l) → b < length (unfolded_conditions n)
      below l f b t = let r = f b (mem_in b l t) in at_lt (unfolded_conditions n) b r.1
