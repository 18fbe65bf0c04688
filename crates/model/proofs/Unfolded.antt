-- Which unfolded conditions and events there are, and what the lists of the unfolded net hold.
use mathlib.Core.Path.{◌≡◌, refl, sym, ◌∙◌, ap, ap₂, subst}
use mathlib.Core.Bool.{Bool, true, false, not, ◌&&◌, cond}
use mathlib.Core.Logic.{◌⊎◌, inl, inr}
use mathlib.Core.Option.{some}
use mathlib.Core.List.Memᴰ
use mathlib.Core.List.{List, [], ◌∷◌, map}
use Prim.Native.Nat.{ℕ, suc, ◌<◌, zero-le}
use lib.Dec.{T, eqb, eqb→eq, eqb_refl, ltb, ltb→lt}
use lib.ListN.{get_elem?, length}
use native.Mathlib.Omega.{arith}
use Rattle.lists.specs.Lists.{mem, count, spread, ◌∈◌, index}
use Rattle.lists.proofs.Bools.{and_left, and_right, and_both, or_left, or_right, or_cases}
use Rattle.lists.proofs.Members.{mem_in, spread_in, spread_out, keep_in, count_in_lem, count_out}
use Rattle.lists.proofs.Places.{in_at, at_some, hit, mem_places, hit_out}
use Rattle.model.specs.Net.{Net, begin, free}
use Rattle.model.specs.Runs.{Marker, at_start, by_event}
use Rattle.model.specs.Unfolding.{same_marker, UnfoldedCondition, ordinary, copy, markers, users, copies, unfolded_conditions, UnfoldedEvent, reads, choices, colours, unfolded_events, picked, takes, puts, begins, follows, origin, basic}
use Rattle.model.proofs.Firing.{free_taken}

pub same_marker_refl : (m : Marker) → T (same_marker m m)
same_marker_refl at_start = tt
same_marker_refl (by_event e) = eqb_refl e

pub same_marker_eq : (m k : Marker) → T (same_marker m k) → m ≡ k
same_marker_eq at_start at_start t = refl
same_marker_eq at_start (by_event e) t = absurd t
same_marker_eq (by_event e) at_start t = absurd t
same_marker_eq (by_event e) (by_event f) t = ap by_event (eqb→eq e f t)

-- markers by event stand where their events stand
pub index_events : (e : ℕ) (l : List ℕ) → index (same_marker (by_event e)) (map by_event l) ≡ index (eqb e) l
index_events e [] = refl
index_events e (x ∷ l) = ap (λ (k : ℕ). cond (eqb e x) 0 (suc k)) (index_events e l)

-- a colour has one of each list
abbrev pub Each : List Marker → List (List Marker) → Type 0
Each [] [] = Unit {0}
Each [] (ms ∷ mss) = ⊥
Each (m ∷ c) [] = ⊥
Each (m ∷ c) (ms ∷ mss) = (m ∈ ms) × Each c mss

-- what is picked is picked by the first of the list, or by the rest
pub picked_cases : (x : ℕ) (bs : List ℕ) (y : Marker) (c : List Marker) (b : ℕ) (k : Marker) → T (picked (x ∷ bs) (y ∷ c) b k) → ((b ≡ x) × (k ≡ y)) ⊎ T (picked bs c b k)
picked_cases x bs y c b k t =
    or_cases (eqb b x && same_marker k y) (picked bs c b k) t
    (λ s. inl (eqb→eq b x (and_left (eqb b x) (same_marker k y) s), same_marker_eq k y (and_right (eqb b x) (same_marker k y) s))) inr

pub picked_first : (x : ℕ) (bs : List ℕ) (y : Marker) (c : List Marker) → T (picked (x ∷ bs) (y ∷ c) x y)
picked_first x bs y c = or_left (eqb x x && same_marker y y) (picked bs c x y) (and_both (eqb x x) (same_marker y y) (eqb_refl x) (same_marker_refl y))

pub picked_in : (bs : List ℕ) (c : List Marker) (b : ℕ) (k : Marker) → T (picked bs c b k) → b ∈ bs
picked_in [] c b k t = absurd t
picked_in (x ∷ bs) [] b k t = absurd t
picked_in (x ∷ bs) (y ∷ c) b k t =
    elim (picked_cases x bs y c b k t) [ inl h ↦ Memᴰ.head h.0 | inr s ↦ Memᴰ.tail (picked_in bs c b k s) ]

-- a member of the choices has one of each list
pub choices_each : (mss : List (List Marker)) (c : List Marker) → c ∈ choices mss → Each c mss
choices_each [] c i = rw (Memᴰ.eq_of_singleton i) tt
choices_each (ms ∷ mss) c i =
    let r = spread_out (λ m. map (m ∷◌) (choices mss)) ms i in
    let q = Memᴰ.of_map (r.0 ∷◌) (choices mss) r.2 in
    subst (λ (c : List Marker). Each c (ms ∷ mss)) q.2 (r.1, choices_each mss q.0 q.1)

pub choices_in : (mss : List (List Marker)) (c : List Marker) → Each c mss → c ∈ choices mss
choices_in [] [] h = Memᴰ.head refl
choices_in [] (m ∷ c) h = absurd h
choices_in (ms ∷ mss) [] h = absurd h
choices_in (ms ∷ mss) (m ∷ c) h = spread_in (λ m. map (m ∷◌) (choices mss)) h.0 (Memᴰ.map (m ∷◌) (choices_in mss c h.1))

module _ (n : Net) where
  -- ---- markers and users

  pub start_marks : (b : ℕ) → at_start ∈ markers n b
  unfolding markers
  start_marks b = Memᴰ.head refl

  pub event_marks : (b e : ℕ) → e < n.events → T (mem b (n.postconditions e)) → by_event e ∈ markers n b
  unfolding markers
  event_marks b e h t = Memᴰ.tail (Memᴰ.map by_event (keep_in (λ e. mem b (n.postconditions e)) (count_in_lem e 0 n.events zero-le (omega arith)) t))

  pub event_uses : (b e : ℕ) → e < n.events → T (mem b (n.preconditions e)) → e ∈ users n b
  unfolding users
  event_uses b e h t = keep_in (λ e. mem b (n.preconditions e)) (count_in_lem e 0 n.events zero-le (omega arith)) t

  -- ---- unfolded conditions

  pub ordinary_in_lem : (b : ℕ) → b < n.conditions → n.persistent b ≡ false → ordinary b ∈ unfolded_conditions n
  unfolding unfolded_conditions copies
  ordinary_in_lem b h e = spread_in (copies n) (count_in_lem b 0 n.conditions zero-le (omega arith)) (rw e (Memᴰ.head refl))

  pub copy_in : (b : ℕ) (m : Marker) (u : ℕ) → b < n.conditions → n.persistent b ≡ true → m ∈ markers n b → u ∈ users n b → copy b m u ∈ unfolded_conditions n
  unfolding unfolded_conditions copies
  copy_in b m u h e hm hu =
      spread_in (copies n) (count_in_lem b 0 n.conditions zero-le (omega arith))
      (rw e (spread_in (λ m. map (copy b m) (users n b)) hm (Memᴰ.map (copy b m) hu)))

  -- an unfolded condition that is no copy is an ordinary condition's, a copy a persistent one's
  abbrev pub Kind : UnfoldedCondition → Type 0
  Kind (ordinary b) = n.persistent b ≡ false
  Kind (copy b m u) = n.persistent b ≡ true

  kind : (b : ℕ) (t : Bool) (p : UnfoldedCondition) → n.persistent b ≡ t → p ∈ cond t (spread (λ m. map (copy b m) (users n b)) (markers n b)) (ordinary b ∷ []) → Kind p
  kind b true p e h =
      let r = spread_out (λ m. map (copy b m) (users n b)) (markers n b) h in
      let q = Memᴰ.of_map (copy b r.0) (users n b) r.2 in
      subst Kind q.2 e
  kind b false p e h = subst Kind (sym (Memᴰ.eq_of_singleton h)) e

  pub kind_of : (p : UnfoldedCondition) → p ∈ unfolded_conditions n → Kind p
  unfolding unfolded_conditions copies
  kind_of p h = let r = spread_out (copies n) (count 0 n.conditions) h in kind r.0 (n.persistent r.0) p refl r.2

  -- a copy is for a marker and a user of its condition
  abbrev pub Pair : UnfoldedCondition → Type 0
  Pair (ordinary b) = Unit {0}
  Pair (copy b m u) = (m ∈ markers n b) × (u ∈ users n b)

  pair : (b : ℕ) (t : Bool) (p : UnfoldedCondition) → p ∈ cond t (spread (λ m. map (copy b m) (users n b)) (markers n b)) (ordinary b ∷ []) → Pair p
  pair b true p h =
      let r = spread_out (λ m. map (copy b m) (users n b)) (markers n b) h in
      let q = Memᴰ.of_map (copy b r.0) (users n b) r.2 in
      subst Pair q.2 (r.1, q.1)
  pair b false p h = subst Pair (sym (Memᴰ.eq_of_singleton h)) tt

  pub pair_of : (p : UnfoldedCondition) → p ∈ unfolded_conditions n → Pair p
  unfolding unfolded_conditions copies
  pair_of p h = let r = spread_out (copies n) (count 0 n.conditions) h in pair r.0 (n.persistent r.0) p r.2

  -- ---- unfolded events

  pub choices_pick : (bs : List ℕ) (c : List Marker) → c ∈ choices (map (markers n) bs) → (b : ℕ) → b ∈ bs
      → (m : Marker) × (m ∈ markers n b) × T (picked bs c b m)
  choices_pick [] c h b i = absurd (Memᴰ.not-nil i)
  choices_pick (x ∷ bs) c h b i =
      let r = spread_out (λ m. map (m ∷◌) (choices (map (markers n) bs))) (markers n x) h in
      let q = Memᴰ.of_map (r.0 ∷◌) (choices (map (markers n) bs)) r.2 in
      subst (λ (c : List Marker). (m : Marker) × (m ∈ markers n b) × T (picked (x ∷ bs) c b m)) q.2
      (go r.0 r.1 q.0 (Memᴰ.cases_cons i) (λ j. choices_pick bs q.0 q.1 b j))
    where
      go : (k : Marker) → k ∈ markers n x → (d : List Marker) → (b ≡ x) ⊎ (b ∈ bs) → (b ∈ bs → (m : Marker) × (m ∈ markers n b) × T (picked bs d b m))
          → (m : Marker) × (m ∈ markers n b) × T (picked (x ∷ bs) (k ∷ d) b m)
      go k hk d (inl e) ih = (
        k,
        rw e hk,
        or_left (eqb b x && same_marker k k) (picked bs d b k) (and_both (eqb b x) (same_marker k k) (rw e (eqb_refl x)) (same_marker_refl k)),
      )
      go k hk d (inr j) ih = let r = ih j in (r.0, r.1, or_right (eqb b x && same_marker r.0 k) (picked bs d b r.0) r.2)

  pub event_in : (x : UnfoldedEvent) → x.event < n.events → Each x.colour (map (markers n) (reads n x.event)) → x ∈ unfolded_events n
  unfolding unfolded_events colours
  event_in x h f =
      spread_in (colours n) (count_in_lem x.event 0 n.events zero-le (omega arith))
      (Memᴰ.map (λ c. record { event = x.event; colour = c }) (choices_in (map (markers n) (reads n x.event)) x.colour f))

  pub colour_out : (x : UnfoldedEvent) → x ∈ unfolded_events n → (x.event < n.events) × (x.colour ∈ choices (map (markers n) (reads n x.event)))
  unfolding unfolded_events colours
  colour_out x h =
      let r = spread_out (colours n) (count 0 n.events) h in
      let q = Memᴰ.of_map {B = UnfoldedEvent} (λ c. record { event = r.0; colour = c }) (choices (map (markers n) (reads n r.0))) r.2 in
      let l = count_out r.0 0 n.events r.1 in
      subst (λ (x : UnfoldedEvent). (x.event < n.events) × (x.colour ∈ choices (map (markers n) (reads n x.event)))) q.2 (omega arith, q.1)

  pub colour_picks : (x : UnfoldedEvent) → x ∈ unfolded_events n → (b : ℕ) → T (n.persistent b) → T (mem b (n.preconditions x.event))
      → (m : Marker) × (m ∈ markers n b) × T (picked (reads n x.event) x.colour b m)
  unfolding reads
  colour_picks x h b p t = choices_pick (reads n x.event) x.colour (colour_out x h).1 b (keep_in n.persistent (mem_in b (n.preconditions x.event) t) p)

-- ---- the unfolded net's lists, at an unfolded condition
module _ (n : Net) where
  pub takes_at : (j k : ℕ) (p : UnfoldedCondition) → get_elem? (unfolded_conditions n) k ≡ some p → mem k ((basic n).preconditions j) ≡ takes n (origin n j) p
  unfolding basic
  takes_at j k p e = mem_places (takes n (origin n j)) (unfolded_conditions n) k ∙ ap (hit (takes n (origin n j))) e

  pub puts_at : (j k : ℕ) (p : UnfoldedCondition) → get_elem? (unfolded_conditions n) k ≡ some p → mem k ((basic n).postconditions j) ≡ puts n (origin n j) p
  unfolding basic
  puts_at j k p e = mem_places (puts n (origin n j)) (unfolded_conditions n) k ∙ ap (hit (puts n (origin n j))) e

  -- a number in the unfolded event's lists is that of an unfolded condition
  pub in_pre : (j k : ℕ) → T (mem k ((basic n).preconditions j)) → (p : UnfoldedCondition) × (get_elem? (unfolded_conditions n) k ≡ some p) × T (takes n (origin n j) p)
  unfolding basic
  in_pre j k t = hit_out (takes n (origin n j)) (get_elem? (unfolded_conditions n) k) (subst T (mem_places (takes n (origin n j)) (unfolded_conditions n) k) t)

  pub in_post : (j k : ℕ) → T (mem k ((basic n).postconditions j)) → (p : UnfoldedCondition) × (get_elem? (unfolded_conditions n) k ≡ some p) × T (puts n (origin n j) p)
  unfolding basic
  in_post j k t = hit_out (puts n (origin n j)) (get_elem? (unfolded_conditions n) k) (subst T (mem_places (puts n (origin n j)) (unfolded_conditions n) k) t)

  -- the rule that an unfolded condition follows
  pub follows_at : (k : ℕ) (p : UnfoldedCondition) → get_elem? (unfolded_conditions n) k ≡ some p → (basic n).old k ≡ follows n p
  unfolding basic
  follows_at k p e = mem_places (follows n) (unfolded_conditions n) k ∙ ap (hit (follows n)) e

  -- an ordinary condition blocks in the unfolded net as in the table; a copy blocks by the paper's rule
  pub free_ordinary : (j k b : ℕ) → get_elem? (unfolded_conditions n) k ≡ some (ordinary b) → n.persistent b ≡ false → free (basic n) j k ≡ free n (origin n j).event b
  unfolding free takes follows basic
  free_ordinary j k b h p = ap₂ {C = Bool} (λ x y. x && not y) (takes_at j k (ordinary b) h) (follows_at k (ordinary b) h) ∙ rw p

  pub free_copy : (j k b : ℕ) (m : Marker) (v : ℕ) → get_elem? (unfolded_conditions n) k ≡ some (copy b m v) → free (basic n) j k ≡ mem k ((basic n).preconditions j)
  unfolding follows basic
  free_copy j k b m v h = free_taken (basic n) j k (follows_at k (copy b m v) h)

  pub begins_at : (k : ℕ) (p : UnfoldedCondition) → get_elem? (unfolded_conditions n) k ≡ some p → begin (basic n) k ≡ begins n p
  unfolding basic begin
  begins_at k p e = mem_places (begins n) (unfolded_conditions n) k ∙ ap (hit (begins n)) e

  pub origin_in : (j : ℕ) → T (ltb j (basic n).events) → origin n j ∈ unfolded_events n
  unfolding basic origin
  origin_in j h = in_at (unfolded_events n) j (at_some (unfolded_events n) j (record { event = 0; colour = [] }) (ltb→lt j (length (unfolded_events n)) h))
