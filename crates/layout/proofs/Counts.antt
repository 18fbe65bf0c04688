-- The numbers read from a table are the model's: colours of an event, copies of a condition, events that touch nothing.
use Prim.Native.Nat.{ℕ, zero, suc, ◌+◌, ◌*◌, ◌-◌, ◌≤◌, ◌<◌}
use native.Mathlib.Numerals.{add-one}
use mathlib.Core.Option.{none, some}
use native.Mathlib.Omega.{arith}
use native.Mathlib.Decide.{dec_le}
use native.Mathlib.Nat.{mul-le-mul}
use mathlib.Core.Path.{◌≡◌, refl, sym, ap, ◌∙◌, ap₂}
use mathlib.Core.List.{List, [], ◌∷◌, map}
use mathlib.Core.Bool.{Bool, true, false, not, ◌&&◌, cond}
use lib.Dec.{T, eqb, eqb_refl}
use lib.ListN.{length, get_or, length-map, get_or-eq_default}
use borrow.Author.Tests.{eq-eqb, ne_eqb}
use Rattle.lists.specs.Lists.{mem, all, empty, failing, index, keep, count, sum}
use Rattle.lists.proofs.Bools.{or_left, or_right}
use Rattle.model.specs.Net.{Net}
use Rattle.model.specs.Runs.{Marker}
use Rattle.model.specs.Unfolding.{markers, users, reads, idle}
use Rattle.model.specs.Numbering.{ways, size, width}
use Rattle.model.specs.Across.{lowest_idle}
use Rattle.table.specs.Decoded.{net_of}
use Rattle.tally.specs.Having.{having, list_of, list_part, Tally}
use Rattle.words.specs.Words.{words}
use Rattle.table.specs.Walk.{offset_of}
use Rattle.tally.proofs.Tallies.{keep_few}
use Rattle.tally.proofs.Events.{list_inside, list_read}
use Rattle.colours.specs.Colours.{flagged, radices, product, capped}
use Rattle.layout.specs.Counts.{width_at, idle_at}
use Rattle.layout.specs.Laid.{Low, Marked, Counted}

-- ---- small numbers

-- what a tally counts is small
pub tally_low : (n : Net) (post : Bool) (first k : ℕ) (counts : List ℕ) → first ≤ 1 → k ≤ 256 → Tally n post first k counts → Low counts
tally_low n post first k counts f h t b = go (dec_le 256 b)
  where
    go : Dec (256 ≤ b) → get_or counts b 0 ≤ 1000
    go (yes g) = rw (get_or-eq_default counts 0 {n = b} (omega (arith, t.size))) (omega arith)
    go (no g) = omega (arith, t.at b (omega arith), keep_few (λ e. mem b (list_of n post e)) 0 k)

pub width_low : (s ms us : List ℕ) (b : ℕ) → Low ms → Low us → width_at s ms us b ≤ 1000000
width_low s ms us b lm lu = go (flagged s b)
  where
    go : (t : Bool) → cond t (get_or ms b 0 * get_or us b 0) 1 ≤ 1000000
    go true = omega (arith, mul-le-mul {n₂ = 1000} {m₂ = 1000} (lm b) (lu b))
    go false = omega arith

-- ---- sums of the same numbers

pub sum_same : (f g : ℕ → ℕ) (k : ℕ) → ((i : ℕ) → i < k → f i ≡ g i) → sum f k ≡ sum g k
sum_same f g zero h = refl
sum_same f g (suc k) h = ap₂ {C = ℕ} (λ x y. x + y) (sum_same f g k (λ i l. h i (omega arith))) (h k (omega arith))

pub sum_next : (f : ℕ → ℕ) (k x : ℕ) → x ≡ f k → sum f k + x ≡ sum f (k + 1)
sum_next f k x e = rw (e, add-one)

-- a term is no more than the sum
pub sum_part : (f : ℕ → ℕ) (k i : ℕ) → i < k → sum f i + f i ≤ sum f k
sum_part f zero i h = absurd (omega arith)
sum_part f (suc k) i h = go (dec_le k i) (sum_part f k i)
  where
    go : Dec (k ≤ i) → (i < k → sum f i + f i ≤ sum f k) → sum f i + f i ≤ sum f k + f k
    go (yes le) ih = let z : i ≡ k = omega arith in rw z (omega arith)
    go (no gt) ih = omega (arith, ih (omega arith))

-- the sum of capped terms passes the limit exactly if the sum does, and is the sum where it does not
pub sum_capped_low : (f : ℕ → ℕ) (k : ℕ) → sum (λ e. capped (f e)) k ≤ sum f k
sum_capped_low f zero = omega arith
sum_capped_low f (suc k) = omega (arith, sum_capped_low f k)

pub sum_capped : (f : ℕ → ℕ) (k : ℕ) → sum (λ e. capped (f e)) k ≤ 65535 → sum (λ e. capped (f e)) k ≡ sum f k
sum_capped f zero h = refl
sum_capped f (suc k) h = omega (arith, sum_capped f k (omega arith))

-- ---- the lowest event that touches nothing, at event i of so many

abbrev pub touches : Net → ℕ → Bool
touches n e = not (idle n e)

module _ (n : Net) (i upto : ℕ) (h : i < upto) where
  left : upto - i ≡ suc (upto - (i + 1))
  left = omega arith

  pub idle_here : idle n i ≡ true → failing (touches n) (count i (upto - i)) ≡ some i
  idle_here t = rw (left, t)

  pub idle_later : idle n i ≡ false → failing (touches n) (count i (upto - i)) ≡ failing (touches n) (count (i + 1) (upto - (i + 1)))
  idle_later t = rw (left, t, add-one)

pub idle_end : (n : Net) (i upto : ℕ) → upto ≤ i → failing (touches n) (count i (upto - i)) ≡ none
idle_end n i upto h = let z : upto - i ≡ 0 = omega arith in rw z

pub idle_all : (n : Net) (upto : ℕ) → upto ≡ n.events → lowest_idle n ≡ failing (touches n) (count 0 (upto - 0))
unfolding lowest_idle
idle_all n upto e = let z : upto - 0 ≡ n.events = omega arith in rw z

-- ---- what a table's numbers are

none_used : (l : List ℕ) (k : ℕ) → k ≡ length l → eqb k 0 ≡ empty l
none_used [] k e = eq-eqb k 0 e
none_used (x ∷ l) k e = ne_eqb k 0 (λ z. omega arith)

-- the place of a user, counted among the events of the table
pub user_place : (n : Net) (b u k : ℕ) → k ≡ n.events → index (eqb u) (having n false b k) ≡ index (eqb u) (users n b)
unfolding users
user_place n b u k q = rw q

module _ (s ms : List ℕ) (c : Marked s ms) where
  pub marks_at : (b : ℕ) → b < 256 → get_or ms b 0 ≡ length (markers (net_of s) b)
  unfolding markers
  marks_at b h = c.marks.at b h ∙ omega (arith, length-map {B = Marker} (having (net_of s) true b (net_of s).events) (λ e. Rattle.model.specs.Runs.by_event e))

  pub ways_read : (l : List ℕ) → ((b : ℕ) → T (mem b l) → b < 256) → product (radices s ms l) ≡ ways (map (markers (net_of s)) (keep (net_of s).persistent l))
  unfolding product
  ways_read [] f = refl
  ways_read (b ∷ l) f = rw (c.flags b) (go ((net_of s).persistent b) (ways_read l (λ x t. f x (or_right (eqb x b) (mem x l) t))))
    where
      go : (t : Bool) → product (radices s ms l) ≡ ways (map (markers (net_of s)) (keep (net_of s).persistent l))
          → product (map (λ b. get_or ms b 0) (cond t (b ∷ keep (flagged s) l) (keep (flagged s) l)))
          ≡ ways (map (markers (net_of s)) (cond t (b ∷ keep (net_of s).persistent l) (keep (net_of s).persistent l)))
      go true ih = ap₂ {C = ℕ} (λ x y. x * y) (marks_at b (f b (or_left (eqb b b) (mem b l) (eqb_refl b)))) ih
      go false ih = ih

  pub size_read : (e : ℕ) → e < (net_of s).events → product (radices s ms ((net_of s).preconditions e)) ≡ size (net_of s) e
  unfolding size reads
  size_read e h = ways_read ((net_of s).preconditions e) (λ b t. list_inside s e h false b t)

  -- a walk over the events that is at event e
  pub colours_walk : (e at : ℕ) (h : e < (net_of s).events) (q : at ≡ offset_of s e) (pre : List ℕ) (p : pre ≡ list_part false s at) {r : ℕ} → r ≡ capped (product (radices s ms (words pre))) → r ≡ capped (size (net_of s) e)
  colours_walk e at h q pre p t = t ∙ rw (p, q, list_read s e h false, size_read e h)

module _ (s ms us : List ℕ) (c : Counted s ms us) where
  pub counted_low : Low ms × Low us
  counted_low =
      let few = c.marked.limits.few_events in (
        tally_low (net_of s) true 1 (net_of s).events ms (omega arith) (omega arith) c.marked.marks,
        tally_low (net_of s) false 0 (net_of s).events us (omega arith) (omega arith) c.uses,
      )

  pub uses_at : (b : ℕ) → b < 256 → get_or us b 0 ≡ length (users (net_of s) b)
  unfolding users
  uses_at b h = c.uses.at b h ∙ omega arith

  pub width_read : (b : ℕ) → b < 256 → width_at s ms us b ≡ width (net_of s) b
  unfolding width
  width_read b h = rw (c.marked.flags b, marks_at s ms c.marked b h, uses_at b h)

  pub idle_read : (e : ℕ) → e < (net_of s).events → idle_at s us ((net_of s).preconditions e) ((net_of s).postconditions e) ≡ idle (net_of s) e
  unfolding idle
  idle_read e h = ap (λ (t : Bool). empty ((net_of s).preconditions e) && t) (go ((net_of s).postconditions e) (λ b t. list_inside s e h true b t))
    where
      go : (l : List ℕ) → ((b : ℕ) → T (mem b l) → b < 256) → all (λ b. flagged s b && eqb (get_or us b 0) 0) l ≡ all (λ b. (net_of s).persistent b && empty (users (net_of s) b)) l
      go [] f = refl
      go (b ∷ l) f =
          let low : b < 256 = f b (or_left (eqb b b) (mem b l) (eqb_refl b)) in
          ap₂ {C = Bool} (λ x y. x && y) (ap₂ {C = Bool} (λ x y. x && y) (c.marked.flags b) (none_used (users (net_of s) b) (get_or us b 0) (uses_at b low)))
          (go l (λ x t. f x (or_right (eqb x b) (mem x l) t)))

  -- a walk over the events that is at event e
  pub idle_walk : (e at : ℕ) (h : e < (net_of s).events) (q : at ≡ offset_of s e) (pre : List ℕ) (p : pre ≡ list_part false s at) (post : List ℕ) {r : Bool} → post ≡ list_part true s at → r ≡ idle_at s us (words pre) (words post) → idle (net_of s) e ≡ r
  idle_walk e at h q pre p post z t = sym (t ∙ rw (p, z, q, list_read s e h false, list_read s e h true) (idle_read e h))
