-- The walk over the events: what is told of an event from the table is what the net says, and a byte is written for each.
use Prim.Native.Nat.{ℕ, ◌+◌, ◌≤◌, ◌<◌}
use native.Mathlib.Omega.{arith}
use mathlib.Core.Path.{◌≡◌, refl, sym, ◌∙◌, ap, ap₂}
use mathlib.Core.Bool.{Bool, true, false, not, ◌&&◌, ◌||◌}
use mathlib.Core.List.{List, [], ◌∷◌, ◌++◌}
use lib.Dec.{T, eqb, eqb_refl}
use lib.ListN.{length, get_or, set, drop, length-set}
use lib.Seq.{sets}
use borrow.Author.Tests.{ne_eqb}
use Rattle.lists.specs.Lists.{mem, all, any, empty}
use Rattle.lists.proofs.Bools.{or_left, or_right}
use Rattle.lists.proofs.Stored.{stored_whole, store_next, store_end}
use Rattle.words.specs.Words.{words}
use Rattle.model.specs.Lent.{bit, bytes}
use Rattle.model.proofs.Lent.{length_bytes, bytes_at}
use Rattle.table.specs.Walk.{offset_of}
use Rattle.table.specs.Decoded.{net_of}
use Rattle.tally.specs.Having.{list_part}
use Rattle.tally.proofs.Events.{list_read, list_inside}
use Rattle.losses.specs.Losses.{ordinary_in, steady, putters, spent, spends, recurs, lossy}
use Rattle.losses.specs.Tests.{kept_at, steady_at, spent_at, recurs_at, Known}

-- ---- two tests that agree on the members of a list

all_same : (f g : ℕ → Bool) (l : List ℕ) → ((b : ℕ) → T (mem b l) → f b ≡ g b) → all f l ≡ all g l
all_same f g [] h = refl
all_same f g (x ∷ l) h =
    ap₂ {C = Bool} (λ a b. a && b) (h x (or_left (eqb x x) (mem x l) (eqb_refl x))) (all_same f g l (λ b t. h b (or_right (eqb b x) (mem b l) t)))

any_same : (f g : ℕ → Bool) (l : List ℕ) → ((b : ℕ) → T (mem b l) → f b ≡ g b) → any f l ≡ any g l
any_same f g [] h = refl
any_same f g (x ∷ l) h =
    ap₂ {C = Bool} (λ a b. a || b) (h x (or_left (eqb x x) (mem x l) (eqb_refl x))) (any_same f g l (λ b t. h b (or_right (eqb b x) (mem b l) t)))

-- a number is 0 exactly if what it counts is empty
zero_empty : (l : List ℕ) (k : ℕ) → k ≡ length l → eqb k 0 ≡ empty l
zero_empty [] k e = rw e
zero_empty (x ∷ l) k e = ne_eqb k 0 (λ z. omega arith)

-- ---- an event of the table

module _ (s : List ℕ) (events : ℕ) (once puts : List ℕ) (k : Known s events once puts) where
  ordinary_read : (l other : List ℕ) → all (kept_at s other) l ≡ ordinary_in (net_of s) l other
  unfolding ordinary_in
  ordinary_read l other =
      all_same (kept_at s other) (λ b. (net_of s).persistent b || mem b other) l (λ b t. ap (λ (x : Bool). x || mem b other) (k.flags b))

  spent_read : (b : ℕ) → b < 256 → spent_at s puts b ≡ spent (net_of s) b
  unfolding spent putters
  spent_read b h =
      let many : get_or puts b 0 ≡ length (putters (net_of s) b) = rw (← k.counted) (k.putting.at b h ∙ omega arith) in
      ap₂ {C = Bool} (λ x y. not x && y) (k.flags b) (zero_empty (putters (net_of s) b) (get_or puts b 0) many)

  module _ (e : ℕ) (h : e < events) where
    here : e < (net_of s).events
    here = omega (arith, k.counted)

    abbrev taken : List ℕ
    taken = (net_of s).preconditions e

    abbrev put : List ℕ
    put = (net_of s).postconditions e

    steady_read : steady_at s taken put ≡ steady (net_of s) e
    unfolding steady
    steady_read = ap₂ {C = Bool} (λ x y. x && y) (ordinary_read taken put) (ordinary_read put taken)

    spends_read : any (spent_at s puts) taken ≡ spends (net_of s) e
    unfolding spends
    spends_read = any_same (spent_at s puts) (spent (net_of s)) taken (λ b t. spent_read b (list_inside s e here false b t))

    lossy_read : eqb (get_or once e 0) 1 && recurs_at s puts taken put ≡ lossy (net_of s) e
    unfolding lossy recurs
    lossy_read =
        let again : recurs_at s puts taken put ≡ recurs (net_of s) e = ap₂ {C = Bool} (λ x y. not x && not y) steady_read spends_read in
        ap₂ {C = Bool} (λ x y. x && y) (k.marks.each e here) again

    -- a walk over the events that is at event e
    pub lossy_walk : (at : ℕ) (q : at ≡ offset_of s e) (pre : List ℕ) (p : pre ≡ list_part false s at) (post : List ℕ) {r : Bool}
        → post ≡ list_part true s at → r ≡ (eqb (get_or once e 0) 1 && recurs_at s puts (words pre) (words post)) → r ≡ lossy (net_of s) e
    lossy_walk at q pre p post z t = t ∙ rw (p, z, q, list_read s e here false, list_read s e here true) lossy_read

-- ---- the bytes

-- what is left to write, written to the output as it is, gives what all of it written to the output as it was gives
pub record Writing (events : ℕ) (lost : ℕ → Bool) (old : List ℕ) (e : ℕ) (out : List ℕ) : Type 0 where
  pub size : length out ≡ length old
  pub rest : sets out e (drop e (bytes events lost)) ≡ sets old 0 (bytes events lost)

module _ (events : ℕ) (lost : ℕ → Bool) (old : List ℕ) where
  pub writing_next : (e : ℕ) (out : List ℕ) → Writing events lost old e out → e < events → (v : ℕ) → v ≡ bit (lost e)
      → Writing events lost old (e + 1) (set out e v)
  writing_next e out w h v q =
      let value : v ≡ get_or (bytes events lost) e 0 = q ∙ sym (bytes_at events lost e h) in
      let step = store_next out (bytes events lost) e e 0 (omega (arith, length_bytes events lost)) in
      record { size = length-set out e v ∙ w.size; rest = rw (value, ← step) w.rest }

  pub writing_all : (e : ℕ) (out : List ℕ) → Writing events lost old e out → events ≤ e → events ≤ length old
      → out ≡ bytes events lost ++ drop events old
  writing_all e out w h room =
      let end = store_end out (bytes events lost) e e (omega (arith, length_bytes events lost)) in
      let whole = stored_whole (bytes events lost) old (omega (arith, length_bytes events lost)) in
      sym end ∙ w.rest ∙ whole ∙ ap (λ (x : ℕ). bytes events lost ++ drop x old) (length_bytes events lost)
