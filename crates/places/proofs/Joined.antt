-- Places put together come to the number of the colour that the markers make.
use Prim.Native.Nat.{ℕ, ◌+◌, ◌*◌, ◌≤◌, ◌<◌}
use native.Mathlib.Omega.{arith}
use native.Mathlib.Nat.{add-mul, mul_assoc, mul-le-mul, zero-mul, le-mul_of_pos_right}
use mathlib.Core.Path.{◌≡◌, refl, ap, ◌∙◌}
use mathlib.Core.Bool.{Bool, true, false, cond}
use mathlib.Core.List.{List, [], ◌∷◌, map}
use lib.Dec.{T, eqb, eqb_refl}
use lib.ListN.{length, get_or}
use Rattle.lists.specs.Lists.{mem, index, keep, sum}
use Rattle.lists.proofs.Bools.{is_true, or_left, or_right}
use Rattle.lists.proofs.Members.{mem_in, in_mem, keep_out}
use Rattle.words.specs.Words.{words}
use Rattle.model.specs.Runs.{Marker}
use Rattle.model.specs.Unfolding.{same_marker, markers, reads}
use Rattle.model.specs.Numbering.{ways, radix, size}
use Rattle.model.specs.Across.{most_unfolded, or_start}
use Rattle.model.proofs.Unfolded.{Each}
use Rattle.table.specs.Walk.{offset_of}
use Rattle.table.specs.Decoded.{net_of}
use Rattle.tally.specs.Having.{list_part}
use Rattle.tally.proofs.Events.{list_read, list_inside}
use Rattle.colours.specs.Colours.{flagged}
use Rattle.layout.specs.Laid.{Low, Marked, Sums}
use Rattle.layout.proofs.Counts.{tally_low, marks_at}
use Rattle.unfolding.specs.Numbers.{Within, choices_of, all_mark}
use Rattle.unfolding.proofs.Places.{some_marker}
use Rattle.unfolding.proofs.Numbered.{marks_each, radix_below}
use Rattle.unfolding.proofs.Owners.{before_few}
use Rattle.firsts.specs.Firsts.{Slot, first_at}
use Rattle.places.specs.Places.{Marking, Placed}
use Rattle.places.specs.Numbers.{joined, joined_all, Joining, Numbering, Numbered, Settled}

-- ---- the number of a list

shift : (a r p w q : ℕ) → (a * r + p) * w + q ≡ a * (r * w) + (p * w + q)
shift a r p w q = omega (arith, add-mul (a * r) p w, mul_assoc a r w)

module _ (s ms ps : List ℕ) (c : Marked s ms) (pick : ℕ → Marker) where
  -- a number put before a list grows by the list's number of colours, and the list adds the place of its markers
  joined_radix : (a : ℕ) (l : List ℕ) → ((b : ℕ) → T (mem b l) → b < 256)
      → ((b : ℕ) → b < 256 → (net_of s).persistent b ≡ true → get_or ps b 0 ≡ index (same_marker (pick b)) (markers (net_of s) b))
      → joined_all s ms ps a l ≡ a * ways (choices_of s l) + radix (choices_of s l) (map pick (keep (net_of s).persistent l))
  unfolding joined_all
  joined_radix a [] f g = omega arith
  joined_radix a (b ∷ l) f g = go ((net_of s).persistent b) refl (λ k. joined_radix k l (λ x t. f x (or_right (eqb x b) (mem x l) t)) g)
    where
      low : b < 256
      low = f b (or_left (eqb b b) (mem b l) (eqb_refl b))

      go : (t : Bool) → (net_of s).persistent b ≡ t
          → ((k : ℕ) → joined_all s ms ps k l ≡ k * ways (choices_of s l) + radix (choices_of s l) (map pick (keep (net_of s).persistent l)))
          → joined_all s ms ps (cond (flagged s b) (a * get_or ms b 0 + get_or ps b 0) a) l
          ≡ a * ways (map (markers (net_of s)) (cond ((net_of s).persistent b) (b ∷ keep (net_of s).persistent l) (keep (net_of s).persistent l)))
          + radix (map (markers (net_of s)) (cond ((net_of s).persistent b) (b ∷ keep (net_of s).persistent l) (keep (net_of s).persistent l)))
          (map pick (cond ((net_of s).persistent b) (b ∷ keep (net_of s).persistent l) (keep (net_of s).persistent l)))
      go true p ih =
          rw (c.flags b, p, marks_at s ms c b low, g b low p)
          (ih (a * length (markers (net_of s) b) + index (same_marker (pick b)) (markers (net_of s) b))
          ∙ shift a (length (markers (net_of s) b)) (index (same_marker (pick b)) (markers (net_of s) b)) (ways (choices_of s l)) (radix (choices_of s l) (map pick (keep (net_of s).persistent l))))
      go false p ih = rw (c.flags b, p) (ih a)

-- what was put together so far is no more than the whole
grows : (s ms ps : List ℕ) → Marked s ms → (a : ℕ) (l : List ℕ) → ((b : ℕ) → T (mem b l) → b < 256) → a ≤ joined_all s ms ps a l
unfolding joined_all
grows s ms ps c a [] f = omega arith
grows s ms ps c a (b ∷ l) f = go (flagged s b) (λ k. grows s ms ps c k l (λ x t. f x (or_right (eqb x b) (mem x l) t)))
  where
    some : 0 < get_or ms b 0
    some = omega (arith, marks_at s ms c b (f b (or_left (eqb b b) (mem b l) (eqb_refl b))), some_marker (net_of s) b)

    go : (t : Bool) → ((k : ℕ) → k ≤ joined_all s ms ps k l) → a ≤ joined_all s ms ps (cond t (a * get_or ms b 0 + get_or ps b 0) a) l
    go true ih = omega (arith, ih (a * get_or ms b 0 + get_or ps b 0), le-mul_of_pos_right a some)
    go false ih = ih a

-- ---- two bytes at a time

pub joined_first : (s ms ps : List ℕ) (w : ℕ) (rest left : List ℕ) → left ≡ w ∷ rest → (a : ℕ) {r : ℕ} → r ≡ joined s ms ps a w
    → joined_all s ms ps r rest ≡ joined_all s ms ps a left
unfolding joined_all
joined_first s ms ps w rest left first a q = rw (first, q)

pub joined_none : (s ms ps left : List ℕ) → left ≡ [] → (a : ℕ) → joined_all s ms ps a left ≡ a
unfolding joined_all
joined_none s ms ps left q a = rw q

pub joined_few : (s ms ps l : List ℕ) → Joining s ms ps l → (a : ℕ) (k : List ℕ) → ((b : ℕ) → T (mem b k) → b < 256) → joined_all s ms ps a k ≡ joined_all s ms ps 0 l → a ≤ most_unfolded
joined_few s ms ps l j a k f q = omega (arith, grows s ms ps j.marked a k f, j.limit)

pub product_fits : (a m : ℕ) → a ≤ 65535 → m ≤ 1000 → a * m ≤ 65535000
product_fits a m h k = omega (arith, mul-le-mul {n₂ = 65535} {m₂ = 1000} h k)

-- ---- the events

module _ (s ms ps : List ℕ) (slots : List Slot) (c : Marked s ms) (m : Marking (net_of s) slots) (p : Placed (net_of s) slots ps) (e : ℕ) (h : e < (net_of s).events) where
  abbrev picked : List Marker
  picked = map (λ b. or_start (first_at slots b)) (keep (net_of s).persistent ((net_of s).preconditions e))

  joined_event : joined_all s ms ps 0 ((net_of s).preconditions e) ≡ radix (choices_of s ((net_of s).preconditions e)) picked
  joined_event =
      joined_radix s ms ps c (λ b. or_start (first_at slots b)) 0 ((net_of s).preconditions e) (λ b t. list_inside s e h false b t) p.each
      ∙ omega (arith, zero-mul (ways (choices_of s ((net_of s).preconditions e))))

  each_marks : (bs : List ℕ) → ((b : ℕ) → T (mem b bs) → (b < 256) × ((net_of s).persistent b ≡ true)) → Each (map (λ b. or_start (first_at slots b)) bs) (map (markers (net_of s)) bs)
  each_marks [] f = tt
  each_marks (b ∷ bs) f =
      let x = f b (or_left (eqb b b) (mem b bs) (eqb_refl b)) in
      (m b x.0 x.1, each_marks bs (λ d t. f d (or_right (eqb d b) (mem d bs) t)))

  pub event_small : joined_all s ms ps 0 ((net_of s).preconditions e) < size (net_of s) e
  unfolding size reads
  event_small =
      rw joined_event
      (radix_below (choices_of s ((net_of s).preconditions e)) picked
      (is_true (all_mark (choices_of s ((net_of s).preconditions e)) picked)
      (marks_each (choices_of s ((net_of s).preconditions e)) picked
      (each_marks (keep (net_of s).persistent ((net_of s).preconditions e))
      (λ b t.
      let k = keep_out (net_of s).persistent ((net_of s).preconditions e) (mem_in b (keep (net_of s).persistent ((net_of s).preconditions e)) t) in
      (list_inside s e h false b (in_mem k.0), is_true ((net_of s).persistent b) k.1))))))

pub numbering : (s ms : List ℕ) (events : ℕ) (before ps : List ℕ) (slots : List Slot) → Within s ms events → Sums (size (net_of s)) (net_of s).events before
    → Marking (net_of s) slots → Placed (net_of s) slots ps → Numbering s ms events before ps
numbering s ms events before ps slots w t m p =
    record { within = w; sums = t; low = p.low; small = λ e h. event_small s ms ps slots w.marked m p e h }

-- a walk over the events that is at event e
module _ (s ms : List ℕ) (events : ℕ) (before ps : List ℕ) (g : Numbering s ms events before ps) (e : ℕ) (h : e < (net_of s).events) where
  pub event_fits : sum (size (net_of s)) e + joined_all s ms ps 0 ((net_of s).preconditions e) ≤ most_unfolded
  event_fits = omega (arith, before_few s ms events g.within e h, g.small e h)

  module _ (at : ℕ) (q : at ≡ offset_of s e) (l : List ℕ) (p : l ≡ list_part false s at) where
    pub list_is : words l ≡ (net_of s).preconditions e
    list_is = rw (p, q) (list_read s e h false)

    pub joining : Joining s ms ps (words l)
    joining =
        rw list_is
        (record { marked = g.within.marked; low = g.low; inside = λ b t. list_inside s e h false b t; limit = omega (arith, event_fits) })

    pub event_number : (x k : ℕ) → x ≡ joined_all s ms ps 0 (words l) → k ≡ get_or before e 0 → k + x ≡ sum (size (net_of s)) e + joined_all s ms ps 0 ((net_of s).preconditions e)
    event_number x k y z = omega (arith, z, g.sums.at e (omega arith), y, ap (joined_all s ms ps 0) list_is)

pub settled : (s ms : List ℕ) (events : ℕ) (before ps : List ℕ) (slots : List Slot) (numbers : List ℕ) → Within s ms events → Sums (size (net_of s)) (net_of s).events before
    → Marking (net_of s) slots → Placed (net_of s) slots ps → Numbered s ms ps (net_of s).events numbers → Settled (net_of s) slots numbers
unfolding reads
settled s ms events before ps slots numbers w t m p k =
    record {
      long = k.long;
      each = λ e h. k.each e h ∙ ap (λ (x : ℕ). sum (size (net_of s)) e + x) (joined_event s ms ps slots w.marked m p e h);
      few = λ e h. omega (arith, k.each e h, event_fits s ms events before ps (numbering s ms events before ps slots w t m p) e h);
    }

-- the numbers of markers are small
pub marked_low : (s ms : List ℕ) → Marked s ms → Low ms
marked_low s ms c = tally_low (net_of s) true 1 (net_of s).events ms (omega arith) (omega (arith, c.limits.few_events)) c.marks
