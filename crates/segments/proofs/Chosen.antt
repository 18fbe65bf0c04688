-- The places of the chosen markers: what the walk down the preconditions writes is what the colour picks.
use mathlib.Core.Path.{◌≡◌, refl, sym, ◌∙◌, ap}
use mathlib.Core.Bool.{Bool, true, false}
use mathlib.Core.List.{List, [], ◌∷◌}
use Prim.Native.Nat.{ℕ, suc, ◌*◌, ◌/◌, ◌%◌, ◌<◌}
use lib.Dec.{T, eqb, eqb_refl, leb}
use lib.ListN.{length, get_or, set, length-set}
use lib.Seq.{get_or-set_same, get_or-set_other}
use native.Mathlib.Nat.{mod-lt, mod-eq_of_lt, div-lt_iff_lt-mul, mul-div_cancel_left, div-le_self}
use native.Mathlib.Omega.{arith}
use borrow.Author.Tests.{eq-eqb, eqb-true}
use Rattle.lists.specs.Lists.{mem, keep, ascending_from}
use Rattle.lists.proofs.Bools.{T_of, is_true, is_false, not-true, or_left, or_right, or_none, or_cases, and_right}
use Rattle.lists.proofs.Members.{mem_in, in_mem, keep_out}
use Rattle.lists.proofs.Distinct.{ascending_least}
use Rattle.lists.proofs.Products.{some_length}
use Rattle.model.specs.Runs.{Marker, at_start}
use Rattle.model.specs.Unfolding.{same_marker, markers, picked}
use Rattle.model.specs.Numbering.{ways, digits}
use Rattle.model.proofs.Unfolded.{picked_in}
use Rattle.table.specs.Decoded.{net_of}
use Rattle.colours.specs.Colours.{flagged}
use Rattle.unfolding.specs.Numbers.{choices_of}
use Rattle.layout.proofs.Counts.{marks_at}
use Rattle.unfolding.proofs.Places.{some_marker}
use Rattle.segments.specs.Ranges.{choices_at, chosen_from, Choosing}

module _ (s : List ℕ) (flags : (b : ℕ) → flagged s b ≡ (net_of s).persistent b) where
  -- what is not in the list keeps its number
  chosen_other : (l : List ℕ) (r : ℕ) (ch : List ℕ) (b : ℕ) → (T (mem b l) → ⊥) → get_or (chosen_from s l r ch) b 0 ≡ get_or ch b 0
  unfolding chosen_from
  chosen_other [] r ch b h = refl
  chosen_other (x ∷ l) r ch b h =
      chosen_other l (r % ways (choices_of s l)) (set ch x (r / ways (choices_of s l))) b (λ t. h (or_right (eqb b x) (mem b l) t))
      ∙ get_or-set_other ch x b (r / ways (choices_of s l)) 0 (λ z. h (or_left (eqb b x) (mem b l) (T_of (eqb b x) (eq-eqb b x z))))

  -- nothing is picked for what is not in the list
  none_picked : (l : List ℕ) (c : List Marker) (b : ℕ) (m : Marker) → (T (mem b l) → ⊥) → picked (keep (net_of s).persistent l) c b m ≡ false
  none_picked l c b m h =
      is_false (picked (keep (net_of s).persistent l) c b m)
      (λ t. h (in_mem (keep_out (net_of s).persistent l (picked_in (keep (net_of s).persistent l) c b m t)).0))

  -- the place that is written, and the marker that is picked
  abbrev pub Chose : List ℕ → ℕ → List ℕ → ℕ → Type 0
  Chose l r ch b =
      (get_or (chosen_from s l r ch) b 0 < length (markers (net_of s) b))
      × ((m : Marker) → picked (keep (net_of s).persistent l) (digits (choices_of s l) r) b m ≡ same_marker m (get_or (markers (net_of s) b) (get_or (chosen_from s l r ch) b 0) at_start))

  module _ (x : ℕ) (l : List ℕ) (r : ℕ) (ch : List ℕ) (q : (net_of s).persistent x ≡ true) (low : r < ways (choices_of s (x ∷ l))) where
    abbrev w : ℕ
    w = ways (choices_of s l)

    abbrev next : List ℕ
    next = set ch x (r / w)

    low₂ : r < length (markers (net_of s) x) * w
    low₂ = rw q at low

    pub rest_low : r % w < w
    rest_low = mod-lt r (some_length (length (markers (net_of s) x)) w r low₂)

    chose_here : (T (mem x l) → ⊥) → x < length ch → Chose (x ∷ l) r ch x
    unfolding chosen_from
    chose_here h i =
        let pos = some_length (length (markers (net_of s) x)) w r low₂ in
        let at : get_or (chosen_from s l (r % w) next) x 0 ≡ r / w = chosen_other l (r % w) next x h ∙ get_or-set_same ch x (r / w) 0 i in
        rw (q, at) (
          (div-lt_iff_lt-mul pos).1 low₂,
          λ m. rw (is_true (eqb x x) (eqb_refl x), none_picked l (digits (choices_of s l) (r % w)) x m h) (or_none (same_marker m (get_or (markers (net_of s) x) (r / w) at_start))),
        )

    chose_later : (b : ℕ) → eqb b x ≡ false → Chose l (r % w) next b → Chose (x ∷ l) r ch b
    unfolding chosen_from
    chose_later b h c = rw q (c.0, λ m. rw h (c.1 m))

  module _ (x : ℕ) (l : List ℕ) (r : ℕ) (ch : List ℕ) (q : (net_of s).persistent x ≡ false) (low : r < ways (choices_of s (x ∷ l))) where
    same_rest : r % ways (choices_of s l) ≡ r
    same_rest = mod-eq_of_lt (rw q at low)

    chose_past : (b : ℕ) → Chose l (r % ways (choices_of s l)) (set ch x (r / ways (choices_of s l))) b → Chose (x ∷ l) r ch b
    unfolding chosen_from
    chose_past b c = rw q (c.0, λ m. ap (λ (k : ℕ). picked (keep (net_of s).persistent l) (digits (choices_of s l) k) b m) (sym same_rest) ∙ c.1 m)

    rest_low₂ : r % ways (choices_of s l) < ways (choices_of s l)
    rest_low₂ = rw same_rest (rw q at low)

  pub chosen_at : (k : ℕ) (l : List ℕ) → T (ascending_from k l) → ((b : ℕ) → T (mem b l) → b < 256) → (r : ℕ) (ch : List ℕ) → length ch ≡ 256
      → r < ways (choices_of s l) → (b : ℕ) → T (mem b l) → (net_of s).persistent b ≡ true → Chose l r ch b
  chosen_at k [] a f r ch z low b i p = absurd i
  chosen_at k (x ∷ l) a f r ch z low b i p =
      go ((net_of s).persistent x) refl (eqb b x) refl
      (λ q j. chosen_at (suc x) l up (λ y t. f y (or_right (eqb y x) (mem y l) t)) (r % ways (choices_of s l)) (set ch x (r / ways (choices_of s l)))
      (length-set ch x (r / ways (choices_of s l)) ∙ z) (rest_low x l r ch q low) b j p)
      (λ q j. chosen_at (suc x) l up (λ y t. f y (or_right (eqb y x) (mem y l) t)) (r % ways (choices_of s l)) (set ch x (r / ways (choices_of s l)))
      (length-set ch x (r / ways (choices_of s l)) ∙ z) (rest_low₂ x l r ch q low) b j p)
    where
      up : T (ascending_from (suc x) l)
      up = and_right (leb k x) (ascending_from (suc x) l) a

      apart : T (mem x l) → ⊥
      apart t = let j = ascending_least (suc x) l up x (mem_in x l t) in omega arith

      there : eqb b x ≡ false → T (mem b l)
      there e = or_cases (eqb b x) (mem b l) i (λ t. absurd (not-true (eqb b x) e t)) (λ t. t)

      go : (t : Bool) → (net_of s).persistent x ≡ t → (d : Bool) → eqb b x ≡ d
          → ((net_of s).persistent x ≡ true → T (mem b l) → Chose l (r % ways (choices_of s l)) (set ch x (r / ways (choices_of s l))) b)
          → ((net_of s).persistent x ≡ false → T (mem b l) → Chose l (r % ways (choices_of s l)) (set ch x (r / ways (choices_of s l))) b) → Chose (x ∷ l) r ch b
      go true q true e ih jh =
          let y : b ≡ x = eqb-true b x e in
          rw y (chose_here x l r ch q low apart (omega (arith, f x (or_left (eqb x x) (mem x l) (eqb_refl x)))))
      go true q false e ih jh = chose_later x l r ch q low b e (ih q (there e))
      go false q true e ih jh = let y : b ≡ x = eqb-true b x e in absurd (let z : true ≡ false = sym p ∙ ap (net_of s).persistent y ∙ q in not-true true z tt)
      go false q false e ih jh = chose_past x l r ch q low b (jh q (there e))

-- ---- one step of the walk

module _ (s ms : List ℕ) (b : ℕ) (l : List ℕ) (weight rest : ℕ) (p : Choosing s ms (b ∷ l) weight rest) (d : ℕ) (e : d ≡ choices_at s ms b) where
  weight_is : (weight ≡ d * ways (choices_of s l)) × (0 < d)
  weight_is = go ((net_of s).persistent b) refl
    where
      go : (t : Bool) → (net_of s).persistent b ≡ t → (weight ≡ d * ways (choices_of s l)) × (0 < d)
      go true q =
          let m : d ≡ length (markers (net_of s) b) = e ∙ rw (p.marked.flags b, q) (marks_at s ms p.marked b (p.inside b (or_left (eqb b b) (mem b l) (eqb_refl b)))) in
          (p.whole ∙ rw (q, m), rw m (some_marker (net_of s) b))
      go false q =
          let m : d ≡ 1 = e ∙ rw (p.marked.flags b, q) in
          (rw m (p.whole ∙ rw q (omega arith)), rw m (omega arith))

  pub divides : 0 < d
  divides = weight_is.1

  below_is : weight / d ≡ ways (choices_of s l)
  below_is = rw weight_is.0 (mul-div_cancel_left (ways (choices_of s l)) weight_is.1)

  pub divides_again : 0 < weight / d
  divides_again = rw below_is (some_length d (ways (choices_of s l)) rest (rw weight_is.0 at p.below))

  pub first_low : b < 256
  first_low = p.inside b (or_left (eqb b b) (mem b l) (eqb_refl b))

  pub choosing_next : Choosing s ms l (weight / d) (rest % (weight / d))
  choosing_next =
      record {
        marked = p.marked;
        inside = λ x t. p.inside x (or_right (eqb x b) (mem x l) t);
        whole = below_is;
        limit = omega (arith, div-le_self weight d, p.limit);
        below = mod-lt rest divides_again;
      }

  pub chosen_next : (ch : List ℕ) → chosen_from s (b ∷ l) rest ch ≡ chosen_from s l (rest % (weight / d)) (set ch b (rest / (weight / d)))
  unfolding chosen_from
  chosen_next ch = rw below_is

-- the same where b is the first number of what is left
module _ (s ms : List ℕ) (b : ℕ) (l list : List ℕ) (first : list ≡ b ∷ l) (above left : ℕ) (p : Choosing s ms list above left)
    (d : ℕ) (e : d ≡ choices_at s ms b) where
  p₂ : Choosing s ms (b ∷ l) above left
  p₂ = rw first at p

  pub walk_divides : 0 < d
  walk_divides = divides s ms b l above left p₂ d e

  pub walk_again : 0 < above / d
  walk_again = divides_again s ms b l above left p₂ d e

  pub walk_low : b < 256
  walk_low = first_low s ms b l above left p₂ d e

  pub walk_choosing : Choosing s ms l (above / d) (left % (above / d))
  walk_choosing = choosing_next s ms b l above left p₂ d e

  pub walk_chosen : (ch : List ℕ) → chosen_from s l (left % (above / d)) (set ch b (left / (above / d))) ≡ chosen_from s list left ch
  walk_chosen ch = rw first (sym (chosen_next s ms b l above left p₂ d e ch))

pub chosen_end : (s list : List ℕ) (left : ℕ) (ch : List ℕ) → list ≡ [] → chosen_from s list left ch ≡ ch
unfolding chosen_from
chosen_end s list left ch q = rw q
