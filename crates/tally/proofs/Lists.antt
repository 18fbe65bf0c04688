-- Lists read two bytes at a time, and numbers raised along a list.
use Prim.Native.Nat.{ℕ, zero, suc, ◌+◌, ◌*◌, ◌-◌, ◌≤◌, ◌<◌}
use native.Mathlib.Omega.{arith}
use native.Mathlib.Decide.{ℕ_discrete}
use mathlib.Core.Path.{◌≡◌, refl, ap, ◌∙◌}
use mathlib.Core.List.{List, [], ◌∷◌}
use mathlib.Core.Bool.{Bool, true, false, ◌||◌}
use lib.Dec.{T, eqb, eqb_refl, leb, leb→le}
use lib.ListN.{length, get_or, set, length-set}
use lib.Seq.{get_or-set_same, get_or-set_other}
use borrow.Author.Tests.{eq-eqb, ne_eqb}
use Rattle.lists.specs.Lists.{mem, ascending_from}
use Rattle.lists.proofs.Bools.{or_left, or_right, is_false, and_left, and_right}
use Rattle.lists.proofs.Members.{mem_in}
use Rattle.lists.proofs.Distinct.{ascending_least}
use Rattle.words.specs.Words.{words}
use Rattle.tally.specs.Having.{raised}

-- ---- one number raised

-- each number of a list stays below a bound that has room for one more
pub set_low : (l : List ℕ) (i k : ℕ) → ((b : ℕ) → get_or l b 0 ≤ k) → (b : ℕ) → get_or (set l i (get_or l i 0 + 1)) b 0 ≤ k + 1
set_low l i k h b = go (ℕ_discrete b i)
  where
    go : Dec (b ≡ i) → get_or (set l i (get_or l i 0 + 1)) b 0 ≤ k + 1
    go (no n) = rw (get_or-set_other l i b (get_or l i 0 + 1) 0 n) (omega (arith, h b))
    go (yes e) = rw e (same l i (h i))
      where
        same : (l : List ℕ) (i : ℕ) → get_or l i 0 ≤ k → get_or (set l i (get_or l i 0 + 1)) i 0 ≤ k + 1
        same [] i q = omega arith
        same (x ∷ l) zero q = omega arith
        same (x ∷ l) (suc i) q = same l i q

-- what is left of a list, of which w is the first number
module _ (w : ℕ) (rest left : List ℕ) (first : left ≡ w ∷ rest) where
  pub first_inside : (k : ℕ) → ((b : ℕ) → T (mem b left) → b < k) → w < k
  first_inside k f = f w (rw first (or_left (eqb w w) (mem w rest) (eqb_refl w)))

  pub rest_inside : (k : ℕ) → ((b : ℕ) → T (mem b left) → b < k) → (b : ℕ) → T (mem b rest) → b < k
  rest_inside k f b t = f b (rw first (or_right (eqb b w) (mem b rest) t))

  -- what is left has room for one more each
  pub low_first : (counts : List ℕ) (k : ℕ) → ((b : ℕ) → get_or counts b 0 + length left ≤ k)
      → (b : ℕ) → get_or (set counts w (get_or counts w 0 + 1)) b 0 + length rest ≤ k
  low_first counts k h b =
      let long : length left ≡ length rest + 1 = ap length first ∙ omega arith in
      omega (arith, h b, set_low counts w (k - length left) (λ x. omega (arith, h x)) b)

  pub raised_first : (counts : List ℕ) → raised counts left ≡ raised (set counts w (get_or counts w 0 + 1)) rest
  unfolding raised
  raised_first counts = rw first

pub raised_none : (counts left : List ℕ) → left ≡ [] → raised counts left ≡ counts
unfolding raised
raised_none counts left none = rw none

-- ---- what has been raised

-- 1 for a member of a list, else 0
abbrev pub one : Bool → ℕ
one true = 1
one false = 0

pub raised_length : (counts l : List ℕ) → length (raised counts l) ≡ length counts
unfolding raised
raised_length counts [] = refl
raised_length counts (b ∷ l) = raised_length (set counts b (get_or counts b 0 + 1)) l ∙ length-set counts b (get_or counts b 0 + 1)

-- along a list that ascends each number is raised once
pub raised_at : (k : ℕ) (counts l : List ℕ) → T (ascending_from k l) → ((b : ℕ) → T (mem b l) → b < length counts) → (b : ℕ)
    → get_or (raised counts l) b 0 ≡ get_or counts b 0 + one (mem b l)
unfolding raised
raised_at k counts [] a f b = omega arith
raised_at k counts (x ∷ l) a f b =
    go (ℕ_discrete b x)
    (raised_at (suc x) (set counts x (get_or counts x 0 + 1)) l (and_right (leb k x) (ascending_from (suc x) l) a)
    (λ y t. rw (length-set counts x (get_or counts x 0 + 1)) (f y (or_right (eqb y x) (mem y l) t))) b)
  where
    low : x < length counts
    low = f x (or_left (eqb x x) (mem x l) (eqb_refl x))

    past : mem x l ≡ false
    past = is_false (mem x l) (λ t. let z = ascending_least (suc x) l (and_right (leb k x) (ascending_from (suc x) l) a) x (mem_in x l t) in omega arith)

    go : Dec (b ≡ x) → get_or (raised (set counts x (get_or counts x 0 + 1)) l) b 0 ≡ get_or (set counts x (get_or counts x 0 + 1)) b 0 + one (mem b l)
        → get_or (raised (set counts x (get_or counts x 0 + 1)) l) b 0 ≡ get_or counts b 0 + one (eqb b x || mem b l)
    go (yes e) ih = ih ∙ rw (e, eq-eqb x x refl, past, get_or-set_same counts x (get_or counts x 0 + 1) 0 low) (omega arith)
    go (no n) ih = ih ∙ rw (ne_eqb b x n, get_or-set_other counts x b (get_or counts x 0 + 1) 0 n)

-- ---- how long a list can be

pub words_long : (l : List ℕ) → length l ≤ 2 * length (words l) + 1
unfolding words
words_long [] = omega arith
words_long (a ∷ []) = omega arith
words_long (a ∷ b ∷ l) = omega (arith, words_long l)

pub ascending_short : (c k : ℕ) (l : List ℕ) → k ≤ c → T (ascending_from k l) → ((b : ℕ) → T (mem b l) → b < c) → k + length l ≤ c
ascending_short c k [] h a f = omega arith
ascending_short c k (x ∷ l) h a f =
    let low : k ≤ x = leb→le k x (and_left (leb k x) (ascending_from (suc x) l) a) in
    let high = f x (or_left (eqb x x) (mem x l) (eqb_refl x)) in
    omega (arith, ascending_short c (suc x) l (omega arith) (and_right (leb k x) (ascending_from (suc x) l) a) (λ b t. f b (or_right (eqb b x) (mem b l) t)))

-- ---- numbers set one by one

pub set_more : (f : ℕ → ℕ) (l : List ℕ) (i v : ℕ) → i < length l → v ≡ f i → ((b : ℕ) → b < i → get_or l b 0 ≡ f b) → (b : ℕ) → b < i + 1 → get_or (set l i v) b 0 ≡ f b
set_more f l i v h e q b g = go (ℕ_discrete b i)
  where
    go : Dec (b ≡ i) → get_or (set l i v) b 0 ≡ f b
    go (yes z) = rw (z, get_or-set_same l i v 0 h) e
    go (no z) = get_or-set_other l i b v 0 z ∙ q b (omega (arith, z))
