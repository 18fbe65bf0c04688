-- The conditions that hold among those from one on, walked one after the other, and put together from parts.
use Prim.Native.Nat.{ℕ, zero, suc, ◌+◌, ◌-◌, ◌≤◌, ◌<◌}
use native.Mathlib.Numerals.{add-one}
use native.Mathlib.Nat.{add-zero, zero-add, sub-zero}
use native.Mathlib.Omega.{arith}
use mathlib.Core.Path.{◌≡◌, refl, ◌∙◌}
use mathlib.Core.Bool.{Bool, true, false, cond}
use mathlib.Core.List.{List, [], ◌∷◌, ◌++◌, append-nil}
use borrow.Author.Tests.{eq-eqb, ne_eqb, lt-ltb, le-ltb}
use lib.Dec.{ltb}
use lib.ListN.{length, get_or}
use Rattle.std.specs.Prelude.{Option, Some, None, MatchOption}
use Rattle.std.specs.List.{AllWithin, HoldsAt}
use Rattle.std.specs.Option.{unwrap_or}
use Rattle.lists.specs.Lists.{keep, count}
use Rattle.model.specs.Net.{Marking}
use Rattle.model.specs.Lent.{marking}
use Rattle.lists.proofs.Positions.{spread_append, count_split}
use Rattle.spelling.specs.Decimal.{decimal}
use Rattle.listing.specs.Text.{comma, commas, holding}
use Rattle.listing.specs.Calls.{held_in, first_or, first_in}

-- A condition of lent bytes holds where its byte is 1.
pub byte_holds : (l : List ℕ) (b : ℕ) → get_or l b 0 ≡ 1 → marking l b ≡ true
unfolding marking
byte_holds l b e = eq-eqb (get_or l b 0) 1 e

pub byte_fails : (l : List ℕ) (b : ℕ) → (get_or l b 0 ≡ 1 → ⊥) → marking l b ≡ false
unfolding marking
byte_fails l b e = ne_eqb (get_or l b 0) 1 e

module _ (m : Marking) (b upto : ℕ) where
  first_counted : b < upto → count b (upto - b) ≡ b ∷ count (b + 1) (upto - (b + 1))
  first_counted h =
      let e : upto - b ≡ suc (upto - (b + 1)) = omega arith in
      rw (e, add-one)

  -- The first of them holds, does not, or is past the last.
  pub holds_first : b < upto → m b ≡ true → holding m b (upto - b) ≡ b ∷ holding m (b + 1) (upto - (b + 1))
  unfolding holding
  holds_first h e = rw (first_counted h, e)

  pub skips_first : b < upto → m b ≡ false → holding m b (upto - b) ≡ holding m (b + 1) (upto - (b + 1))
  unfolding holding
  skips_first h e = rw (first_counted h, e)

  pub none_left : upto ≤ b → holding m b (upto - b) ≡ []
  unfolding holding
  none_left h =
      let e : upto - b ≡ 0 = omega arith in
      rw e

-- ---- put together from parts

keep_both : (m : Marking) (x y : List ℕ) → keep m (x ++ y) ≡ keep m x ++ keep m y
keep_both m [] y = refl
keep_both m (b ∷ x) y = go (m b) refl (keep_both m x y)
  where
    go : (t : Bool) → m b ≡ t → keep m (x ++ y) ≡ keep m x ++ keep m y → keep m ((b ∷ x) ++ y) ≡ keep m (b ∷ x) ++ keep m y
    go true e rest = rw (e, rest)
    go false e rest = rw (e, rest)

-- The conditions of two parts that follow each other, and their text.
pub holding_both : (m : Marking) (b c d : ℕ) → holding m b (c + d) ≡ holding m b c ++ holding m (b + c) d
unfolding holding
holding_both m b c d = rw (count_split b c d) (keep_both m (count b c) (count (b + c) d))

pub commas_both : (x y : List ℕ) → commas (x ++ y) ≡ commas x ++ commas y
unfolding commas
commas_both x y = spread_append (λ b. comma ∷ decimal b) x y

-- The text of a part is that of its first condition and of those after it.
pub first_apart : (m : Marking) (b upto : ℕ) → b < upto → commas (holding m b (upto - b)) ≡ commas (holding m b 1) ++ commas (holding m (b + 1) (upto - (b + 1)))
first_apart m b upto h =
    let e : upto - b ≡ 1 + (upto - (b + 1)) = omega arith in
    rw (e, holding_both m b 1 (upto - (b + 1)), commas_both)

-- The text of one condition.
pub one_holds : (m : Marking) (b : ℕ) → m b ≡ true → commas (holding m b 1) ≡ comma ∷ decimal b
unfolding commas holding
one_holds m b e = rw e (rw append-nil)

pub one_fails : (m : Marking) (b : ℕ) → m b ≡ false → commas (holding m b 1) ≡ []
unfolding commas holding
one_fails m b e = rw e

-- ---- the first that holds

-- What holds is the first, and what holds after it; nothing where the first is past the last.
abbrev pub after_first : Marking → ℕ → ℕ → List ℕ
after_first m b upto = cond (ltb b upto) (b ∷ holding m (b + 1) (upto - (b + 1))) []

pub first_then : (m : Marking) (c b : ℕ) → holding m b c ≡ after_first m (first_or (b + c) (holding m b c)) (b + c)
unfolding holding
first_then m zero b = rw (add-zero, le-ltb b b (omega arith))
first_then m (suc c) b = go (m b) refl (first_then m c (b + 1))
  where
    go : (t : Bool) → m b ≡ t → holding m (b + 1) c ≡ after_first m (first_or (b + 1 + c) (holding m (b + 1) c)) (b + 1 + c) → holding m b (suc c) ≡ after_first m (first_or (b + suc c) (holding m b (suc c))) (b + suc c)
    go true e rest =
        let left : b + suc c - (b + 1) ≡ c = omega arith in
        rw (e, lt-ltb b (b + suc c) (omega arith), left, add-one)
    go false e rest =
        let same : b + suc c ≡ b + 1 + c = omega arith in
        rw (e, same, ← add-one b) rest

first_least : (m : Marking) (c b : ℕ) → first_or (b + c) (holding m b c) ≤ b + c
unfolding holding
first_least m zero b = omega arith
first_least m (suc c) b = go (m b) refl (first_least m c (b + 1))
  where
    go : (t : Bool) → m b ≡ t → first_or (b + 1 + c) (holding m (b + 1) c) ≤ b + 1 + c → first_or (b + suc c) (holding m b (suc c)) ≤ b + suc c
    go true e rest = rw e (omega arith)
    go false e rest =
        let same : b + suc c ≡ b + 1 + c = omega arith in
        rw (e, same, ← add-one b) rest

-- The first condition that holds is not past the number of conditions.
pub first_below : (l : List ℕ) → first_in l ≤ length l
unfolding first_in held_in
first_below l = rw zero-add at (first_least (marking l) (length l) 0)

-- None of c conditions holds, so that what holds from the first of them on holds after them.
skips_all :
    (m : Marking) (c b upto : ℕ)
    → b + c ≤ upto
    → ((k : ℕ) → b ≤ k → k < b + c → m k ≡ false)
    → holding m b (upto - b) ≡ holding m (b + c) (upto - (b + c))
skips_all m zero b upto h none = rw add-zero
skips_all m (suc c) b upto h none =
    let next : b + suc c ≡ b + 1 + c = omega arith in
    rw next
    (skips_first m b upto (omega arith) (none b (omega arith) (omega arith))
    ∙ skips_all m c (b + 1) upto (omega arith) (λ k low high. none k (omega arith) (omega arith)))

-- The place of the first byte 1, the number of bytes where there is none, is the first condition that holds.
pub first_found :
    (l : List ℕ) (r : Option ℕ)
    → MatchOption r (AllWithin (λ x. x ≡ 1 → ⊥) l 0 (length l)) (λ b. (b < length l) × HoldsAt (λ x. x ≡ 1) l b × AllWithin (λ x. x ≡ 1 → ⊥) l 0 b)
    → unwrap_or r (length l) ≡ first_in l
unfolding first_in held_in
first_found l None none =
    let skipped = skips_all (marking l) (length l) 0 (length l) (omega arith) (λ k low high. byte_fails l k (none k 0 low (omega arith))) in
    let all = rw (zero-add, sub-zero) at skipped in
    rw (all, none_left (marking l) (length l) (length l) (omega arith))
first_found l (Some b) (low, here, none) =
    let skipped = skips_all (marking l) b 0 (length l) (omega arith) (λ k least high. byte_fails l k (none k 0 least (omega arith))) in
    let all = rw (zero-add, sub-zero) at skipped in
    rw (all, holds_first (marking l) b (length l) low (byte_holds l b (here 0)))
