-- Four words and the marking that they tell: made word by word, from bytes and by one condition after the other.
use Prim.Native.Nat.{ℕ, zero, suc, ◌+◌, ◌-◌, ◌*◌, ◌/◌, ◌%◌, ◌^◌, ◌≤◌, ◌<◌, min}
use native.Mathlib.Nat.{zero-div}
use native.Mathlib.Omega.{arith}
use mathlib.Core.Path.{◌≡◌, refl, sym, ap, ap₂, ◌∙◌, fun_ext}
use mathlib.Core.Bool.{Bool, true, false, not, ◌&&◌, ◌||◌, and-false, or-true, or-false}
use mathlib.Core.List.{List, [], ◌∷◌}
use lib.Dec.{eqb, leb, ltb}
use lib.ListN.{length, get_or, set, take, drop, length-set, length-drop, get_or-eq_default, drop_of_length-le}
use lib.Seq.{get_or-set_same, get_or-set_other, get_or-drop, take_all, drop-length}
use Rattle.std.proofs.lemmas.List.{get_or-take, take_min}
use lib.Bits.{bit_and, bit_or, bit_xor}
use borrow.Author.Tests.{eqb-true, eqb-false, leb-true, leb-false, eq-eqb, ne_eqb, lt-ltb, le-ltb, ltb-true, ltb-false}
use Rattle.lists.specs.Lists.{mem}
use Rattle.model.specs.Net.{Marking}
use Rattle.model.specs.Lent.{marking}
use Rattle.model.proofs.Lent.{Tidy, tidy_marking}
use Rattle.held.specs.Held.{bit_of, held_in, tabled, Tells}
use Rattle.held.proofs.Bits.{bit_both, bit_either, bit_less, bit_one, shifted}

-- ---- what has no word

-- a word that is not there has no bit
past : (ws : List ℕ) (p j : ℕ) → length ws ≤ p → bit_of (get_or ws p 0) j ≡ false
past ws p j h = ap (λ (x : ℕ). bit_of x j) (get_or-eq_default ws 0 h) ∙ ap (λ (x : ℕ). eqb (x % 2) 1) (zero-div (2 ^ j))

pub held_past : (ws : List ℕ) (b : ℕ) → length ws ≤ b / 64 → held_in ws b ≡ false
unfolding held_in
held_past ws b h = past ws (b / 64) (b % 64) h

-- a marking in which nothing holds past 256 conditions is told whole
pub tabled_tidy : (m : Marking) → Tidy 256 m → tabled m ≡ m
tabled_tidy m h = fun_ext (λ b. go b (ltb b 256) refl)
  where
    go : (b : ℕ) (t : Bool) → ltb b 256 ≡ t → (t && m b) ≡ m b
    go b true e = refl
    go b false e = sym (h b (ltb-false b 256 e))

-- so is one that is lent in no more bytes
pub tabled_marking : (l : List ℕ) → length l ≤ 256 → tabled (marking l) ≡ marking l
tabled_marking l h = tabled_tidy (marking l) (λ b p. tidy_marking l b (omega arith))

-- ---- two markings put together, word by word

-- words of two others by a rule of numbers, where the rule is known for each bit and makes nothing of nothing
module _ (f : ℕ → ℕ → ℕ) (g : Bool → Bool → Bool) (nothing : g false false ≡ false) (bitwise : (x y j : ℕ) → bit_of (f x y) j ≡ g (bit_of x j) (bit_of y j)) where
  abbrev pub made : List ℕ → List ℕ → List ℕ
  made x y = f (get_or x 0 0) (get_or y 0 0) ∷ f (get_or x 1 0) (get_or y 1 0) ∷ f (get_or x 2 0) (get_or y 2 0) ∷ f (get_or x 3 0) (get_or y 3 0) ∷ []

  pub held_made : (x y : List ℕ) → length x ≡ 4 → length y ≡ 4 → held_in (made x y) ≡ (λ b. g (held_in x b) (held_in y b))
  unfolding held_in
  held_made x y h k = fun_ext (λ b. go (b / 64) (b % 64))
    where
      go : (p j : ℕ) → bit_of (get_or (made x y) p 0) j ≡ g (bit_of (get_or x p 0) j) (bit_of (get_or y p 0) j)
      go zero j = bitwise (get_or x 0 0) (get_or y 0 0) j
      go (suc zero) j = bitwise (get_or x 1 0) (get_or y 1 0) j
      go (suc (suc zero)) j = bitwise (get_or x 2 0) (get_or y 2 0) j
      go (suc (suc (suc zero))) j = bitwise (get_or x 3 0) (get_or y 3 0) j
      go (suc (suc (suc (suc p)))) j =
          past (made x y) (suc (suc (suc (suc p)))) j (omega arith) ∙ sym nothing
          ∙ sym (ap₂ g (past x (suc (suc (suc (suc p)))) j (omega arith)) (past y (suc (suc (suc (suc p)))) j (omega arith)))

module _ (x y : List ℕ) (h : length x ≡ 4) (k : length y ≡ 4) where
  pub held_both : held_in (made bit_and (λ s t. s && t) refl bit_both x y) ≡ (λ b. held_in x b && held_in y b)
  held_both = held_made bit_and (λ s t. s && t) refl bit_both x y h k

  pub held_either : held_in (made bit_or (λ s t. s || t) refl bit_either x y) ≡ (λ b. held_in x b || held_in y b)
  held_either = held_made bit_or (λ s t. s || t) refl bit_either x y h k

  pub held_without : held_in (made (λ p q. bit_xor p (bit_and p q)) (λ s t. s && not t) refl bit_less x y) ≡ (λ b. held_in x b && not (held_in y b))
  held_without = held_made (λ p q. bit_xor p (bit_and p q)) (λ s t. s && not t) refl bit_less x y h k

-- where no word has a bit, nothing holds
pub held_empty : (ws : List ℕ) → length ws ≡ 4 → bit_or (bit_or (bit_or (get_or ws 0 0) (get_or ws 1 0)) (get_or ws 2 0)) (get_or ws 3 0) ≡ 0 → (b : ℕ) → held_in ws b ≡ false
unfolding held_in
held_empty ws h e b = go (b / 64) (b % 64)
  where
    any : (w x y z j : ℕ) → bit_or (bit_or (bit_or w x) y) z ≡ 0 → (((bit_of w j || bit_of x j) || bit_of y j) || bit_of z j) ≡ false
    any w x y z j q =
        sym (bit_either (bit_or (bit_or w x) y) z j
        ∙ ap (λ (t : Bool). t || bit_of z j) (bit_either (bit_or w x) y j ∙ ap (λ (t : Bool). t || bit_of y j) (bit_either w x j)))
        ∙ ap (λ (n : ℕ). bit_of n j) q ∙ ap (λ (n : ℕ). eqb (n % 2) 1) (zero-div (2 ^ j))

    none : (s t u v : Bool) → (((s || t) || u) || v) ≡ false → (s ≡ false) × (t ≡ false) × (u ≡ false) × (v ≡ false)
    none false false false false q = (refl, refl, refl, refl)
    none false false false true q = absurd (let z : ◌≡◌ {A = ℕ} 0 1 = cc in omega arith)
    none false false true v q = absurd (let z : ◌≡◌ {A = ℕ} 0 1 = cc in omega arith)
    none false true u v q = absurd (let z : ◌≡◌ {A = ℕ} 0 1 = cc in omega arith)
    none true t u v q = absurd (let z : ◌≡◌ {A = ℕ} 0 1 = cc in omega arith)

    each : (j : ℕ) → (bit_of (get_or ws 0 0) j ≡ false) × (bit_of (get_or ws 1 0) j ≡ false) × (bit_of (get_or ws 2 0) j ≡ false) × (bit_of (get_or ws 3 0) j ≡ false)
    each j = none (bit_of (get_or ws 0 0) j) (bit_of (get_or ws 1 0) j) (bit_of (get_or ws 2 0) j) (bit_of (get_or ws 3 0) j) (any (get_or ws 0 0) (get_or ws 1 0) (get_or ws 2 0) (get_or ws 3 0) j e)

    go : (p j : ℕ) → bit_of (get_or ws p 0) j ≡ false
    go zero j = (each j).0
    go (suc zero) j = (each j).1
    go (suc (suc zero)) j = (each j).2
    go (suc (suc (suc zero))) j = (each j).3
    go (suc (suc (suc (suc p)))) j = past ws (suc (suc (suc (suc p)))) j (omega arith)

-- ---- one condition more

-- a condition's bit added to its word
pub held_more : (ws : List ℕ) (b : ℕ) → b / 64 < length ws → (c : ℕ)
    → held_in (set ws (b / 64) (bit_or (get_or ws (b / 64) 0) (2 ^ (b % 64)))) c ≡ (held_in ws c || eqb c b)
unfolding held_in
held_more ws b h c = go (eqb (c / 64) (b / 64)) refl
  where
    here : c / 64 ≡ b / 64 → eqb (c % 64) (b % 64) ≡ eqb c b
    here z = rest (eqb c b) refl
      where
        rest : (t : Bool) → eqb c b ≡ t → eqb (c % 64) (b % 64) ≡ t
        rest true e = eq-eqb (c % 64) (b % 64) (ap (λ (x : ℕ). x % 64) (eqb-true c b e))
        rest false e = ne_eqb (c % 64) (b % 64) (λ q. eqb-false c b e (omega (arith, z, q)))

    there : (c / 64 ≡ b / 64 → ⊥) → eqb c b ≡ false
    there n = ne_eqb c b (λ q. n (ap (λ (x : ℕ). x / 64) q))

    go : (t : Bool) → eqb (c / 64) (b / 64) ≡ t
        → bit_of (get_or (set ws (b / 64) (bit_or (get_or ws (b / 64) 0) (2 ^ (b % 64)))) (c / 64) 0) (c % 64) ≡ (bit_of (get_or ws (c / 64) 0) (c % 64) || eqb c b)
    go true e =
        let z : c / 64 ≡ b / 64 = eqb-true (c / 64) (b / 64) e in
        rw z (ap (λ (x : ℕ). bit_of x (c % 64)) (get_or-set_same ws (b / 64) (bit_or (get_or ws (b / 64) 0) (2 ^ (b % 64))) 0 h))
        ∙ bit_either (get_or ws (b / 64) 0) (2 ^ (b % 64)) (c % 64)
        ∙ ap₂ (λ (x : ℕ) (t : Bool). bit_of (get_or ws x 0) (c % 64) || t) (sym z) (bit_one (b % 64) (c % 64) ∙ here z)
    go false e =
        let z = eqb-false (c / 64) (b / 64) e in
        ap (λ (x : ℕ). bit_of x (c % 64)) (get_or-set_other ws (b / 64) (c / 64) (bit_or (get_or ws (b / 64) 0) (2 ^ (b % 64))) 0 z)
        ∙ sym (ap (λ (t : Bool). bit_of (get_or ws (c / 64) 0) (c % 64) || t) (there z) ∙ or-false (bit_of (get_or ws (c / 64) 0) (c % 64)))

-- ---- the conditions of a list

-- words, and the conditions that are left of a list, are all of the list
pub record Collected (list left : List ℕ) (ws : List ℕ) : Type 0 where
  pub four : length ws ≡ 4
  pub all : (b : ℕ) → (held_in ws b || tabled (λ c. mem c left) b) ≡ tabled (λ c. mem c list) b

-- words of 0 tell of no condition
pub held_none : (b : ℕ) → held_in (0 ∷ 0 ∷ 0 ∷ 0 ∷ []) b ≡ false
unfolding held_in
held_none b = go (b / 64) (b % 64)
  where
    nothing : (j : ℕ) → bit_of 0 j ≡ false
    nothing j = ap (λ (x : ℕ). eqb (x % 2) 1) (zero-div (2 ^ j))

    go : (p j : ℕ) → bit_of (get_or (0 ∷ 0 ∷ 0 ∷ 0 ∷ []) p 0) j ≡ false
    go zero j = nothing j
    go (suc zero) j = nothing j
    go (suc (suc zero)) j = nothing j
    go (suc (suc (suc zero))) j = nothing j
    go (suc (suc (suc (suc p)))) j = past (0 ∷ 0 ∷ 0 ∷ 0 ∷ []) (suc (suc (suc (suc p)))) j (omega arith)

pub collect_none : (list left : List ℕ) → left ≡ list → Collected list left (0 ∷ 0 ∷ 0 ∷ 0 ∷ [])
collect_none list left whole = record {
  four = refl;
  all = λ b. rw whole (ap (λ (t : Bool). t || tabled (λ c. mem c list) b) (held_none b));
}

pub collect_end : (list left ws : List ℕ) → left ≡ [] → Collected list left ws → held_in ws ≡ tabled (λ b. mem b list)
collect_end list left ws none g = fun_ext (λ b. sym (rw none (go (held_in ws b) (ltb b 256))) ∙ g.all b)
  where
    go : (t s : Bool) → (t || s && false) ≡ t
    go true s = refl
    go false true = refl
    go false false = refl

-- the first condition x that is left
module _ (list left rest : List ℕ) (x : ℕ) (next : left ≡ x ∷ rest) (ws : List ℕ) (g : Collected list left ws) where
  parts : (b : ℕ) → (held_in ws b || ltb b 256 && (eqb b x || mem b rest)) ≡ tabled (λ c. mem c list) b
  parts b = ap (λ (l : List ℕ). held_in ws b || ltb b 256 && mem b l) (sym next) ∙ g.all b

  pub collect_more : x / 64 < 4 → Collected list rest (set ws (x / 64) (bit_or (get_or ws (x / 64) 0) ((1 * 2 ^ (x % 64)) % 2 ^ 64)))
  collect_more p = record {
    four = length-set ws (x / 64) (bit_or (get_or ws (x / 64) 0) ((1 * 2 ^ (x % 64)) % 2 ^ 64)) ∙ g.four;
    all = λ b.
        ap (λ (y : ℕ). held_in (set ws (x / 64) (bit_or (get_or ws (x / 64) 0) y)) b || tabled (λ c. mem c rest) b) (shifted (x % 64) (omega arith))
        ∙ ap (λ (t : Bool). t || tabled (λ c. mem c rest) b) (held_more ws x (rw g.four p) b) ∙ go b (eqb b x) refl ∙ parts b;
  }
    where
      join : (a z m : Bool) → ((a || z) || true && m) ≡ (a || true && (z || m))
      join true z m = refl
      join false true m = refl
      join false false m = refl

      none : (a l m : Bool) → ((a || false) || l && m) ≡ (a || l && (false || m))
      none true l m = refl
      none false l m = refl

      go : (b : ℕ) (t : Bool) → eqb b x ≡ t
          → ((held_in ws b || t) || ltb b 256 && mem b rest) ≡ (held_in ws b || ltb b 256 && (t || mem b rest))
      go b true q =
          let z : b ≡ x = eqb-true b x q in
          let low : ltb b 256 ≡ true = lt-ltb b 256 (omega (arith, z, p)) in
          rw low (join (held_in ws b) true (mem b rest))
      go b false q = none (held_in ws b) (ltb b 256) (mem b rest)

  pub collect_over : 4 ≤ x / 64 → Collected list rest ws
  collect_over p = record { four = g.four; all = λ b. go b (eqb b x) refl ∙ parts b }
    where
      go : (b : ℕ) (t : Bool) → eqb b x ≡ t
          → (held_in ws b || ltb b 256 && mem b rest) ≡ (held_in ws b || ltb b 256 && (t || mem b rest))
      go b true q =
          let z : b ≡ x = eqb-true b x q in
          let high : ltb b 256 ≡ false = le-ltb b 256 (omega (arith, z, p)) in
          rw high
      go b false q = refl

-- ---- the marking in bytes

-- what begins at the end at the latest is the same as what may begin past it
drop_least : (l : List ℕ) (from : ℕ) → drop (min from (length l)) l ≡ drop from l
drop_least l from = go (leb from (length l)) refl
  where
    go : (t : Bool) → leb from (length l) ≡ t → drop (min from (length l)) l ≡ drop from l
    go true e =
        let h = leb-true from (length l) e in
        let least : min from (length l) ≡ from = omega arith in
        rw least
    go false e =
        let h = leb-false from (length l) e in
        let least : min from (length l) ≡ length l = omega arith in
        let past : drop from l ≡ [] = drop_of_length-le l (omega arith) in
        rw (least, past, drop-length)

-- the bytes from a place on, at most 64 of them, however they are cut out
pub bytes_there : (l : List ℕ) (from a n : ℕ) → a ≡ min from (length l) → n ≡ min (length (take (length l - a) (drop a l))) 64
    → take n (take (length l - a) (drop a l)) ≡ take 64 (drop from l)
bytes_there l from a n start size =
    let whole = take_all (length l - a) (drop a l) (omega (arith, length-drop a l)) in
    let most : n ≡ min 64 (length (drop a l)) = size ∙ rw whole (omega arith) in
    rw (whole, most, take_min, start, drop_least l from)

-- the lowest i bits of a word are read from bytes
abbrev pub Gathered : List ℕ → ℕ → ℕ → Type 0
Gathered bytes i word = (j : ℕ) → bit_of word j ≡ (ltb j i && marking bytes j)

pub gather_none : (bytes : List ℕ) → Gathered bytes 0 0
gather_none bytes j = ap (λ (x : ℕ). eqb (x % 2) 1) (zero-div (2 ^ j)) ∙ sym (ap (λ (t : Bool). t && marking bytes j) (le-ltb j 0 (omega arith)))

-- one bit further, set where the condition holds
module _ (bytes : List ℕ) (i word : ℕ) (g : Gathered bytes i word) where
  below : (j : ℕ) → (j ≡ i → ⊥) → ltb j (i + 1) ≡ ltb j i
  below j n = go (ltb j i) refl
    where
      go : (t : Bool) → ltb j i ≡ t → ltb j (i + 1) ≡ t
      go true e = let q = ltb-true j i e in lt-ltb j (i + 1) (omega arith)
      go false e = let q = ltb-false j i e in le-ltb j (i + 1) (omega arith)

  pub gather_more : i < 64 → get_or bytes i 0 ≡ 1 → (new : ℕ) → new ≡ bit_or word ((1 * 2 ^ i) % 2 ^ 64) → Gathered bytes (i + 1) new
  unfolding marking
  gather_more l one new is j =
      ap (λ (x : ℕ). bit_of x j) (is ∙ ap (bit_or word) (shifted i l))
      ∙ bit_either word (2 ^ i) j ∙ ap₂ (λ (s t : Bool). s || t) (g j) (bit_one i j) ∙ go (eqb j i) refl
    where
      h : marking bytes i ≡ true
      h = eq-eqb (get_or bytes i 0) 1 one

      go : (t : Bool) → eqb j i ≡ t → ((ltb j i && marking bytes j) || t) ≡ (ltb j (i + 1) && marking bytes j)
      go true q =
          let z : j ≡ i = eqb-true j i q in
          or-true (ltb j i && marking bytes j) ∙ sym (ap₂ (λ (s t : Bool). s && t) (lt-ltb j (i + 1) (omega arith)) (ap (λ (x : ℕ). marking bytes x) z ∙ h))
      go false q = or-false (ltb j i && marking bytes j) ∙ ap (λ (t : Bool). t && marking bytes j) (sym (below j (eqb-false j i q)))

  pub gather_over : (get_or bytes i 0 ≡ 1 → ⊥) → (new : ℕ) → new ≡ word → Gathered bytes (i + 1) new
  unfolding marking
  gather_over other new is j = ap (λ (x : ℕ). bit_of x j) is ∙ g j ∙ go (eqb j i) refl
    where
      h : marking bytes i ≡ false
      h = ne_eqb (get_or bytes i 0) 1 other

      go : (t : Bool) → eqb j i ≡ t → (ltb j i && marking bytes j) ≡ (ltb j (i + 1) && marking bytes j)
      go true q =
          let z : marking bytes j ≡ false = ap (λ (x : ℕ). marking bytes x) (eqb-true j i q) ∙ h in
          rw z (and-false (ltb j i) ∙ sym (and-false (ltb j (i + 1))))
      go false q = ap (λ (t : Bool). t && marking bytes j) (sym (below j (eqb-false j i q)))

-- all bits are read where 64 are, or all that there are
pub gather_end : (state bytes : List ℕ) (from i word : ℕ) → bytes ≡ take 64 (drop from state) → Gathered bytes i word → length bytes ≤ i
    → Tells (marking state) from word
unfolding marking
gather_end state bytes from i word is g h j l = g j ∙ go (ltb j i) refl ∙ ap (λ (x : ℕ). eqb x 1) here
  where
    here : get_or bytes j 0 ≡ get_or state (from + j) 0
    here = rw (is, get_or-take, get_or-drop)

    go : (t : Bool) → ltb j i ≡ t → (t && marking bytes j) ≡ marking bytes j
    go true q = refl
    go false q = let z = ltb-false j i q in sym (tidy_marking bytes j (omega arith))

-- four words that are read so are the marking
pub held_gathered : (state : List ℕ) (w x y z : ℕ)
    → Tells (marking state) 0 w → Tells (marking state) 64 x → Tells (marking state) 128 y → Tells (marking state) 192 z → held_in (w ∷ x ∷ y ∷ z ∷ []) ≡ tabled (marking state)
unfolding held_in
held_gathered state w x y z h0 h1 h2 h3 = fun_ext (λ b. go b (b / 64) (b % 64) (omega arith) (omega arith))
  where
    here : (b k : ℕ) → b ≡ k → b < 256 → marking state k ≡ (ltb b 256 && marking state b)
    here b k e l = rw (lt-ltb b 256 l) (ap (marking state) (sym e))

    go : (b p j : ℕ) → b ≡ 64 * p + j → j < 64 → bit_of (get_or (w ∷ x ∷ y ∷ z ∷ []) p 0) j ≡ (ltb b 256 && marking state b)
    go b zero j e l = h0 j l ∙ here b (0 + j) (omega arith) (omega arith)
    go b (suc zero) j e l = h1 j l ∙ here b (64 + j) (omega arith) (omega arith)
    go b (suc (suc zero)) j e l = h2 j l ∙ here b (128 + j) (omega arith) (omega arith)
    go b (suc (suc (suc zero))) j e l = h3 j l ∙ here b (192 + j) (omega arith) (omega arith)
    go b (suc (suc (suc (suc p)))) j e l =
        past (w ∷ x ∷ y ∷ z ∷ []) (suc (suc (suc (suc p)))) j (omega arith)
        ∙ sym (ap (λ (t : Bool). t && marking state b) (le-ltb b 256 (omega arith)))
