-- Lent bytes and markings: written and read again they are themselves, and no rule makes a condition hold that is not there.
use mathlib.Core.Path.{◌≡◌, refl, sym, ◌∙◌, ap, subst, fun_ext}
use mathlib.Core.Bool.{Bool, true, false}
use mathlib.Core.List.{List}
use Prim.Native.Nat.{ℕ, zero, suc, ◌≤◌, ◌<◌}
use lib.Dec.{T, eqb}
use lib.ListN.{length, get_or, replicate, length-map, length-replicate, get_or-eq_default}
use lib.Seq.{ext_get_or}
use native.Mathlib.Decide.{dec_le}
use native.Mathlib.Nat.{zero-add, lt_of_not-le}
use native.Mathlib.Omega.{arith}
use Rattle.lists.specs.Lists.{mem, count}
use Rattle.lists.proofs.Bools.{is_false}
use Rattle.lists.proofs.Members.{length_count}
use Rattle.lists.proofs.Positions.{counted_at}
use Rattle.lists.proofs.Places.{replicate_at}
use Rattle.model.specs.Net.{Net, Sound, Marking, begin}
use Rattle.model.specs.Lent.{bit, bytes, marking}

-- nothing holds past the conditions
abbrev pub Tidy : ℕ → Marking → Type 0
Tidy c m = (b : ℕ) → c ≤ b → m b ≡ false

pub length_bytes : (c : ℕ) (m : Marking) → length (bytes c m) ≡ c
unfolding bytes
length_bytes c m = length-map (count 0 c) (λ b. bit (m b)) ∙ length_count 0 c

pub bytes_at : (c : ℕ) (m : Marking) (i : ℕ) → i < c → get_or (bytes c m) i 0 ≡ bit (m i)
unfolding bytes
bytes_at c m i h = counted_at (λ b. bit (m b)) 0 0 c i h ∙ rw zero-add

-- bytes are told by what each is
pub bytes_are : (l : List ℕ) (c : ℕ) (m : Marking) → length l ≡ c → ((i : ℕ) → i < c → get_or l i 0 ≡ bit (m i)) → l ≡ bytes c m
bytes_are l c m e h =
    ext_get_or 0 l (bytes c m) (e ∙ sym (length_bytes c m)) (λ i p. let q : i < c = omega arith in h i q ∙ sym (bytes_at c m i q))

pub bit_one : (t : Bool) → eqb (bit t) 1 ≡ t
bit_one true = refl
bit_one false = refl

-- written as bytes and read again, a tidy marking is itself
pub marking_bytes : (c : ℕ) (m : Marking) → Tidy c m → marking (bytes c m) ≡ m
unfolding marking
marking_bytes c m t = fun_ext (λ b. go b (dec_le c b))
  where
    go : (b : ℕ) → Dec (c ≤ b) → eqb (get_or (bytes c m) b 0) 1 ≡ m b
    go b (yes h) = ap (λ (x : ℕ). eqb x 1) (get_or-eq_default (bytes c m) 0 (subst (λ (x : ℕ). x ≤ b) (sym (length_bytes c m)) h)) ∙ sym (t b h)
    go b (no h) = ap (λ (x : ℕ). eqb x 1) (bytes_at c m b (lt_of_not-le h)) ∙ bit_one (m b)

-- bytes that are 0 or 1 are themselves again, read and written
pub bytes_marking : (l : List ℕ) → ((i : ℕ) → i < length l → get_or l i 0 ≤ 1) → l ≡ bytes (length l) (marking l)
unfolding marking
bytes_marking l h = bytes_are l (length l) (marking l) refl (λ i p. go (get_or l i 0) (h i p))
  where
    go : (x : ℕ) → x ≤ 1 → x ≡ bit (eqb x 1)
    go zero p = refl
    go (suc zero) p = refl
    go (suc (suc x)) p = absurd (omega arith)

-- bytes that are all 0 say that nothing holds
pub zeros_say : (l : List ℕ) (c : ℕ) → l ≡ replicate c 0 → marking l ≡ (λ b. false)
unfolding marking
zeros_say l c q = fun_ext (λ b. ap (λ (x : ℕ). eqb x 1) (ap (λ (x : List ℕ). get_or x b 0) q ∙ replicate_at c b 0))

pub zeros_lent : (l : List ℕ) (c : ℕ) → l ≡ replicate c 0 → l ≡ bytes c (marking l)
zeros_lent l c q =
    bytes_are l c (marking l) (ap (λ (x : List ℕ). length x) q ∙ length-replicate c 0)
    (λ i h. ap (λ (x : List ℕ). get_or x i 0) q ∙ replicate_at c i 0 ∙ sym (ap (λ (m : Marking). bit (m i)) (zeros_say l c q)))

pub tidy_marking : (l : List ℕ) → Tidy (length l) (marking l)
unfolding marking
tidy_marking l b h = ap (λ (x : ℕ). eqb x 1) (get_or-eq_default l 0 h)

-- a list of conditions below c
pub tidy_mem : (c : ℕ) (l : List ℕ) → ((b : ℕ) → T (mem b l) → b < c) → Tidy c (λ b. mem b l)
tidy_mem c l h b le = is_false (mem b l) (λ t. let x = h b t in omega arith)

tidy_begin : (n : Net) → Sound n → Tidy n.conditions (begin n)
unfolding begin
tidy_begin n s = tidy_mem n.conditions n.start s.start_in

-- as many bytes as there are conditions, or more, keep the start
pub begun_marking : (n : Net) → Sound n → (c : ℕ) → n.conditions ≤ c → marking (bytes c (begin n)) ≡ begin n
begun_marking n s c h = marking_bytes c (begin n) (λ b p. tidy_begin n s b (omega arith))
