-- Tests on lists of numbers, and the few ways in which lists are built: plain vocabulary, nothing of nets.
use Rattle.std.specs.Prelude.{Bool, true, false, not, ◌&&◌, ◌||◌, cond, ℕ, zero, suc, ◌+◌, eqb, leb, ltb}
use Rattle.std.proofs.Math.Option.{Option, none, some}
use mathlib.Core.List.{List, [], ◌∷◌, ◌++◌, Memᴰ}

-- ---- tests

-- a number is a member of a list
abbrev pub mem : ℕ → List ℕ → Bool
mem k [] = false
mem k (x ∷ xs) = eqb k x || mem k xs

-- every member passes a test
abbrev pub all : (ℕ → Bool) → List ℕ → Bool
all f [] = true
all f (x ∷ xs) = f x && all f xs

-- some member passes a test
abbrev pub any : (ℕ → Bool) → List ℕ → Bool
any f [] = false
any f (x ∷ xs) = f x || any f xs

-- a list has no member
abbrev pub empty : List ℕ → Bool
empty [] = true
empty (x ∷ xs) = false

-- the first member is at least k, and each further one above the one before it
abbrev pub ascending_from : ℕ → List ℕ → Bool
ascending_from k [] = true
ascending_from k (x ∷ xs) = leb k x && ascending_from (suc x) xs

-- each member is above the one before it
abbrev pub ascending : List ℕ → Bool
ascending l = ascending_from 0 l

-- a list ascends, and each member is below n
unfoldable pub fits : ℕ → List ℕ → Bool
fits n l = ascending l && all (λ b. ltb b n) l

-- if the one test passes, so does the other
infixr 20 ◌⇒◌
abbrev pub ◌⇒◌ : Bool → Bool → Bool
true ⇒ b = b
false ⇒ b = true

-- two tests agree
abbrev pub same : Bool → Bool → Bool
same true b = b
same false b = not b

-- ---- searches

-- the first member that fails a test: the lowest, where the list is ascending
abbrev pub failing : (ℕ → Bool) → List ℕ → Option ℕ
failing f [] = none
failing f (x ∷ xs) = cond (f x) (failing f xs) (some x)

-- nothing was found
abbrev pub nothing : Option ℕ → Bool
nothing none = true
nothing (some b) = false

module _ {A : Type 0} where
  -- the first place at which a test passes; the length of the list where it passes nowhere
  abbrev pub index : (A → Bool) → List A → ℕ
  index t [] = 0
  index t (x ∷ xs) = cond (t x) 0 (suc (index t xs))

  -- the places, counted from k, at which a test passes
  abbrev pub places_from : ℕ → (A → Bool) → List A → List ℕ
  places_from k t [] = []
  places_from k t (x ∷ xs) = cond (t x) (k ∷ places_from (suc k) t xs) (places_from (suc k) t xs)

-- ---- lists made

-- the members that pass a test
abbrev pub keep : (ℕ → Bool) → List ℕ → List ℕ
keep t [] = []
keep t (x ∷ xs) = cond (t x) (x ∷ keep t xs) (keep t xs)

-- the c numbers from k on
abbrev pub count : ℕ → ℕ → List ℕ
count k zero = []
count k (suc c) = k ∷ count (suc k) c

-- the sum of f over the k numbers from 0 on
abbrev pub sum : (ℕ → ℕ) → ℕ → ℕ
sum f zero = 0
sum f (suc k) = sum f k + f k

module _ {A B : Type 0} where
  -- the lists that f gives for the members, one after the other
  abbrev pub spread : (A → List B) → List A → List B
  spread f [] = []
  spread f (x ∷ xs) = f x ++ spread f xs

-- ---- membership as a proposition

infix 40 ◌∈◌
abbrev pub ◌∈◌ : {A : Type 0} → A → List A → Type 0
x ∈ xs = Memᴰ x xs
