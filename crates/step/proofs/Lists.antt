-- A list of conditions: the first that fails a test, and bytes set in turn.
use Prim.Native.Nat.{ℕ, ◌≤◌}
use mathlib.Core.Path.{◌≡◌, refl, sym, ap, ◌∙◌}
use mathlib.Core.Bool.{Bool, true, false, not, cond}
use mathlib.Core.List.{List, [], ◌∷◌}
use mathlib.Core.Option.{some}
use lib.ListN.{length, get_or, set}
use lib.Seq.{set_out}
use borrow.Author.Tests.{eq-eqb, ne_eqb}
use Rattle.lists.specs.Lists.{failing}
use Rattle.std.specs.Prelude.{None, Some, Option as Found}
use Rattle.std.specs.List.{find}
use Rattle.std.specs.Option.{option_map}
use Rattle.step.specs.Steps.{failing_of, set_one, set_all}

-- the first that fails a test, as an answer
first_failing : (f : ℕ → Bool) (l : List ℕ) → option_map (λ b. record { 0 = b }) (find (λ b. not (f b)) l) ≡ failing_of (failing f l)
first_failing f [] = refl
first_failing f (x ∷ xs) = go (f x) (first_failing f xs)
  where
    found : Found ℕ
    found = find (λ b. not (f b)) xs

    go : (t : Bool) → option_map (λ b. record { 0 = b }) found ≡ failing_of (failing f xs)
        → option_map (λ b. record { 0 = b }) (cond (not t) (Some x) found) ≡ failing_of (cond t (failing f xs) (some x))
    go true later = later
    go false later = refl

as_found : (r : Found ℕ) → option_map (λ x. x) r ≡ r
as_found None = refl
as_found (Some b) = refl

-- the same where an iterator finds it
pub found_failing : (f : ℕ → Bool) (l : List ℕ) (r : Found ℕ) → option_map (λ x. x) r ≡ find (λ b. not (f b)) l
    → option_map (λ b. record { 0 = b }) r ≡ failing_of (failing f l)
found_failing f l r is = ap (option_map (λ b. record { 0 = b })) (sym (as_found r) ∙ is) ∙ first_failing f l

-- bytes set in turn, of which b is the next one, and of which none is left
module _ (kept : List ℕ) (v : ℕ) (left l : List ℕ) where
  pub set_next : (b : ℕ) (rest : List ℕ) → left ≡ b ∷ rest → set_all kept v left l ≡ set_all kept v rest (set_one kept v b l)
  unfolding set_all
  set_next b rest next = rw next

  pub set_end : left ≡ [] → set_all kept v left l ≡ l
  unfolding set_all
  set_end empty = rw empty

-- one condition, with the byte x that tells whether it is kept
module _ (kept l : List ℕ) (v b x : ℕ) (e : x ≡ get_or kept b 0) where
  pub set_kept : x ≡ 1 → l ≡ set_one kept v b l
  set_kept p = rw (← e, eq-eqb x 1 p)

  pub set_in : (x ≡ 1 → ⊥) → set l b v ≡ set_one kept v b l
  set_in p = rw (← e, ne_eqb x 1 p)

  pub set_past : (x ≡ 1 → ⊥) → length l ≤ b → l ≡ set_one kept v b l
  set_past p h = sym (set_out l b v h) ∙ set_in p
