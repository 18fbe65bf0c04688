-- Bytes that are each 0 or 1 are those of a marking, and so is what was written as bytes.
use mathlib.Core.Path.{◌≡◌, refl, sym, ◌∙◌, ap, subst}
use mathlib.Core.List.{List}
use Prim.Native.Nat.{ℕ, ◌≤◌, ◌<◌}
use lib.Dec.{eqb}
use lib.ListN.{length, get_or}
use Rattle.model.specs.Net.{Marking}
use Rattle.model.specs.Lent.{bit, bytes, marking}
use Rattle.model.proofs.Lent.{length_bytes, bytes_at, bytes_are, bit_one, bytes_marking}
use Rattle.step.specs.Lent.{Lent}

-- bytes that are each 0 or 1 are those of a marking, and the other way round
pub lent_of : (l : List ℕ) → ((i : ℕ) → i < length l → get_or l i 0 ≤ 1) → Lent l
lent_of l h = bytes_marking l h

pub lent_at : (l : List ℕ) → Lent l → (i : ℕ) → i < length l → get_or l i 0 ≡ bit (marking l i)
lent_at l e i h = ap (λ (x : List ℕ). get_or x i 0) e ∙ bytes_at (length l) (marking l) i h

-- what was written as bytes is lent
pub lent_bytes : (c : ℕ) (m : Marking) → Lent (bytes c m)
unfolding marking
lent_bytes c m =
    bytes_are (bytes c m) (length (bytes c m)) (marking (bytes c m)) refl (λ i p.
    let q : i < c = subst (λ (x : ℕ). i < x) (length_bytes c m) p in
    bytes_at c m i q ∙ ap bit (sym (bit_one (m i)) ∙ ap (λ (x : ℕ). eqb x 1) (sym (bytes_at c m i q))))
