-- The numbers of a run's steps written over the first of a lent output.
use Prim.Native.Nat.{ℕ, suc, ◌+◌, ◌≤◌, ◌<◌}
use native.Mathlib.Omega.{arith}
use native.Mathlib.Numerals.{add-one}
use native.Mathlib.Decide.{ℕ_discrete}
use mathlib.Core.Path.{◌≡◌, refl, sym, ap, ◌∙◌, subst}
use mathlib.Core.List.{List, [], ◌∷◌, ◌++◌}
use lib.ListN.{length, get_or, take, drop, set, length-set}
use lib.Seq.{drop-cons, take-length, get_or-set_same, get_or-set_other}
use Rattle.model.specs.Across.{most_unfolded}
use Rattle.held.proofs.Copying.{Copied, copy_on, copy_end}
use Rattle.lift.specs.Played.{numbers_for, Writing}

pub numbers_long : (later numbers r : List ℕ) → length (numbers_for later numbers r) ≡ length r
unfolding numbers_for
numbers_long later numbers [] = refl
numbers_long later numbers (e ∷ r) = ap suc (numbers_long later (set numbers e (get_or later e 0)) r)

-- k steps are written, and the numbers left are for the steps to come
pub record Written (later numbers₀ r out₀ numbers out : List ℕ) (k : ℕ) : Type 0 where
  pub copied : Copied (numbers_for later numbers₀ r) (length r) out₀ out k
  pub rest : drop k (numbers_for later numbers₀ r) ≡ numbers_for later numbers (drop k r)
  pub writing : Writing later numbers r (length out₀)

module _ (later numbers₀ r out₀ numbers out : List ℕ) (k : ℕ) (w : Written later numbers₀ r out₀ numbers out k) where
  -- from then on the event has its later number
  writing_on : (e : ℕ) → get_or later e 0 ≤ most_unfolded → e < 256 → Writing later (set numbers e (get_or later e 0)) r (length out₀)
  writing_on e few low =
      record {
        room_for = w.writing.room_for;
        known = w.writing.known;
        first = record { long = length-set numbers e (get_or later e 0) ∙ w.writing.first.long; few = λ j l. go j l (ℕ_discrete (get_or r j 0) e) };
        again = w.writing.again;
      }
    where
      go : (j : ℕ) → j < length r → Dec (get_or r j 0 ≡ e) → get_or (set numbers e (get_or later e 0)) (get_or r j 0) 0 ≤ most_unfolded
      go j l (yes z) = rw (z, get_or-set_same numbers e (get_or later e 0) 0 (omega (arith, w.writing.first.long))) few
      go j l (no z) = rw (get_or-set_other numbers e (get_or r j 0) (get_or later e 0) 0 z) (w.writing.first.few j l)

  pub write_on : k < length r → Written later numbers₀ r out₀ (set numbers (get_or r k 0) (get_or later (get_or r k 0) 0)) (set out k (get_or numbers (get_or r k 0) 0)) (k + 1)
  unfolding numbers_for
  write_on h =
      let e = get_or r k 0 in
      let long = numbers_long later numbers₀ r in
      let all = numbers_for later numbers₀ r in
      let next : get_or all k 0 ∷ drop (suc k) all ≡ get_or numbers e 0 ∷ numbers_for later (set numbers e (get_or later e 0)) (drop (suc k) r)
      = sym (drop-cons all k 0 (omega (arith, long))) ∙ w.rest ∙ ap (numbers_for later numbers) (drop-cons r k 0 h) in
      let here : get_or all k 0 ≡ get_or numbers e 0 = cc in
      record {
        copied = subst (λ (x : ℕ). Copied all (length r) out₀ (set out k x) (k + 1)) here (copy_on all (length r) out₀ out k w.copied h (omega (arith, long)) w.writing.room_for);
        rest = rw add-one (cc);
        writing = writing_on e (w.writing.again.few k h) (w.writing.known k h);
      }

  pub write_end : length r ≤ k → out ≡ numbers_for later numbers₀ r ++ drop (length r) out₀
  write_end h =
      let all = numbers_for later numbers₀ r in
      copy_end all (length r) out₀ out k w.copied h
      ∙ ap (λ (x : List ℕ). x ++ drop (length r) out₀) (ap (λ (n : ℕ). take n all) (sym (numbers_long later numbers₀ r)) ∙ take-length all)
