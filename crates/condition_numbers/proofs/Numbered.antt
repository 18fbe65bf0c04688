-- An unfolded condition's number: where there is such a condition, and where there is none.
use Prim.Native.Nat.{ℕ, ◌+◌, ◌*◌, ◌≤◌, ◌<◌}
use native.Mathlib.Omega.{arith}
use mathlib.Core.Path.{◌≡◌, sym, ap, ◌∙◌, subst}
use mathlib.Core.List.{List}
use mathlib.Core.Logic.{inl, inr}
use mathlib.Core.Bool.{true, false}
use lib.Dec.{eqb, eqb→eq, ltb, ltb→lt}
use lib.ListN.{length, get_or, drop, length-take, get_or-eq_default}
use borrow.Author.Tests.{lt-ltb, eqb-true}
use native.Mathlib.Decide.{dec_le}
use Rattle.records.specs.Records.{front, conditions, flags}
use Rattle.colours.specs.Colours.{flagged}
use Rattle.lists.specs.Lists.{index, sum, ◌∈◌}
use Rattle.lists.proofs.Bools.{is_false, not-true, T_of}
use Rattle.lists.proofs.Places.{at_lt, number_index}
use Rattle.model.specs.Net.{Net}
use Rattle.model.specs.Runs.{Marker}
use Rattle.model.specs.Unfolding.{same_marker, UnfoldedCondition, ordinary, copy, markers, users, unfolded_conditions, basic}
use Rattle.model.specs.Numbering.{same_condition, condition_number, counted_condition, width}
use Rattle.model.proofs.Unfolded.{copy_in, ordinary_in_lem, kind_of, pair_of}
use Rattle.model.proofs.Numbers.{same_condition_eq, condition_at_lem}
use Rattle.model.proofs.Counts.{marker_at_lem, condition_counted}
use Rattle.model.proofs.Sets.{conditions_paper}
use Rattle.std.specs.Prelude.{Ok}
use Rattle.refusal.specs.Answer.{refused_at}
use Rattle.refusal.proofs.Chain.{need_passes, need_refuses}
use Rattle.unfolding.proofs.Numbered.{index_found, marker_in}
use Rattle.condition_numbers.specs.Answers.{numbered}

module _ (n : Net) where
  -- there is such a condition
  there : (p : UnfoldedCondition) → p ∈ unfolded_conditions n → numbered n p ≡ Ok (counted_condition n p)
  unfolding numbered basic
  there p i =
      let low = lt-ltb (condition_number n p) (length (unfolded_conditions n)) (at_lt (unfolded_conditions n) (condition_number n p) (condition_at_lem n p i)) in
      need_passes 10 0 low ∙ ap Ok (condition_counted n p i)

  -- there is none
  absent : (p : UnfoldedCondition) → (p ∈ unfolded_conditions n → ⊥) → refused_at 10 0 ≡ numbered n p
  unfolding numbered basic condition_number
  absent p f =
      sym (need_refuses 10 0 (Ok (condition_number n p)) (is_false (ltb (condition_number n p) (length (unfolded_conditions n)))
      (λ t. let r = index_found (same_condition p) (unfolded_conditions n) (ltb→lt (condition_number n p) (length (unfolded_conditions n)) t) in
      f (subst (λ (q : UnfoldedCondition). q ∈ unfolded_conditions n) (sym (same_condition_eq p r.0 r.2)) r.1))))

  module _ (b : ℕ) where
    pub ordinary_there : b < n.conditions → n.persistent b ≡ false → Ok (sum (width n) b) ≡ numbered n (ordinary b)
    unfolding counted_condition
    ordinary_there h p = sym (there (ordinary b) (ordinary_in_lem n b h p))

    pub ordinary_past : n.conditions ≤ b → refused_at 10 0 ≡ numbered n (ordinary b)
    ordinary_past h = absent (ordinary b) (λ i. elim ((conditions_paper n (ordinary b)).0 i) [
      | inl x ↦ (let z : b ≡ x.0 = cc x.2 in omega (arith, x.1.0))
      | inr x ↦ (let z : ◌≡◌ {A = ℕ} 0 1 = cc x.6 in omega arith)
    ])

    pub ordinary_not : n.persistent b ≡ true → refused_at 10 0 ≡ numbered n (ordinary b)
    ordinary_not p = absent (ordinary b) (λ i. not-true (n.persistent b) (kind_of n (ordinary b) i) (T_of (n.persistent b) p))

    module _ (m : Marker) (u : ℕ) where
      pub copy_there : b < n.conditions → n.persistent b ≡ true → index (same_marker m) (markers n b) < length (markers n b) → index (eqb u) (users n b) < length (users n b)
          → Ok (sum (width n) b + (index (same_marker m) (markers n b) * length (users n b) + index (eqb u) (users n b))) ≡ numbered n (copy b m u)
      unfolding counted_condition
      copy_there h p i k =
          let r = index_found (eqb u) (users n b) k in
          sym (there (copy b m u) (copy_in n b m u h p (marker_in m (markers n b) i) (subst (λ (x : ℕ). x ∈ users n b) (sym (eqb→eq u r.0 r.2)) r.1)))

      pub copy_ordinary : n.persistent b ≡ false → refused_at 10 0 ≡ numbered n (copy b m u)
      copy_ordinary p = absent (copy b m u) (λ i. not-true (n.persistent b) p (T_of (n.persistent b) (kind_of n (copy b m u) i)))

      pub copy_no_marker : length (markers n b) ≤ index (same_marker m) (markers n b) → refused_at 10 0 ≡ numbered n (copy b m u)
      copy_no_marker h =
          absent (copy b m u) (λ i. let l = at_lt (markers n b) (index (same_marker m) (markers n b)) (marker_at_lem m (markers n b) (pair_of n (copy b m u) i).0) in omega arith)

      pub copy_no_user : length (users n b) ≤ index (eqb u) (users n b) → refused_at 10 0 ≡ numbered n (copy b m u)
      copy_no_user h =
          absent (copy b m u) (λ i. let l = at_lt (users n b) (index (eqb u) (users n b)) (number_index u (users n b) (pair_of n (copy b m u) i).1) in omega arith)

-- a condition with a flag is one of the table's
pub flagged_below : (s : List ℕ) (b : ℕ) → flagged s b ≡ true → b < conditions s
flagged_below s b t = go (dec_le (conditions s) b)
  where
    go : Dec (conditions s ≤ b) → b < conditions s
    go (no g) = omega arith
    go (yes g) =
        let short : length (flags s) ≤ b = rw (length-take (conditions s) (drop (front s + 4) s)) (omega arith) in
        let z : get_or (flags s) b 0 ≡ 0 = get_or-eq_default (flags s) 0 short in
        let one : get_or (flags s) b 0 ≡ 1 = eqb-true (get_or (flags s) b 0) 1 t in
        absurd (omega arith)
