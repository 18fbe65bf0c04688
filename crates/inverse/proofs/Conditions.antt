-- The calls on unfolded conditions undo each other: what stands behind a number has that number, and the other way round.
use Prim.Native.Nat.{ℕ}
use mathlib.Core.Path.{◌≡◌, refl, sym, ap, ◌∙◌, subst}
use mathlib.Core.List.{List}
use mathlib.Core.Option.{some}
use lib.Dec.{ltb, ltb→lt}
use lib.ListN.{length, get_elem?}
use borrow.Author.Tests.{lt-ltb}
use native.Mathlib.Omega.{arith}
use Rattle.lists.specs.Lists.{◌∈◌}
use Rattle.lists.proofs.Bools.{T_of}
use Rattle.lists.proofs.Places.{at_some, at_get_d, at_lt}
use Rattle.model.specs.Runs.{Marker, at_start, by_event}
use Rattle.model.specs.Unfolding.{UnfoldedCondition, ordinary, copy, unfolded_conditions, basic}
use Rattle.model.specs.Numbering.{same_condition, condition_number}
use Rattle.model.proofs.Numbers.{same_condition_eq, condition_at_lem}
use Rattle.model.proofs.Counts.{condition_back}
use Rattle.refusal.specs.declared.Marker as declared
use Rattle.refusal.specs.declared.Marker.TheVariants.{Start, ByEvent}
use Rattle.refusal.specs.declared.TableCondition.{TableCondition}
use Rattle.refusal.specs.declared.TableEvent.{TableEvent}
use Rattle.refusal.specs.Answer.{Judged, need}
use Rattle.std.specs.Prelude.{Result, Ok, Err}
use Rattle.refusal.specs.declared.Refusal.{Refusal}
use Rattle.refusal.proofs.Chain.{need_passes, need_fine, ok_is}
use Rattle.table.specs.Decoded.{net_of}
use Rattle.layout.specs.Unfolds.{unfolding_of}
use Rattle.unfolding.specs.Markers.{shown, meant}
use Rattle.unfolding.proofs.Numbered.{index_found}
use Rattle.conditions.specs.declared.ConditionOrigin.{ConditionOrigin}
use Rattle.conditions.specs.declared.ConditionOrigin.TheVariants as show
use Rattle.condition_numbers.specs.Answers.{numbered, ordinary_number, copy_number}
use Rattle.conditions.specs.Origins.{condition_at, condition_judged, told, told_if, condition_origin_of, origin_value}
use Rattle.inverse.proofs.Prefix.{prefix_passed}

-- ---- markers as calls are given them, and as they are told

pub meant_shown : (m : Marker) → meant (shown m) ≡ m
meant_shown at_start = refl
meant_shown (by_event e) = refl

pub shown_meant : (m : declared.Marker) → shown (meant m) ≡ m
shown_meant Start = refl
shown_meant (ByEvent e) = refl

pub value_told : (p : UnfoldedCondition) → origin_value (Ok (told p)) ≡ some p
value_told (ordinary b) = refl
value_told (copy b m u) = ap (λ (x : Marker). some (copy b x u)) (meant_shown m)

module _ (s : List ℕ) where
  -- ---- from a number to its condition and back

  told_number : (i : ℕ) (a : Judged) (p : UnfoldedCondition) → condition_judged s i ≡ a → origin_value (told_if a (condition_at (net_of s) i)) ≡ some p
      → unfolding_of s (numbered (net_of s) p) ≡ Ok i
  unfolding condition_judged condition_at numbered basic
  told_number i (Err x) p e v = absurd (let z : ◌≡◌ {A = ℕ} 0 1 = cc v in omega arith)
  told_number i (Ok k) p e v =
      let q = condition_at (net_of s) i in
      let same : q ≡ p = let z : some q ≡ some p = sym (value_told q) ∙ v in cc in
      let o = prefix_passed s (need (ltb i (basic (net_of s)).conditions) 10 0 (Ok i)) k e in
      let low = (need_fine (ltb i (basic (net_of s)).conditions) 10 0 k (Ok i) o.1).0 in
      let all = unfolded_conditions (net_of s) in
      let at = at_some all i (ordinary 0) (ltb→lt i (length all) (T_of (ltb i (length all)) low)) in
      let number : condition_number (net_of s) p ≡ i = condition_back (net_of s) i p (at ∙ ap some same) in
      o.0 (numbered (net_of s) p) ∙ ap (λ (x : ℕ). need (ltb x (basic (net_of s)).conditions) 10 0 (Ok x)) number ∙ need_passes 10 0 low

  -- What `condition_origin` tells of a number, has that number.
  pub origin_numbered : (i : ℕ) (p : UnfoldedCondition) → origin_value (condition_origin_of s i) ≡ some p → unfolding_of s (numbered (net_of s) p) ≡ Ok i
  unfolding condition_origin_of
  origin_numbered i p v = told_number i (condition_judged s i) p refl v

  -- So `ordinary_number` takes its answer back,
  pub ordinary_back : (i : ℕ) (b : TableCondition) → condition_origin_of s i ≡ Ok (show.Ordinary b) → ordinary_number s b.0 ≡ Ok i
  ordinary_back i b e = origin_numbered i (ordinary b.0) (ap origin_value e)

  -- and so does `copy_number`.
  pub copy_back : (i : ℕ) (b : TableCondition) (m : declared.Marker) (u : TableEvent) → condition_origin_of s i ≡ Ok (show.Copy b m u)
      → copy_number s b.0 m u.0 ≡ Ok i
  copy_back i b m u e = origin_numbered i (copy b.0 (meant m) u.0) (ap origin_value e)

  -- ---- from a condition to its number and back

  -- What has a number is what `condition_origin` tells of it.
  pub numbered_origin : (p : UnfoldedCondition) (i : ℕ) → unfolding_of s (numbered (net_of s) p) ≡ Ok i → condition_origin_of s i ≡ Ok (told p)
  unfolding condition_origin_of condition_judged condition_at numbered basic condition_number
  numbered_origin p i e =
      let k = condition_number (net_of s) p in
      let o = prefix_passed s (numbered (net_of s) p) i e in
      let f = need_fine (ltb k (basic (net_of s)).conditions) 10 0 i (Ok k) o.1 in
      let same : k ≡ i = ok_is f.1 in
      let all = unfolded_conditions (net_of s) in
      let r = index_found (same_condition p) all (ltb→lt k (length all) (T_of (ltb k (length all)) f.0)) in
      let there : p ∈ all = subst (λ (q : UnfoldedCondition). q ∈ all) (sym (same_condition_eq p r.0 r.2)) r.1 in
      let at : get_elem? all i ≡ some p = subst (λ (x : ℕ). get_elem? all x ≡ some p) same (condition_at_lem (net_of s) p there) in
      let low = lt-ltb i (length all) (at_lt all i at) in
      let fine : condition_judged s i ≡ Ok i = o.0 (need (ltb i (basic (net_of s)).conditions) 10 0 (Ok i)) ∙ need_passes 10 0 low in
      ap (λ (a : Judged). told_if a (condition_at (net_of s) i)) fine ∙ ap (told_if (Ok i)) (at_get_d all i (ordinary 0) at)

  -- So it takes the answer of `ordinary_number` back,
  pub ordinary_forth : (b i : ℕ) → ordinary_number s b ≡ Ok i → condition_origin_of s i ≡ Ok (show.Ordinary (record { 0 = b }))
  ordinary_forth b i e = numbered_origin (ordinary b) i e

  -- and that of `copy_number`.
  pub copy_forth : (b : ℕ) (m : declared.Marker) (u i : ℕ) → copy_number s b m u ≡ Ok i
      → condition_origin_of s i ≡ Ok (show.Copy (record { 0 = b }) m (record { 0 = u }))
  copy_forth b m u i e =
      let told_with : declared.Marker → Result ConditionOrigin Refusal = λ x. Ok (show.Copy (record { 0 = b }) x (record { 0 = u })) in
      numbered_origin (copy b (meant m) u) i e ∙ ap told_with (shown_meant m)
