-- Which unfolded conditions follow the old rule, by the condition of the table to whose block a number falls.
use Prim.Native.Nat.{ℕ, ◌+◌, ◌-◌, ◌*◌, ◌≤◌, ◌<◌}
use native.Mathlib.Decide.{dec_le}
use native.Mathlib.Nat.{lt_of_not-le}
use native.Mathlib.Omega.{arith}
use mathlib.Core.Path.{◌≡◌, refl, sym, ◌∙◌, ap, subst}
use mathlib.Core.Bool.{Bool, true, false, not}
use mathlib.Core.Option.{some}
use mathlib.Core.List.{List}
use lib.ListN.{length, get_elem?}
use Rattle.lists.specs.Lists.{sum}
use Rattle.lists.proofs.Places.{at_some}
use Rattle.model.specs.Net.{Net}
use Rattle.model.specs.Unfolding.{UnfoldedCondition, ordinary, copy, markers, users, unfolded_conditions, follows, basic}
use Rattle.model.specs.Numbering.{width, condition_count}
use Rattle.model.proofs.Unfolded.{follows_at}
use Rattle.model.proofs.Counts.{count_conditions, ordinary_from, copy_from}
use Rattle.records.specs.Records.{old_rule, conditions}
use Rattle.table.specs.Decoded.{net_of}
use Rattle.table.proofs.Decoded.{conditions_are_all}
use Rattle.table.proofs.Ruled.{rule_read}
use Rattle.table.proofs.Sound.{tabled}
use Rattle.colours.specs.Colours.{flagged}
use Rattle.layout.specs.Laid.{Sums}
use Rattle.layout.proofs.Limits.{flags_are}
use Rattle.conditions.specs.Owners.{Owns}
use Rattle.walking.specs.Steps.{Summed}

-- ---- in a net

module _ (n : Net) where
  -- by the paper's rule no unfolded condition follows the old one
  none_follows : ((b : ℕ) → n.old b ≡ false) → (k : ℕ) → k < (basic n).conditions → (basic n).old k ≡ false
  unfolding basic follows
  none_follows f k h = go _ (at_some (unfolded_conditions n) k (ordinary 0) h)
    where
      go : (p : UnfoldedCondition) → get_elem? (unfolded_conditions n) k ≡ some p → (basic n).old k ≡ false
      go (ordinary b) e = follows_at n k (ordinary b) e ∙ f b
      go (copy b m u) e = follows_at n k (copy b m u) e

  -- a number in the block of a condition follows that condition's rule where it is ordinary
  module _ (k b : ℕ) (h : b < n.conditions) (low : sum (width n) b ≤ k) (high : k < sum (width n) b + width n b) where
    ordinary_follows : n.persistent b ≡ false → (basic n).old k ≡ n.old b
    unfolding width follows
    ordinary_follows p =
        let one : width n b ≡ 1 = rw p in
        let z : sum (width n) b ≡ k = omega arith in
        follows_at n k (ordinary b) (ap (λ (i : ℕ). get_elem? (unfolded_conditions n) i) (sym z) ∙ ordinary_from n b h p)

    copy_follows : n.persistent b ≡ true → (basic n).old k ≡ false
    unfolding width follows
    copy_follows p =
        let r = k - sum (width n) b in
        let whole : width n b ≡ length (markers n b) * length (users n b) = rw p in
        let z : sum (width n) b + r ≡ k = omega arith in
        follows_at n k _ (ap (λ (i : ℕ). get_elem? (unfolded_conditions n) i) (sym z) ∙ copy_from n b r h p (omega (arith, whole)))

    block_follows : n.old b ≡ true → (basic n).old k ≡ not (n.persistent b)
    block_follows o = go (n.persistent b) refl
      where
        go : (t : Bool) → n.persistent b ≡ t → (basic n).old k ≡ not t
        go true p = copy_follows p
        go false p = ordinary_follows p ∙ o

-- ---- in a table

module _ (s bases : List ℕ) (w : Summed s bases) where
  rule_is_lem : (b : ℕ) → (net_of s).old b ≡ old_rule s
  rule_is_lem b = rule_read s (net_of s).events w.judged b

  module _ (c : ℕ) (q : c ≡ conditions s) where
    all_are : c ≡ (net_of s).conditions
    all_are = q ∙ conditions_are_all s (net_of s).events w.judged

    pub owner_sums : Sums (width (net_of s)) c bases × (c ≤ 256)
    owner_sums = (
      subst (λ (x : ℕ). Sums (width (net_of s)) x bases) (sym all_are) w.sums,
      omega (arith, all_are, (tabled s (net_of s).events w.judged).few_conditions),
    )

  module _ (k : ℕ) (h : k < (basic (net_of s)).conditions) (r : Bool) (e : r ≡ old_rule s) where
    pub paper_rule : r ≡ false → false ≡ (basic (net_of s)).old k
    paper_rule f = sym (none_follows (net_of s) (λ b. rule_is_lem b ∙ sym e ∙ f) k h)

    module _ (t : r ≡ true) (c : ℕ) (q : c ≡ conditions s) (b : ℕ) (o : Owns (width (net_of s)) c k b) where
      inside : b < c
      unfolding basic condition_count
      inside = go (dec_le c b)
        where
          go : Dec (c ≤ b) → b < c
          go (yes l) =
              let z : b ≡ (net_of s).conditions = omega (arith, o.most, all_are c q) in
              absurd (omega (arith, count_conditions (net_of s), subst (λ (x : ℕ). sum (width (net_of s)) x ≤ k) z o.from))
          go (no l) = lt_of_not-le l

      pub old_rule_lem : (f : Bool) → f ≡ flagged s b → not f ≡ (basic (net_of s)).old k
      old_rule_lem f g =
          ap not (g ∙ flags_are s (net_of s).events w.judged b)
          ∙ sym (block_follows (net_of s) k b (omega (arith, inside, all_are c q)) o.from (o.below inside) (rule_is_lem b ∙ sym e ∙ t))
