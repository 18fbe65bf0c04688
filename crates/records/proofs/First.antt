-- Where the Conditions record stands, and the rule, by whether a Rule record stands first.
use Prim.Native.Nat.{ℕ, ◌≤◌}
use native.Mathlib.Omega.{arith}
use mathlib.Core.Path.{◌≡◌, sym, ap}
use mathlib.Core.List.{List}
use mathlib.Core.Bool.{Bool, true, false, ◌&&◌, cond}
use lib.Dec.{eqb}
use lib.ListN.{get_or}
use borrow.Author.Tests.{eq-eqb, ne_eqb}
use Rattle.words.specs.Words.{word_at}
use Rattle.records.specs.Records.{ruled, old_rule, front}

module _ (s : List ℕ) where
  pub front_ruled : word_at s 2 ≡ 6 → 5 ≡ front s
  unfolding front
  front_ruled h = sym (ap (λ (b : Bool). cond b 5 0) (eq-eqb (word_at s 2) 6 h))

  pub front_plain : (word_at s 2 ≡ 6 → ⊥) → 0 ≡ front s
  unfolding front
  front_plain h = sym (ap (λ (b : Bool). cond b 5 0) (ne_eqb (word_at s 2) 6 h))

  pub front_low : front s ≤ 5
  unfolding front
  front_low = go (ruled s)
    where
      go : (b : Bool) → cond b 5 0 ≤ 5
      go true = omega arith
      go false = omega arith

  pub rule_ruled : word_at s 2 ≡ 6 → eqb (get_or s 4 0) 1 ≡ old_rule s
  unfolding old_rule
  rule_ruled h = sym (ap (λ (b : Bool). b && eqb (get_or s 4 0) 1) (eq-eqb (word_at s 2) 6 h))

  pub rule_plain : (word_at s 2 ≡ 6 → ⊥) → false ≡ old_rule s
  unfolding old_rule
  rule_plain h = sym (ap (λ (b : Bool). b && eqb (get_or s 4 0) 1) (ne_eqb (word_at s 2) 6 h))
