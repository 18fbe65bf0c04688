-- The Rule record: a table without one is read as before there were any, and the rule of an accepted table is what its byte says.
use Prim.Native.Nat.{ℕ}
use mathlib.Core.Path.{◌≡◌, ap, ◌∙◌}
use mathlib.Core.List.{List}
use mathlib.Core.Bool.{true, false}
use lib.Dec.{eqb}
use lib.ListN.{get_or}
use Rattle.model.specs.Net.{Net}
use Rattle.std.specs.Prelude.{Ok}
use Rattle.refusal.specs.Answer.{and_then}
use Rattle.records.specs.Records.{ruled, old_rule, front}
use Rattle.rules.specs.Rules.{rule_of, conditions_of}
use Rattle.table.specs.Walk.{events_from, judge_of}
use Rattle.table.specs.Decoded.{net_of}
use Rattle.table.proofs.Decoded.{net_judged}

-- without a Rule record the Conditions record stands first, and the walk begins with it
module _ (s : List ℕ) (plain : ruled s ≡ false) where
  pub plain_front : front s ≡ 0
  unfolding front
  plain_front = simp plain

  pub plain_judge : judge_of s ≡ and_then (conditions_of s 0) (events_from 256 s)
  unfolding judge_of rule_of
  plain_judge = simp plain

-- the rule of an accepted table, at any condition: what the Rule record's byte says, and 0 where there is none
module _ (s : List ℕ) (n : ℕ) (j : judge_of s ≡ Ok n) (b : ℕ) where
  pub rule_read : (net_of s).old b ≡ old_rule s
  rule_read = ap (λ (m : Net). m.old b) (net_judged s (Ok n) j)

  pub rule_byte : ruled s ≡ true → (net_of s).old b ≡ eqb (get_or s 4 0) 1
  unfolding old_rule
  rule_byte h = rule_read ∙ simp h

  pub rule_plain : ruled s ≡ false → (net_of s).old b ≡ false
  unfolding old_rule
  rule_plain h = rule_read ∙ simp h
