-- `records::old_rule` meets its contract.
use mathlib.Core.Path.{◌∙◌, sym, ap}
use Prim.Native.Nat.{ℕ}
use lib.Dec.{eqb}
use Rattle.records.proofs.First.{rule_ruled, rule_plain}
use Rattle.records.proofs.old_rule.Goals as goal

pub returns-then-word-eq6 : goal.returns-then-word-eq6
returns-then-word-eq6 c =
    ap (λ (x : ℕ). eqb x 1) c.byte.ensures ∙ rule_ruled _ (sym c.word.ensures ∙ c.if-word-eq6.true)

pub returns : goal.returns
returns c =
    rule_plain _ (λ q. c.if-word-eq6.false (c.word.ensures ∙ q))
