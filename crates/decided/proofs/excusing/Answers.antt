-- `decided::excusing` meets its contract.
use mathlib.Core.Path.{sym, ap, ◌∙◌}
use mathlib.Core.Bool.{Bool, cond}
use mathlib.Core.List.{[]}
use Rattle.words.specs.Words.{words}
use Rattle.decided.proofs.excusing.Goals as goal

pub returns-then-old_rule : goal.returns-then-old_rule
unfolding words
returns-then-old_rule c =
    let rule = sym c.old_rule.ensures ∙ c.if-old_rule.true in
    record {
      read = sym (ap (λ (t : Bool). cond t [] (words c.args.pre.now)) rule);
      listed = record { ascends = tt; inside = λ b t. absurd t };
    }

pub returns : goal.returns
returns c =
    let rule = sym c.old_rule.ensures ∙ c.if-old_rule.false in
    record {
      read = sym (ap (λ (t : Bool). cond t [] (words c.args.pre.now)) rule);
      listed = c.requires;
    }
