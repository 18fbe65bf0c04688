-- `walking::follows_old` meets its contract.
use Rattle.walking.proofs.Rules.{owner_sums, old_rule_lem, paper_rule}
use Rattle.walking.proofs.follows_old.Goals as goal

pub owner-b-requires : goal.owner-b-requires
owner-b-requires c =
    let whole = owner_sums c.args.table.now c.args.bases.now c.requires.summed c.conditions-count.result c.conditions-count.ensures in
    record {
      sums = whole.0;
      count_bound = whole.1;
    }

pub returns-then-old_rule : goal.returns-then-old_rule
returns-then-old_rule c =
    old_rule_lem c.args.table.now c.args.bases.now c.requires.summed c.args.k c.requires.k_bound c.old_rule.result c.old_rule.ensures c.if-old_rule.true c.conditions-count.result c.conditions-count.ensures c.owner-b.result c.owner-b.ensures c.is_persistent.result c.is_persistent.ensures

pub returns : goal.returns
returns c =
    paper_rule c.args.table.now c.args.bases.now c.requires.summed c.args.k c.requires.k_bound c.old_rule.result c.old_rule.ensures c.if-old_rule.false
