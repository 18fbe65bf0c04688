-- `segments::ranges` meets its contract.
use mathlib.Core.Path.{refl}
use Rattle.records.specs.Records.{conditions}
use Rattle.segments.proofs.Listed.{choosing, list_fine, known, all_conditions, listed}
use borrow.Author.Rules.{rules}
use Rattle.segments.proofs.ranges.Goals as goal

pub choose-requires : goal.choose-requires
choose-requires c =
    record {
      choosing = choosing c.requires.owned c.list_at-pre.result.now c.list_at-pre.ensures;
      chosen_len = search rules;
    }

pub members-members-requires : goal.members-members-requires
members-members-requires c =
    list_fine c.requires.owned c.args.post c.list_at.result.now c.list_at.ensures

pub lay-requires : goal.lay-requires
lay-requires c =
    record {
      known = known c.requires.owned c.list_at-pre.result.now c.list_at.result.now c.members-members.result c.tally.new.counts c.tally-2.new.counts c.choose.new.chosen _ c.args.post c.list_at-pre.ensures c.list_at.ensures c.members-members.ensures c.tally.ensures c.tally-2.ensures c.choose.ensures refl;
      table_value = all_conditions c.requires.owned;
      starts_len = c.requires.starts_len;
    }

pub returns : goal.returns
returns c =
    listed c.requires.owned c.args.post c.lay.new.starts c.lay.new.sizes (conditions c.args.table.now) c.conditions.result c.conditions.ensures (all_conditions c.requires.owned) c.lay.ensures
