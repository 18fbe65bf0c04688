-- `arcs::open_transition` meets its contract.
use mathlib.Core.Path.{refl, sym, ◌∙◌}
use mathlib.Core.Bool.{true, false}
use Prim.Native.Nat.{◌+◌}
use native.Mathlib.Omega.{arith}
use Rattle.lists.specs.Lists.{sum}
use Rattle.model.specs.Numbering.{size}
use Rattle.table.specs.Decoded.{net_of}
use Rattle.segments.proofs.Listed.{choosing, list_fine, all_conditions}
use Rattle.arcs.proofs.Counts.{arcs_told}
use Rattle.arcs.proofs.Opened.{rest_below, ranges_few, both_known}
use Rattle.arcs.proofs.open_transition.Goals as goal

pub choose-requires : goal.choose-requires
choose-requires c =
    record {
      choosing = choosing c.requires.owned c.list_at-pre.result.now c.list_at-pre.ensures;
      chosen_len = refl;
    }

pub members-before-requires : goal.members-before-requires
members-before-requires c =
    list_fine c.requires.owned false c.list_at-pre.result.now c.list_at-pre.ensures

pub members-after-requires : goal.members-after-requires
members-after-requires c =
    list_fine c.requires.owned true c.list_at.result.now c.list_at.ensures

pub lay_arcs-requires : goal.lay_arcs-requires
lay_arcs-requires c =
    record {
      sided = both_known c.requires.owned c.list_at-pre.result.now c.list_at.result.now c.members-before.result c.members-after.result c.share.new.marks c.share.new.uses c.choose.new.chosen _ c.list_at-pre.ensures c.list_at.ensures c.members-before.ensures c.members-after.ensures c.share.ensures c.choose.ensures refl;
      rest_bound = (rest_below c.requires.owned, c.requires.starts_len.0, c.requires.starts_len.1);
    }

pub total-requires : goal.total-requires
total-requires c =
    let few = ranges_few c.requires.owned c.conditions.result c.conditions.ensures in
    record {
      ranges_bound = few;
      ranges_in_bounds = omega (arith, few, c.lay_arcs.ensures.in_sizes);
    }

pub shape_of-marks : goal.shape_of-marks
shape_of-marks c =
    c.share.ensures.marks_are.size ∙ sym c.requires.lent.in_marks

pub returns : goal.returns
returns c =
    record {
      shared = c.share.ensures;
      laid = c.lay_arcs.ensures;
      told = arcs_told (net_of c.args.table.now) (sum (size (net_of c.args.table.now)) c.args.own.event + c.args.own.rest) c.lay_arcs.new.starts c.lay_arcs.new.sizes c.lay_arcs.ensures c.conditions.result c.total.result (c.conditions.ensures ∙ all_conditions c.requires.owned) c.total.ensures;
    }
