-- `walking::passes` meets its contract.
use mathlib.Core.Path.{◌∙◌, sym, ap}
use mathlib.Core.Bool.{not}
use Rattle.lists.specs.Lists.{mem}
use Rattle.lists.proofs.Bools.{T_of}
use Rattle.segments.specs.Ranges.{ranged}
use Rattle.walking.proofs.passes.Goals as goal

pub follows_old-requires : goal.follows_old-requires
follows_old-requires c =
    record {
      summed = c.requires.summed;
      k_bound = c.requires.below.each c.args.k (T_of (mem c.args.k (ranged c.args.starts.now c.args.sizes.now c.args.ranges)) (sym c.in_ranges.ensures ∙ c.if-in_ranges.true));
    }

pub returns-then-in_ranges : goal.returns-then-in_ranges
returns-then-in_ranges c =
    rw (c.if-contact.true, sym c.holds-held.ensures ∙ c.if-held.true, sym c.in_ranges.ensures ∙ c.if-in_ranges.true) (ap not c.follows_old.ensures)

pub returns-then-held : goal.returns-then-held
returns-then-held c =
    rw (c.if-contact.true, sym c.holds-held.ensures ∙ c.if-held.true, sym c.in_ranges.ensures ∙ c.if-in_ranges.false)

pub returns-then-contact : goal.returns-then-contact
returns-then-contact c =
    rw (c.if-contact.true, sym c.holds-held.ensures ∙ c.if-held.false)

pub returns : goal.returns
returns c =
    rw c.if-contact.false c.holds-held.ensures
