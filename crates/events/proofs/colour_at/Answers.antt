-- `events::colour_at` meets its contract.
use native.Mathlib.Omega.{arith}
use mathlib.Core.Path.{sym, ◌∙◌}
use Rattle.words.specs.Words.{words}
use Rattle.model.specs.Numbering.{digits}
use Rattle.colours.proofs.Products.{ending_all}
use Rattle.unfolding.specs.Numbers.{choices_of}
use Rattle.events.proofs.Codes.{told_whole}
use borrow.Author.Rules.{rules}
use Rattle.events.proofs.colour_at.Goals as goal

pub picked-count-requires : goal.picked-count-requires
picked-count-requires c =
    let all = ending_all c.args.pre.now in
    record {
      left_in_bounds = omega arith;
      picking = rw all c.requires.picking;
      room = (search rules, rw all (omega (arith, c.requires.pre_len_bound)));
    }

pub slice_bounds-coloured-end : goal.slice_bounds-coloured-end
slice_bounds-coloured-end c = sym c.picked-count.ensures.counted.0

pub coloured-requires : goal.coloured-requires
coloured-requires c =
    let count = rw (ending_all c.args.pre.now) at c.picked-count.ensures.counted.1 in
    record {
      codes_len = c.picked-count.ensures.counted.0;
      count_bound = omega (arith, count, c.requires.pre_len_bound);
    }

pub returns : goal.returns
returns c =
    let told = rw (ending_all c.args.pre.now) at c.picked-count.ensures.coloured in
    told_whole _ (digits (choices_of c.args.table.now (words c.args.pre.now)) c.args.rest) (c.coloured.ensures ∙ told)
