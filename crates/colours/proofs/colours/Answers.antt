-- `colours::colours` meets its contract.
use mathlib.Core.Path.{sym, ◌∙◌}
use Rattle.words.specs.Words.{words}
use Rattle.colours.proofs.Products.{product_plain, product_read}
use Rattle.colours.proofs.colours.Goals as goal

pub returns-then-some_persistent : goal.returns-then-some_persistent
returns-then-some_persistent c =
    product_read c.args.table.now c.args.markers.now (words c.args.pre.now) c.flags-flags.result.now c.flags-flags.ensures c.colours_left.ensures

pub returns-then-flags-pre : goal.returns-then-flags-pre
returns-then-flags-pre c =
    product_read c.args.table.now c.args.markers.now (words c.args.pre.now) c.flags-flags.result.now c.flags-flags.ensures (product_plain c.flags-flags.result.now c.args.markers.now (words c.args.pre.now) (sym c.some_persistent.ensures ∙ c.if-some_persistent.false))

pub returns : goal.returns
returns c =
    product_read c.args.table.now c.args.markers.now (words c.args.pre.now) c.flags-flags.result.now c.flags-flags.ensures c.colours_left-2.ensures
