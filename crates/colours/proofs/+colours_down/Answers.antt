-- `colours::colours_down` meets its contract.
use Rattle.colours.proofs.Products.{front_within, product_none, product_carried}
use Rattle.colours.proofs.+colours_down.Goals as goal

pub overflow_sub-left : goal.overflow_sub-left
overflow_sub-left t c =
    front_within c.args.flags.now.now c.args.markers.now.now c.args.pre.now.now c.args.left c.first_persistent-i.result c.requires.left_in_bounds c.first_persistent-i.ensures

pub returns-then-left-i-lt2 : goal.returns-then-left-i-lt2
returns-then-left-i-lt2 t c =
    product_none c.args.flags.now.now c.args.markers.now.now c.args.pre.now.now c.args.left c.first_persistent-i.result c.requires.left_in_bounds c.first_persistent-i.ensures c.if-left-i-lt2.true c.args.count c.requires.count_bound

pub returns : goal.returns
returns t c =
    product_carried c.args.flags.now.now c.args.markers.now.now c.args.pre.now.now c.args.left c.first_persistent-i.result c.requires.left_in_bounds c.first_persistent-i.ensures c.if-left-i-lt2.false c.word_within-b.result c.word_within-b.ensures c.args.count c.number.result c.capped_product-product.result c.colours_down.result c.number.ensures c.capped_product-product.ensures c.colours_down.ensures
