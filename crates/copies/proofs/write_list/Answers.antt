-- `copies::write_list` meets its contract.
use mathlib.Core.Path.{ap, ◌∙◌}
use Rattle.model.specs.Lent.{bit}
use Rattle.words.specs.Numbers.{numbers_left}
use Rattle.copies.proofs.Ranges.{fits_same, listing_first, listing_here, listing_next, listing_end}
use Rattle.copies.proofs.write_list.Goals as goal

pub loop-b-init : goal.loop-b-init
loop-b-init c =
    let left = ap numbers_left c.into_iter-b-iterator.ensures.into_iter_gives ∙ c.numbers-b-items.ensures.left in
    listing_first _ _ _ _ _ (bit c.args.holds) c.args.out.now _ left

pub write_marked-requires : goal.write_marked-requires
write_marked-requires c =
    let i = c.loop-b.invariant in
    let here = listing_here _ _ _ _ _ (bit c.args.holds) _ _ _ _ c.in-Some.b c.in-Some.ensures.steps i in
    rw c.from.ensures (λ p. fits_same _ _ c.args.out.now c.loop-b.out i.same (c.requires c.in-Some.b here p))

pub loop-b-preserved : goal.loop-b-preserved
loop-b-preserved c =
    let ranged = c.write_marked.ensures in
    listing_next _ _ _ _ _ (bit c.args.holds) _ _ _ _ c.in-Some.b c.in-Some.ensures.steps c.loop-b.invariant _ (rw c.from.ensures at ranged)

pub returns : goal.returns
returns c =
    listing_end _ _ _ _ _ (bit c.args.holds) _ _ _ c.in-None.ensures.steps.0 c.loop-b.invariant
