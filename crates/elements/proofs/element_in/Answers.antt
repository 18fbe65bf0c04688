-- `elements::element_in` meets its contract.
use mathlib.Core.Path.{sym, ◌∙◌}
use lib.ListN.{length}
use Rattle.elements.proofs.Reading.{shown_there}
use Rattle.elements.proofs.Answers.{in_answer, in_after, past_answer, past_after}
use Rattle.elements.proofs.element_in.Goals as goal

pub element_at-element-requires : goal.element_at-element-requires
element_at-element-requires c =
    (c.requires.roomy, shown_there c.args.table.now c.args.markers.now c.args.users.now c.args.bases.now c.args.start.now c.requires c.place_at-place.new.marks c.place_at-place.new.uses c.place_at-place.new.starts c.place_at-place.new.sizes c.place_at-place.result c.place_at-place.ensures.stands)

pub returns-then-goes_on : goal.returns-then-goes_on
returns-then-goes_on c =
    let g = sym c.goes_on.ensures ∙ c.if-goes_on.true in
    record {
      answer = in_answer c.args.table.now c.args.markers.now c.args.users.now c.args.bases.now c.args.start.now c.requires c.place_at-place.new.marks c.place_at-place.new.uses c.place_at-place.new.starts c.place_at-place.new.sizes c.args.i c.place_at-place.result c.place_at-place.ensures g c.element_at-element.result c.element_at-element.ensures c.write.result (length c.args.out.now) c.write.ensures.answer;
      after = in_after c.args.table.now c.args.markers.now c.args.users.now c.args.bases.now c.args.start.now c.requires c.place_at-place.new.marks c.place_at-place.new.uses c.place_at-place.new.starts c.place_at-place.new.sizes c.args.i c.place_at-place.result c.place_at-place.ensures g c.element_at-element.result c.element_at-element.ensures c.write.result c.args.out.now _ c.write.ensures.after;
    }

pub returns : goal.returns
returns c =
    let g = sym c.goes_on.ensures ∙ c.if-goes_on.false in
    record {
      answer = past_answer c.args.table.now c.args.markers.now c.args.users.now c.args.bases.now c.args.start.now c.requires c.place_at-place.new.marks c.place_at-place.new.uses c.place_at-place.new.starts c.place_at-place.new.sizes c.args.i c.place_at-place.result c.place_at-place.ensures g c.refused.result c.refused.ensures (length c.args.out.now);
      after = past_after c.args.table.now c.args.markers.now c.args.users.now c.args.bases.now c.args.start.now c.requires c.place_at-place.new.marks c.place_at-place.new.uses c.place_at-place.new.starts c.place_at-place.new.sizes c.args.i c.place_at-place.result c.place_at-place.ensures g c.refused.result c.refused.ensures c.args.out.now;
    }
