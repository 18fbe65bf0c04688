-- `elements::write` meets its contract.
use lib.ListN.{length}
use Rattle.elements.proofs.Reading.{shown_there, text_is, text_short}
use Rattle.elements.proofs.Answers.{same_text}
use Rattle.elements.proofs.write.Goals as goal

pub element_at-element-requires : goal.element_at-element-requires
element_at-element-requires c =
    (c.requires.ready.0.roomy, shown_there c.args.table.now c.args.markers.now c.args.users.now c.args.bases.now c.args.start.now c.requires.ready.0 c.args.marks.now c.args.uses.now c.args.starts.now c.args.sizes.now c.args.place c.requires.stands.0)

pub put-count-requires : goal.put-count-requires
put-count-requires c =
    text_short c.args.table.now c.args.markers.now c.args.users.now c.args.bases.now c.args.start.now c.requires.ready.0 c.args.marks.now c.args.uses.now c.args.starts.now c.args.sizes.now c.args.place c.requires.stands.0 c.element_at-element.result c.element_at-element.ensures (length c.args.out.now) c.requires.stands.2

pub returns : goal.returns
returns c =
    record {
      wrote = same_text (text_is c.args.table.now c.args.markers.now c.args.users.now c.args.bases.now c.args.start.now c.requires.ready.0 c.args.marks.now c.args.uses.now c.args.starts.now c.args.sizes.now c.args.place c.requires.stands.0 c.element_at-element.result c.element_at-element.ensures) c.put-count.ensures;
      moved = c.next_place-next.ensures;
    }
