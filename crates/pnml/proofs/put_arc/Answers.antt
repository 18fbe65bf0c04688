-- The number, the source and the target of an arc, each after what stands before it.
use Rattle.pnml.specs.Text.{text_of}
use Rattle.spelling.proofs.Texts.{both}
use Rattle.pnml.proofs.put_arc.Goals as goal

pub returns : goal.returns
unfolding text_of
returns c =
    both (both (both (both (both c.put_arc_id-id.ensures.named c.put_text-source.ensures) c.put_source-joined.ensures.named) c.put_text-target.ensures) c.put_target-end.ensures.named) c.put_text.ensures
