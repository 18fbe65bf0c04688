-- The id between what begins a place and what ends it.
use Rattle.pnml.specs.Text.{text_of}
use Rattle.spelling.proofs.Texts.{both}
use Rattle.pnml.proofs.put_place.Goals as goal

pub returns : goal.returns
unfolding text_of
returns c =
    both (both c.put_text-name.ensures c.put_place_name-end.ensures.named) c.put_place_end.ensures
