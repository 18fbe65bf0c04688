-- The id between what begins a transition and what ends it.
use Rattle.pnml.specs.Text.{text_of}
use Rattle.spelling.proofs.Texts.{both}
use Rattle.pnml.proofs.put_transition.Goals as goal

pub returns : goal.returns
unfolding text_of
returns c =
    both (both c.put_text-name.ensures c.put_transition_name-end.ensures.named) c.put_text.ensures
