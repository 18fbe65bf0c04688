-- What opens, in three texts.
use Rattle.pnml.specs.Text.{text_of}
use Rattle.spelling.proofs.Texts.{both}
use Rattle.pnml.proofs.put_opens.Goals as goal

pub returns : goal.returns
unfolding text_of
returns c =
    both (both c.put_text-net.ensures c.put_text-page.ensures) c.put_text.ensures
