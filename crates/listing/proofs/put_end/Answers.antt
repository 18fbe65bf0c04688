-- The words, then the first piece.
use Rattle.spelling.proofs.Texts.{both}
use Rattle.listing.proofs.put_end.Goals as goal

pub returns : goal.returns
returns c =
    both c.put_text-next.ensures c.put_first.ensures
