-- One byte is put where the output has room for it.
use Rattle.spelling.proofs.Texts.{byte_out}
use Rattle.spelling.proofs.put.Goals as goal

pub returns-then-out-at : goal.returns-then-out-at
returns-then-out-at c = byte_out _ _ _ c.if-out-at.true
