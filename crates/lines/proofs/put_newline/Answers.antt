-- One byte is stored.
use Rattle.lines.proofs.Writing.{newline_put}
use Rattle.lines.proofs.put_newline.Goals as goal

pub returns : goal.returns
returns c =
    newline_put c.args.out.now c.requires
