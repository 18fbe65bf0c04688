-- A piece that has room is written.
use Rattle.lines.proofs.Writing.{piece_put}
use Rattle.lines.proofs.put.Goals as goal

pub returns : goal.returns
returns c =
    piece_put c.args.piece c.args.state.now c.args.out.now c.write.result c.value_of.result c.write.new.out c.requires.0 c.requires.1 c.write.ensures.answer c.write.ensures.after c.value_of.ensures
