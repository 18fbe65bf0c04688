-- What is written at a place, and the place after it.
use Rattle.lines.proofs.Writing.{written_is}
use Rattle.lines.proofs.write.Goals as goal

pub returns : goal.returns
returns c =
    record {
      moved = c.write_at-count.ensures.moved;
      answer = written_is c.args.steps.now c.args.lifted.now c.args.end.now _ c.args.place _ _ c.write_at-count.ensures.wrote.told c.next_place-next.ensures;
      wrote = c.write_at-count.ensures.wrote;
    }
