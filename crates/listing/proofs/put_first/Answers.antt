-- The first number is put, or the dash.
use Rattle.spelling.proofs.Texts.{same_text}
use Rattle.listing.proofs.Lines.{first_number, first_dash}
use Rattle.listing.proofs.put_first.Goals as goal

pub returns-then-first-state : goal.returns-then-first-state
returns-then-first-state c =
    same_text (first_number c.args.state.now c.args.first c.requires.0 c.if-first-state.true) c.put_number.ensures

pub returns : goal.returns
returns c =
    same_text (first_dash c.args.state.now c.args.first c.requires.0 c.if-first-state.false) c.put.ensures
