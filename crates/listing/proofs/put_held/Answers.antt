-- A condition that holds is put with its comma, and nothing otherwise.
use mathlib.Core.Path.{sym}
use Rattle.model.specs.Lent.{marking}
use Rattle.spelling.proofs.Texts.{both, same_text, nothing_put}
use Rattle.listing.proofs.Held.{byte_holds, byte_fails, one_holds, one_fails}
use Rattle.listing.proofs.put_held.Goals as goal

pub returns-then-state-b-eq1 : goal.returns-then-state-b-eq1
returns-then-state-b-eq1 c =
    same_text (sym (one_holds (marking c.args.state.now) c.args.b (byte_holds c.args.state.now c.args.b c.if-state-b-eq1.true))) (both c.put-next.ensures c.put_number.ensures)

pub returns : goal.returns
returns c =
    same_text (sym (one_fails (marking c.args.state.now) c.args.b (byte_fails c.args.state.now c.args.b c.if-state-b-eq1.false))) (nothing_put _ _)
