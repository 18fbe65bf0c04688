-- Each piece is put by its own function.
use native.Mathlib.Omega.{arith}
use mathlib.Core.Path.{sym, ap}
use Rattle.listing.specs.declared.Piece.{Piece}
use Rattle.listing.specs.Calls.{text_of}
use Rattle.spelling.proofs.Texts.{same_text}
use Rattle.listing.proofs.Answers.{more_is}
use Rattle.listing.proofs.put_piece.Goals as goal

pub put_more-requires : goal.put_more-requires
put_more-requires c =
    (omega (arith, c.next_piece.ensures), omega (arith, c.next_piece.ensures))

pub returns-in-Start : goal.returns-in-Start
returns-in-Start c =
    same_text (ap (λ (p : Piece). text_of p c.args.state.now) (sym c.in-Start.is)) c.put_start.ensures

pub returns-in-Step : goal.returns-in-Step
returns-in-Step c =
    same_text (ap (λ (p : Piece). text_of p c.args.state.now) (sym c.in-Step.is)) c.put_step.ensures

pub returns-in-End : goal.returns-in-End
returns-in-End c =
    same_text (ap (λ (p : Piece). text_of p c.args.state.now) (sym c.in-End.is)) c.put_end.ensures

pub returns-in-More : goal.returns-in-More
returns-in-More c =
    same_text (ap (λ (p : Piece). text_of p c.args.state.now) (sym c.in-More.is)) (same_text (more_is c.args.state.now _ _ c.next_piece.ensures) c.put_more.ensures)

pub returns-in-Refused : goal.returns-in-Refused
returns-in-Refused c =
    same_text (ap (λ (p : Piece). text_of p c.args.state.now) (sym c.in-Refused.is)) c.put_refused.ensures
