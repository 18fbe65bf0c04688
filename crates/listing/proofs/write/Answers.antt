-- The piece is measured, and put where it fits.
use native.Mathlib.Omega.{arith}
use mathlib.Core.Path.{◌≡◌, sym, ◌∙◌}
use lib.ListN.{length}
use Rattle.listing.specs.Calls.{text_of}
use Rattle.spelling.proofs.Texts.{put_whole}
use Rattle.listing.proofs.Answers.{piece_long, piece_short, piece_fits}
use Rattle.listing.proofs.write.Goals as goal

pub returns-then-marking-gt-MOST_CONDITIONS : goal.returns-then-marking-gt-MOST_CONDITIONS
returns-then-marking-gt-MOST_CONDITIONS c =
    record {
      answer = c.refused.ensures ∙ sym (piece_long c.args.piece c.args.marking.now (length c.args.out.now) c.if-marking-gt-MOST_CONDITIONS.true);
      after = rw c.refused.ensures;
    }

pub returns-then-out-needed : goal.returns-then-out-needed
returns-then-out-needed c =
    let size : c.put_piece-needed.result ≡ length (text_of c.args.piece c.args.marking.now) = omega (arith, c.put_piece-needed.ensures.told) in
    record {
      answer = c.refused-then-out-needed.ensures ∙ sym (piece_short c.args.piece c.args.marking.now (length c.args.out.now) c.put_piece-needed.result size c.if-marking-gt-MOST_CONDITIONS.false c.if-out-needed.true);
      after = rw c.refused-then-out-needed.ensures;
    }

pub returns : goal.returns
returns c =
    let size : c.put_piece-needed.result ≡ length (text_of c.args.piece c.args.marking.now) = omega (arith, c.put_piece-needed.ensures.told) in
    record {
      answer = sym (piece_fits c.args.piece c.args.marking.now (length c.args.out.now) c.put_piece-needed.result size c.if-marking-gt-MOST_CONDITIONS.false c.if-out-needed.false);
      after = put_whole c.put_piece.ensures (omega (arith, c.if-out-needed.false));
    }
