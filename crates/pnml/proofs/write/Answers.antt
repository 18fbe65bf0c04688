-- The element is measured, and put where it fits.
use native.Mathlib.Omega.{arith}
use mathlib.Core.Path.{◌≡◌, sym, ◌∙◌}
use lib.ListN.{length}
use Rattle.pnml.specs.Text.{text_of}
use Rattle.refusal.proofs.Chain.{fitting_room, fitting_short}
use Rattle.spelling.proofs.Texts.{put_whole}
use Rattle.pnml.proofs.write.Goals as goal

pub returns-then-out-needed : goal.returns-then-out-needed
returns-then-out-needed c =
    let size : c.put_element-needed.result ≡ length (text_of c.args.conditions c.args.element) = omega (arith, c.put_element-needed.ensures.told) in
    record {
      answer = rw (← size) (c.refused.ensures ∙ sym (fitting_short c.put_element-needed.result (length c.args.out.now) c.if-out-needed.true));
      after = rw c.refused.ensures;
    }

pub returns : goal.returns
returns c =
    let size : c.put_element-needed.result ≡ length (text_of c.args.conditions c.args.element) = omega (arith, c.put_element-needed.ensures.told) in
    record {
      answer = rw (← size) (sym (fitting_room c.put_element-needed.result (length c.args.out.now) c.if-out-needed.false));
      after = put_whole c.put_element.ensures (omega (arith, c.if-out-needed.false));
    }
