-- Putting what is left gives what putting all of it gives.
use native.Mathlib.Nat.{add-zero}
use native.Mathlib.Omega.{arith}
use mathlib.Core.Path.{refl, sym, ◌∙◌}
use Rattle.spelling.proofs.Texts.{put_long, next_byte, no_byte}
use Rattle.spelling.proofs.put_text.Goals as goal

pub loop-k-init : goal.loop-k-init
loop-k-init c = (refl, rw add-zero)

pub loop-k-preserved : goal.loop-k-preserved
loop-k-preserved c =
    let here = next_byte c.args.text.now c.loop-k.out c.args.at c.loop-k.k c.loop-k-test.true in
    (put_long c.put.ensures ∙ c.loop-k.invariant.0, rw c.put.ensures.stored (sym here ∙ c.loop-k.invariant.1))

pub returns : goal.returns
returns c =
    record {
      told = omega arith;
      stored = sym (no_byte c.args.text.now c.loop-k.out c.args.at c.loop-k.k c.loop-k-test.false) ∙ c.loop-k.invariant.1;
    }
