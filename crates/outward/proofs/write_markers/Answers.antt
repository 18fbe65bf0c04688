-- `outward::write_markers` meets its contract.
use Prim.Native.Nat.{ℕ}
use native.Mathlib.Omega.{arith}
use mathlib.Core.Path.{refl, sym, ap, ◌∙◌}
use lib.ListN.{length-set}
use borrow.Author.Tests.{lt-leb, le-leb}
use Rattle.lists.proofs.Stored.{stored_whole, store_next, store_end}
use Rattle.refusal.specs.Answer.{fitting}
use Rattle.refusal.proofs.Chain.{need_passes, need_refuses}
use Rattle.outward.specs.Words.{word_of, words_of}
use Rattle.outward.proofs.Markers.{words_long, word_here}
use Rattle.outward.proofs.write_markers.Goals as goal

pub returns-then-out-count : goal.returns-then-out-count
unfolding fitting
returns-then-out-count c =
    record {
      answer = c.refused.ensures ∙ sym (need_refuses 16 _ _ (lt-leb _ _ c.if-out-count.true));
      after = rw c.refused.ensures;
    }

pub loop-i-init : goal.loop-i-init
loop-i-init c = (refl, refl, refl)

pub loop-i-preserved : goal.loop-i-preserved
loop-i-preserved c =
    let loop = c.loop-i in
    let colour = c.args.colour in
    let i : ℕ = loop.i in
    let value = c.word_of.ensures ∙ ap word_of c.marker_at.ensures ∙ sym (word_here colour i (omega (arith, loop.invariant.0, c.loop-i-test.true))) in
    let step = store_next loop.out (words_of colour) i i 0 (omega (arith, words_long colour, loop.invariant.0, c.loop-i-test.true)) in
    (loop.invariant.0, simp length-set loop.invariant.1, rw (value, ← step) loop.invariant.2)

pub returns : goal.returns
unfolding fitting
returns c =
    let args = c.args in
    let loop = c.loop-i in
    let fits = c.if-out-count.false in
    let end = store_end loop.out (words_of args.colour) loop.i loop.i (omega (arith, words_long args.colour, loop.invariant.0, c.loop-i-test.false)) in
    let whole = stored_whole (words_of args.colour) args.out.now (omega (arith, words_long args.colour, loop.invariant.0, fits)) in
    record {
      answer = sym (need_passes 16 _ (le-leb _ _ fits));
      after = sym end ∙ loop.invariant.2 ∙ whole;
    }
