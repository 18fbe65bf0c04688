-- `asking::write_list` meets its contract: storing what is left gives what storing the whole list gives.
use Prim.Native.Nat.{ℕ, ◌/◌}
use native.Mathlib.Omega.{arith}
use mathlib.Core.Path.{sym, ◌∙◌}
use mathlib.Core.List.{List}
use lib.ListN.{length, take, length-take}
use borrow.Author.Tests.{lt-leb, le-leb}
use Rattle.lists.proofs.Stored.{stored_all, store_next, store_end}
use Rattle.words.specs.Words.{words}
use Rattle.words.proofs.Laws.{length_words, words_at}
use Rattle.refusal.specs.Answer.{fitting}
use Rattle.refusal.proofs.Chain.{need_passes, need_refuses}
use Rattle.asking.proofs.write_list.Goals as goal

pub returns-then-out-count : goal.returns-then-out-count
unfolding fitting
returns-then-out-count c =
    let few = length_words c.args.part.now in
    record {
      answer = rw few (c.refused.ensures ∙ sym (need_refuses 16 _ _ (lt-leb _ _ c.if-out-count.true)));
      after = rw c.refused.ensures;
    }

pub loop-k-preserved : goal.loop-k-preserved
loop-k-preserved c =
    let loop = c.loop-k in
    let part : List ℕ = c.args.part.now in
    let room = length-take (length part / 2) c.args.out.now in
    let value = words_at part loop.k (omega (arith, length_words part, room)) in
    let step = store_next loop.number-items (words part) loop.k loop.k 0 (omega (arith, length_words part, room)) in
    rw (c.word.ensures, ← value, ← step) loop.invariant

pub returns : goal.returns
unfolding fitting
returns c =
    let part : List ℕ = c.args.part.now in
    let loop = c.loop-k in
    let fits = c.if-out-count.false in
    let count = length_words part in
    let room = length-take (length part / 2) c.args.out.now in
    let end = store_end loop.number-items (words part) loop.k loop.k (omega (arith, count, room)) in
    let whole = stored_all (words part) (take (length part / 2) c.args.out.now) (omega (arith, count, room)) in
    let stored = sym end ∙ loop.invariant ∙ whole in
    record {
      answer = rw count (sym (need_passes 16 _ (le-leb _ _ fits)));
      after = rw (stored, count);
    }
