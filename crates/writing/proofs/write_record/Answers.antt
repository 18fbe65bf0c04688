-- The record is stored as its length, its kind and its steps, which is the whole answer.
use native.Mathlib.Omega.{arith}
use mathlib.Core.Path.{sym, ◌∙◌}
use Rattle.lists.proofs.Stored.{stored_whole}
use Rattle.writing.specs.Writing.{record_of}
use Rattle.writing.proofs.Outputs.{stored_record}
use Rattle.writing.proofs.RecordOfRun.{length_record}
use Rattle.writing.proofs.Answers.{write_long, write_short, write_fits}
use Rattle.writing.proofs.write_record.Goals as goal

pub returns-then-steps-gt-MOST_STEPS : goal.returns-then-steps-gt-MOST_STEPS
returns-then-steps-gt-MOST_STEPS c =
    let args = c.args in
    let (answer, lent) = write_long args.kind args.run.now args.bytes.now c.if-steps-gt-MOST_STEPS.true in
    record {
      answer = c.refused.ensures ∙ sym answer;
      lent = sym lent;
    }

pub returns-then-bytes-needed : goal.returns-then-bytes-needed
returns-then-bytes-needed c =
    let args = c.args in
    let (answer, lent) = write_short args.kind args.run.now args.bytes.now c.if-steps-gt-MOST_STEPS.false c.if-bytes-needed.true in
    record {
      answer = c.refused-then-bytes-needed.ensures ∙ sym answer;
      lent = sym lent;
    }

pub returns : goal.returns
returns c =
    let args = c.args in
    let few = c.if-steps-gt-MOST_STEPS.false in
    let fits = c.if-bytes-needed.false in
    let (answer, lent) = write_fits args.kind args.run.now args.bytes.now few fits in
    let stored = stored_record args.kind args.run.now args.bytes.now in
    let size = length_record args.kind args.run.now in
    let whole = stored_whole (record_of args.kind args.run.now) args.bytes.now (omega (arith, fits, size)) in
    let length-put = c.put_word.ensures in
    let kind-put = c.put_word-2.ensures in
    let steps-put = c.put_steps.ensures in
    record {
      answer = sym answer;
      lent = rw (steps-put, kind-put, length-put) (stored ∙ whole ∙ sym lent);
    }
