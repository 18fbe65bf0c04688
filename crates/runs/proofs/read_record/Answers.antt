-- The steps are read one after the other: storing what is left gives what storing the whole run gives.
use Rattle.std.proofs.Common.{rules}
use Prim.Native.Nat.{ℕ}
use native.Mathlib.Omega.{arith}
use mathlib.Core.Path.{◌≡◌, refl, sym, ◌∙◌}
use lib.ListN.{take, length-take}
use Rattle.lists.proofs.Stored.{stored_all, store_next, store_end}
use Rattle.runs.specs.Runs.{run_of}
use Rattle.runs.proofs.Judging.{fine_is_record, length_run, step_at}
use Rattle.runs.proofs.Answers.{read_refused, read_short, read_fits}
use Rattle.runs.proofs.read_record.Goals as goal

pub returns-in_err-steps : goal.returns-in_err-steps
returns-in_err-steps c =
    let same : c.from_residual.result ≡ c.steps_in.result = search rules in
    let told = c.in_err-steps.was in
    let found = sym c.steps_in.ensures ∙ told in
    let (answer, lent) = read_refused _ _ c.args.run.now _ found in
    record {
      answer = same ∙ told ∙ sym answer;
      lent = sym lent;
    }

pub returns-then-run-steps : goal.returns-then-run-steps
returns-then-run-steps c =
    let found = sym c.steps_in.ensures ∙ c.in_ok-steps.was in
    let (answer, lent) = read_short _ _ c.args.run.now _ found c.if-run-steps.true in
    record {
      answer = c.refused.ensures ∙ sym answer;
      lent = sym lent;
    }

pub loop-k-init : goal.loop-k-init
loop-k-init c =
    let found = sym c.steps_in.ensures ∙ c.in_ok-steps.was in
    (fine_is_record _ _ _ found, refl)

pub loop-k-preserved : goal.loop-k-preserved
loop-k-preserved c =
    let loop = c.loop-k in
    let k : ℕ = loop.k in
    let is = loop.invariant.0 in
    let room = length-take c.in_ok-steps.steps c.args.run.now in
    let value = step_at is k (omega (arith, room)) in
    let step = store_next loop.step-items (run_of c.args.bytes.now) k k 0 (omega (arith, length_run is, room)) in
    (is, rw (c.word.ensures, ← value, ← step) loop.invariant.1)

pub returns : goal.returns
returns c =
    let args = c.args in
    let found = sym c.steps_in.ensures ∙ c.in_ok-steps.was in
    let fits = c.if-run-steps.false in
    let (answer, lent) = read_fits _ _ args.run.now _ found fits in
    let loop = c.loop-k in
    let steps = length_run loop.invariant.0 in
    let room = length-take c.in_ok-steps.steps args.run.now in
    let end = store_end loop.step-items (run_of args.bytes.now) loop.k loop.k (omega (arith, room)) in
    let whole = stored_all (run_of args.bytes.now) (take c.in_ok-steps.steps args.run.now) (omega (arith, room)) in
    let read = sym end ∙ loop.invariant.1 ∙ whole in
    record {
      answer = sym answer;
      lent = rw read (sym (rw steps at lent));
    }
