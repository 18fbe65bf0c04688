-- `starting::unfolded_start` meets its contract.
use Rattle.std.proofs.Common.{rules}
use mathlib.Core.Path.{◌≡◌, refl, ◌∙◌}
use native.Mathlib.Omega.{arith}
use lib.ListN.{length}
use Rattle.model.specs.Unfolding.{basic}
use Rattle.refusal.specs.Answer.{fitting}
use Rattle.table.specs.Decoded.{net_of}
use Rattle.layout.proofs.Limits.{unfolds_passed, unfolds_on}
use Rattle.starting.specs.Calls.{unfolded_start_of}
use Rattle.starting.proofs.Starts.{laid_judged, count_is, start_refused, start_fine, start_short, start_room}
use Rattle.starting.proofs.unfolded_start.Goals as goal

pub returns-in_err-events : goal.returns-in_err-events
unfolding unfolded_start_of
returns-in_err-events c =
    let same : c.from_residual.result ≡ c.lay_out.result = search rules in
    let e = unfolds_passed c.args.table.now (fitting (basic (net_of c.args.table.now)).conditions (length c.args.out.now)) (net_of c.args.table.now).events c.lay_out.ensures.answer c.in_err-events.was in
    record {
      answer = same ∙ e;
      after = start_refused c.args.table.now c.args.out.now e c.in_err-events.was;
    }

pub returns-then-out-count : goal.returns-then-out-count
returns-then-out-count c =
    let count = c.number-count.ensures ∙ count_is c.args.table.now _ _ _ _ (laid_judged c.args.table.now c.lay_out.ensures.answer c.in_ok-events.was) (c.lay_out.ensures.laid _ c.in_ok-events.was) c.conditions.result c.conditions.ensures in
    let e = c.refused.ensures ∙ start_short c.args.table.now c.args.out.now (λ own. (unfolds_on c.args.table.now own (net_of c.args.table.now).events c.lay_out.ensures.answer c.in_ok-events.was).0) c.number-count.result count c.if-out-count.true in
    record {
      answer = e;
      after = start_refused c.args.table.now c.args.out.now e c.refused.ensures;
    }

pub write_start-requires : goal.write_start-requires
write_start-requires c =
    let j = laid_judged c.args.table.now c.lay_out.ensures.answer c.in_ok-events.was in
    let l = c.lay_out.ensures.laid _ c.in_ok-events.was in
    let count : c.number-count.result ≡ (basic (net_of c.args.table.now)).conditions = c.number-count.ensures ∙ count_is c.args.table.now _ _ _ _ j l c.conditions.result c.conditions.ensures in
    record {
      roomy = record { markers = _; laid = l; fits = omega (arith, count, c.if-out-count.false) };
      table_value = j;
      places_len = l.counted.marked.marks.size;
    }

pub returns : goal.returns
returns c =
    let count = c.number-count.ensures ∙ count_is c.args.table.now _ _ _ _ (laid_judged c.args.table.now c.lay_out.ensures.answer c.in_ok-events.was) (c.lay_out.ensures.laid _ c.in_ok-events.was) c.conditions.result c.conditions.ensures in
    let e = start_room c.args.table.now c.args.out.now (λ own. (unfolds_on c.args.table.now own (net_of c.args.table.now).events c.lay_out.ensures.answer c.in_ok-events.was).0) c.number-count.result count c.if-out-count.false in
    record {
      answer = e;
      after = start_fine c.args.table.now c.args.out.now e refl _ c.write_start.ensures;
    }
