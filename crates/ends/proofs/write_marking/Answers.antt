-- `ends::write_marking` meets its contract.
use Rattle.table.proofs.Decoded.{events_are_all}
use Rattle.starting.proofs.Starts.{count_is}
use Rattle.ends.proofs.Written.{prepared, gathered, short, roomy}
use mathlib.Core.Path.{◌∙◌}
use native.Mathlib.Omega.{arith}
use Rattle.ends.proofs.write_marking.Goals as goal

pub returns-then-out-count : goal.returns-then-out-count
returns-then-out-count c =
    let s = c.args.table.now in
    let count = c.number-count.ensures ∙ count_is s _ _ _ _ c.requires.shown.judged c.requires.shown.laid c.conditions.result c.conditions.ensures in
    let whole = short _ _ _ _ _ c.refused.ensures count c.if-out-count.true in
    record {
      answer = whole.0;
      after = whole.1;
    }

pub write_copies-requires : goal.write_copies-requires
write_copies-requires c =
    let s = c.args.table.now in
    let count = c.number-count.ensures ∙ count_is s _ _ _ _ c.requires.shown.judged c.requires.shown.laid c.conditions.result c.conditions.ensures in
    record {
      prepared = prepared s _ _ _ _ c.requires.shown _ c.start_held-begun.ensures _ (omega (arith, count, c.if-out-count.false));
      events_value = events_are_all s _ c.requires.shown.judged;
      places_len = c.requires.places_len;
    }

pub returns : goal.returns
returns c =
    let s = c.args.table.now in
    let count = c.number-count.ensures ∙ count_is s _ _ _ _ c.requires.shown.judged c.requires.shown.laid c.conditions.result c.conditions.ensures in
    let whole = roomy _ _ _ (c.gather-held.ensures ∙ gathered _ c.requires.shown.lent) _ _ _ _ count c.if-out-count.false c.write_copies.ensures in
    record {
      answer = whole.0;
      after = whole.1;
    }
