-- `condition_numbers::ordinary_number` meets its contract.
use Rattle.std.proofs.Common.{rules}
use native.Mathlib.Omega.{arith}
use mathlib.Core.Path.{◌≡◌, ◌∙◌, sym, ap}
use Prim.Native.Nat.{◌<◌}
use Rattle.std.specs.Prelude.{Ok}
use Rattle.model.specs.Unfolding.{ordinary}
use Rattle.table.specs.Decoded.{net_of}
use Rattle.layout.proofs.Limits.{unfolds_passed, unfolds_on, unfolds_judged}
use Rattle.table.proofs.Decoded.{conditions_are_all}
use Rattle.condition_numbers.specs.Answers.{numbered}
use Rattle.condition_numbers.proofs.Numbered.{ordinary_there, ordinary_past, ordinary_not}
use Rattle.condition_numbers.proofs.ordinary_number.Goals as goal

pub returns-in_err-lay_out : goal.returns-in_err-lay_out
returns-in_err-lay_out c =
    let same : c.from_residual.result ≡ c.lay_out.result = search rules in
    same ∙ unfolds_passed c.args.table.now (numbered (net_of c.args.table.now) (ordinary c.args.b.0)) (net_of c.args.table.now).events c.lay_out.ensures.answer c.in_err-lay_out.was

pub returns-then-conditions-wanted : goal.returns-then-conditions-wanted
returns-then-conditions-wanted c =
    let j = unfolds_judged c.args.table.now (numbered (net_of c.args.table.now) (ordinary c.args.b.0)) (net_of c.args.table.now).events c.lay_out.ensures.answer c.in_ok-lay_out.was in
    c.refused.ensures ∙ ordinary_past (net_of c.args.table.now) c.args.b.0 (omega (arith, conditions_are_all c.args.table.now j.0 j.1, c.conditions.ensures, c.if-conditions-wanted.true)) ∙ sym (unfolds_on c.args.table.now (numbered (net_of c.args.table.now) (ordinary c.args.b.0)) (net_of c.args.table.now).events c.lay_out.ensures.answer c.in_ok-lay_out.was).0

pub returns-then-is_persistent : goal.returns-then-is_persistent
returns-then-is_persistent c =
    c.refused-then-is_persistent.ensures ∙ ordinary_not (net_of c.args.table.now) c.args.b.0 (sym ((c.lay_out.ensures.laid c.in_ok-lay_out.field-0 c.in_ok-lay_out.was).counted.marked.flags c.args.b.0) ∙ sym c.is_persistent.ensures ∙ c.if-is_persistent.true) ∙ sym (unfolds_on c.args.table.now (numbered (net_of c.args.table.now) (ordinary c.args.b.0)) (net_of c.args.table.now).events c.lay_out.ensures.answer c.in_ok-lay_out.was).0

pub returns : goal.returns
returns c =
    let j = unfolds_judged c.args.table.now (numbered (net_of c.args.table.now) (ordinary c.args.b.0)) (net_of c.args.table.now).events c.lay_out.ensures.answer c.in_ok-lay_out.was in
    let h : c.args.b.0 < (net_of c.args.table.now).conditions = omega (arith, conditions_are_all c.args.table.now j.0 j.1, c.conditions.ensures, c.if-conditions-wanted.false) in
    ap Ok (c.number.ensures ∙ (c.lay_out.ensures.laid c.in_ok-lay_out.field-0 c.in_ok-lay_out.was).sums.at c.args.b.0 (omega arith)) ∙ ordinary_there (net_of c.args.table.now) c.args.b.0 h (sym ((c.lay_out.ensures.laid c.in_ok-lay_out.field-0 c.in_ok-lay_out.was).counted.marked.flags c.args.b.0) ∙ sym c.is_persistent.ensures ∙ c.if-is_persistent.false) ∙ sym (unfolds_on c.args.table.now (numbered (net_of c.args.table.now) (ordinary c.args.b.0)) (net_of c.args.table.now).events c.lay_out.ensures.answer c.in_ok-lay_out.was).0
