-- `unfolding::condition_count` meets its contract.
use Rattle.std.proofs.Common.{rules}
use mathlib.Core.Path.{◌≡◌, ◌∙◌, sym, ap}
use Prim.Native.Nat.{ℕ}
use lib.ListN.{get_or}
use Rattle.std.specs.Prelude.{Ok}
use Rattle.model.specs.Unfolding.{basic}
use Rattle.table.specs.Decoded.{net_of}
use Rattle.layout.proofs.Limits.{unfolds_passed, unfolds_on, unfolds_judged}
use Rattle.unfolding.proofs.Calls.{conditions_count}
use Rattle.unfolding.proofs.condition_count.Goals as goal

pub returns-in_err-lay_out : goal.returns-in_err-lay_out
returns-in_err-lay_out c =
    let same : c.from_residual.result ≡ c.lay_out.result = search rules in
    same ∙ unfolds_passed c.args.table.now (Ok (basic (net_of c.args.table.now)).conditions) (net_of c.args.table.now).events c.lay_out.ensures.answer c.in_err-lay_out.was

pub returns : goal.returns
returns c =
    let s = c.args.table.now in
    let own = Ok (basic (net_of s)).conditions in
    let j = unfolds_judged s own (net_of c.args.table.now).events c.lay_out.ensures.answer c.in_ok-lay_out.was in
    let l = c.lay_out.ensures.laid c.in_ok-lay_out.field-0 c.in_ok-lay_out.was in
    ap Ok (c.number.ensures ∙ ap (λ (x : ℕ). get_or c.lay_out.new.bases x 0) c.conditions-conditions.ensures ∙ conditions_count s c.lay_out.new.markers c.lay_out.new.users c.lay_out.new.bases j.0 l j.1) ∙ sym (unfolds_on s own (net_of c.args.table.now).events c.lay_out.ensures.answer c.in_ok-lay_out.was).0
