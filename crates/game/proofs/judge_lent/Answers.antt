-- `game::judge_lent` meets its contract.
use Rattle.std.proofs.Common.{rules}
use native.Mathlib.Omega.{arith}
use mathlib.Core.Path.{◌≡◌, ◌∙◌, sym, ap}
use Prim.Native.Nat.{◌<◌}
use lib.ListN.{length}
use Rattle.std.specs.Prelude.{Ok}
use Rattle.refusal.specs.Answer.{refused_at}
use Rattle.refusal.proofs.Chain.{passed_up}
use Rattle.records.specs.Records.{conditions}
use Rattle.game.specs.Lent.{first_above}
use Rattle.game.specs.Calls.{on_marking}
use Rattle.game.proofs.Marked.{wrong_length, byte_above, all_right, on_judged}
use Rattle.game.proofs.judge_lent.Goals as goal

pub returns-in_err-events : goal.returns-in_err-events
unfolding on_marking
returns-in_err-events c =
    let same : c.from_residual.result ≡ c.judge.result = search rules in
    same ∙ passed_up _ c.judge.ensures c.in_err-events.was

pub returns-then-marking-count : goal.returns-then-marking-count
returns-then-marking-count c =
    let s = c.args.table.now in
    let m = c.args.marking.now in
    c.refused.ensures ∙ ap (refused_at 18) c.conditions-count.ensures ∙ wrong_length (conditions s) m _ (λ q. c.if-marking-count.true (q ∙ sym c.conditions-count.ensures)) ∙ sym (on_judged s m Ok _ (sym c.judge.ensures ∙ c.in_ok-events.was))

pub returns-then-above-marking : goal.returns-then-above-marking
returns-then-above-marking c =
    let s = c.args.table.now in
    let m = c.args.marking.now in
    let above : first_above m < length m = omega (arith, c.first_above-above.ensures, c.if-above-marking.true) in
    c.refused-then-above-marking.ensures ∙ ap (refused_at 18) c.first_above-above.ensures ∙ byte_above (conditions s) m _ (c.if-marking-count.false ∙ c.conditions-count.ensures) above ∙ sym (on_judged s m Ok _ (sym c.judge.ensures ∙ c.in_ok-events.was))

pub returns : goal.returns
returns c =
    let s = c.args.table.now in
    let m = c.args.marking.now in
    all_right (conditions s) m _ (c.if-marking-count.false ∙ c.conditions-count.ensures) (omega (arith, c.first_above-above.ensures, c.if-above-marking.false)) ∙ sym (on_judged s m Ok _ (sym c.judge.ensures ∙ c.in_ok-events.was))
