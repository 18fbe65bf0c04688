-- `parts::asked_condition` meets its contract.
use Rattle.std.proofs.Common.{rules}
use Prim.Native.Nat.{ℕ, ◌+◌}
use native.Mathlib.Omega.{arith}
use mathlib.Core.Path.{◌≡◌, ◌∙◌, sym, ap}
use borrow.Author.Tests.{lt-ltb, le-ltb}
use Rattle.std.specs.Prelude.{Ok}
use Rattle.refusal.specs.Answer.{need}
use Rattle.refusal.proofs.Chain.{passed_up}
use Rattle.records.proofs.First.{front_low}
use Rattle.parts.specs.Asked.{asked_condition_of}
use Rattle.parts.proofs.asked_condition.Goals as goal

pub returns-in_err-judge : goal.returns-in_err-judge
unfolding asked_condition_of
returns-in_err-judge c =
    let same : c.from_residual.result ≡ c.judge.result = search rules in
    same ∙ passed_up _ c.judge.ensures c.in_err-judge.was

pub overflow_add-result : goal.overflow_add-result
overflow_add-result c =
    omega (arith, c.front.ensures, front_low c.args.table.now)

pub overflow_add-result-then-wanted-conditions : goal.overflow_add-result-then-wanted-conditions
overflow_add-result-then-wanted-conditions c =
    omega (arith, c.front.ensures, front_low c.args.table.now)

pub returns-then-wanted-conditions : goal.returns-then-wanted-conditions
unfolding asked_condition_of need
returns-then-wanted-conditions c =
    ap (λ (f : ℕ). Ok (f + 4 + c.args.b.0)) c.front.ensures
    ∙ simp (sym c.judge.ensures ∙ c.in_ok-judge.was, ← c.conditions.ensures, lt-ltb _ _ c.if-wanted-conditions.true)

pub returns-else-wanted-conditions : goal.returns-else-wanted-conditions
unfolding asked_condition_of need
returns-else-wanted-conditions c =
    c.refused.ensures ∙ simp (sym c.judge.ensures ∙ c.in_ok-judge.was, ← c.conditions.ensures, le-ltb _ _ c.if-wanted-conditions.false)
