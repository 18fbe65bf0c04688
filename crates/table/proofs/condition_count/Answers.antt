-- `table::condition_count` meets its contract.
use Rattle.std.proofs.Common.{rules}
use mathlib.Core.Path.{◌≡◌, ◌∙◌, sym, ap}
use Rattle.std.specs.Prelude.{Ok}
use Rattle.refusal.proofs.Chain.{passed_up}
use Rattle.table.specs.Decoded.{net_of}
use Rattle.table.proofs.condition_count.Goals as goal

pub returns-in_err-judge : goal.returns-in_err-judge
returns-in_err-judge c =
    let same : c.from_residual.result ≡ c.judge.result = search rules in
    same ∙ passed_up _ c.judge.ensures c.in_err-judge.was

pub returns : goal.returns
unfolding net_of
returns c =
    ap Ok c.conditions.ensures ∙ simp (sym c.judge.ensures ∙ c.in_ok-judge.was)
