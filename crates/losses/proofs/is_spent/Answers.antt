-- `losses::is_spent` meets its contract.
use mathlib.Core.Path.{◌∙◌, sym, ap}
use Prim.Native.Nat.{ℕ}
use lib.Dec.{eqb}
use Rattle.losses.proofs.Steps.{spent_flagged, spent_counted}
use Rattle.losses.proofs.is_spent.Goals as goal

pub returns-then-is_persistent : goal.returns-then-is_persistent
returns-then-is_persistent c =
    let args = c.args in
    let flag = c.is_persistent.ensures in
    spent_flagged args.table.now args.puts.now args.b (sym flag ∙ c.if-is_persistent.true)

pub returns : goal.returns
returns c =
    let args = c.args in
    let flag = c.is_persistent.ensures in
    ap (λ (k : ℕ). eqb k 0) c.number.ensures
    ∙ spent_counted args.table.now args.puts.now args.b (sym flag ∙ c.if-is_persistent.false)
