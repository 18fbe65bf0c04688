-- `elements::condition_count` meets its contract.
use Prim.Native.Nat.{ℕ}
use mathlib.Core.Path.{ap, ◌∙◌}
use lib.ListN.{get_or}
use Rattle.elements.proofs.condition_count.Goals as goal

pub returns : goal.returns
returns c =
    c.number.ensures ∙ ap (λ (x : ℕ). get_or c.args.bases.now x 0) c.conditions.ensures
