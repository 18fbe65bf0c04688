-- `step::kept` meets its contract.
use mathlib.Core.Path.{ap, ◌∙◌}
use mathlib.Core.List.{List}
use Prim.Native.Nat.{ℕ}
use Rattle.model.specs.Lent.{marking}
use Rattle.held.specs.Held.{tabled}
use Rattle.step.proofs.kept.Goals as goal

pub returns : goal.returns
returns c =
    c.gather.ensures ∙ ap (λ (l : List ℕ). tabled (marking l)) c.flags.ensures
