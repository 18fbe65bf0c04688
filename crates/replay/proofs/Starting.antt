-- A lent marking gathered into words says the same, so a replay from it can start there.
use Prim.Native.Nat.{ℕ}
use mathlib.Core.Path.{◌≡◌, ◌∙◌}
use mathlib.Core.List.{List}
use Rattle.model.specs.Lent.{marking}
use Rattle.std.specs.Prelude.{Ok}
use Rattle.table.specs.Walk.{judge_of}
use Rattle.held.specs.Held.{held_in, tabled}
use Rattle.held.proofs.Words.{tabled_marking}
use Rattle.game.specs.Calls.{on_marking}
use Rattle.game.proofs.Marked.{on_fine}

module _ (s m : List ℕ) (n : ℕ) (j : on_marking s m Ok ≡ Ok n) where
  pub lent_judged : judge_of s ≡ Ok n
  lent_judged = let k = on_fine s m Ok n j in k.judged ∙ k.goes

  pub lent_gathered : (held : List ℕ) → held_in held ≡ tabled (marking m) → held_in held ≡ marking m
  lent_gathered held e = e ∙ tabled_marking m (on_fine s m Ok n j).few
