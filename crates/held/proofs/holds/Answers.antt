-- `held::holds` meets its contract.
use mathlib.Core.Path.{refl, sym}
use Rattle.held.specs.Held.{held_in}
use Rattle.held.proofs.Words.{held_past}
use borrow.Author.Rules.{rules}
use Rattle.held.proofs.holds.Goals as goal

pub returns-then-place-lt4 : goal.returns-then-place-lt4
unfolding held_in
returns-then-place-lt4 c = refl

pub returns : goal.returns
returns c = sym (held_past _ _ (search rules))
