-- `game::first_above` meets its contract.
use borrow.Author.Tests.{tests}
use lib.Dec.{ltb}
use mathlib.Core.Bool.{true, false}
use mathlib.Core.Path.{◌≡◌, ◌∙◌}
use native.Mathlib.Omega.{arith}
use Rattle.std.proofs.Common.{rules}
use Rattle.std.proofs.lemmas.Iterator.{YieldsList-from_slice, IsFirst-from_position}
use Rattle.lists.proofs.Library.{found_is_index}
use Rattle.game.proofs.Above.{above_none}
use Rattle.game.proofs.first_above.Goals as goal

pub returns-then-together-le1 : goal.returns-then-together-le1
returns-then-together-le1 c =
    above_none c.args.state.now (λ i h. omega (arith, c.together.ensures i h, c.if-together-le1.true))

pub returns : goal.returns
returns c =
    let found = c.position-above.result in
    c.unwrap_or.ensures ∙ found_is_index (λ x. ltb 1 x) c.args.state.now found
    (IsFirst-from_position c.position-above.new.self _ found (λ x. ltb 1 x ≡ true) (λ x. ltb 1 x ≡ false) c.position-above.ensures.ran
    (YieldsList-from_slice c.args.state.now c.iter.ensures.rest) (λ x q k. search (rules, tests)) (λ x q k. search (rules, tests)))
