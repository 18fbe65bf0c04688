-- The place of the first byte 1 is the first condition that holds.
use borrow.Author.Tests.{tests}
use mathlib.Core.Path.{◌≡◌, ◌∙◌}
use Rattle.std.proofs.Common.{rules}
use Rattle.std.proofs.lemmas.Iterator.{YieldsList-from_slice, IsFirst-from_position}
use Rattle.listing.proofs.Held.{first_found}
use Rattle.listing.proofs.first_held.Goals as goal

pub returns : goal.returns
returns c =
    let found = c.position-first.result in
    c.unwrap_or.ensures ∙ first_found c.args.marking.now found
    (IsFirst-from_position c.position-first.new.self _ found (λ x. x ≡ 1) (λ x. x ≡ 1 → ⊥) c.position-first.ensures.ran
    (YieldsList-from_slice c.args.marking.now c.iter.ensures.rest) (λ x q k. search (rules, tests)) (λ x q k. search (rules, tests)))
