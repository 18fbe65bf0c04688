-- `walking::first_in` meets its contract.
use borrow.Author.Tests.{tests}
use mathlib.Core.Bool.{Bool, true, false}
use mathlib.Core.Path.{◌≡◌, ◌∙◌}
use Prim.Native.Nat.{ℕ}
use Rattle.std.proofs.Common.{rules}
use Rattle.std.proofs.lemmas.Iterator.{first_from_Range}
use Rattle.model.specs.Unfolding.{basic}
use Rattle.model.specs.Lent.{marking}
use Rattle.table.specs.Decoded.{net_of}
use Rattle.segments.specs.Ranges.{ranged}
use Rattle.walking.specs.Steps.{passes_of}
use Rattle.walking.proofs.Ranging.{failing_found_in}
use Rattle.walking.proofs.first_in.Goals as goal

pub returns : goal.returns
returns c =
    let taken = ranged c.args.starts.now c.args.sizes.now c.args.ranges in
    let test : ℕ → Bool = passes_of c.args.contact (marking c.args.state.now) taken (basic (net_of c.args.table.now)).old in
    (search rules) ∙ failing_found_in test c.args.first c.args.size c.find.result
    (first_from_Range _ c.find.new.self _ c.find.result (λ k. test k ≡ false) (λ k. test k ≡ true) c.find.ensures.ran
    (λ x q k. search (rules, tests)) (λ x q k. search (rules, tests)))
