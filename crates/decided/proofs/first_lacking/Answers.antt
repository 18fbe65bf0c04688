-- `decided::first_lacking` meets its contract.
use Prim.Native.Nat.{ℕ}
use borrow.Author.Tests.{tests}
use mathlib.Core.Bool.{Bool, not}
use mathlib.Core.Path.{◌∙◌}
use Rattle.std.proofs.Common.{rules}
use Rattle.std.proofs.lemmas.Iterator.Consumers.{YieldsList-from_first}
use Rattle.std.proofs.lemmas.Iterator.Search.{find_from_yields_List}
use Rattle.words.specs.Words.{words}
use Rattle.words.specs.Numbers.{numbers_left}
use Rattle.step.proofs.Lists.{found_failing}
use Rattle.decided.specs.Kept.{ready_at}
use Rattle.decided.proofs.first_lacking.Goals as goal

pub returns : goal.returns
returns c =
    let a = c.args in
    let list = words a.pre.now in
    let passes : ℕ → Bool = ready_at a.table.now a.state.now a.begun.now a.seen.now a.places.now a.kept.now in
    let numbers = YieldsList-from_first (λ x. x) numbers_left list c.numbers.ensures.left in
    let found = find_from_yields_List (λ b. not (passes b)) c.find.new.self _ c.find.result c.find.ensures.ran numbers (λ x b q k. search (rules, tests)) in
    (search rules) ∙ found_failing passes list c.find.result found
