-- `losses::spends` meets its contract.
use borrow.Author.Tests.{tests}
use mathlib.Core.Bool.{Bool}
use mathlib.Core.Path.{sym, ◌∙◌}
use Prim.Native.Nat.{ℕ}
use Rattle.std.proofs.Common.{rules}
use Rattle.std.proofs.lemmas.Iterator.Consumers.{YieldsList-from_first}
use Rattle.std.proofs.lemmas.Iterator.Search.{any_from_yields_List}
use Rattle.lists.proofs.Library.{any_is_any}
use Rattle.words.specs.Words.{words}
use Rattle.words.specs.Numbers.{numbers_left}
use Rattle.losses.specs.Tests.{spent_at}
use Rattle.losses.proofs.spends.Goals as goal

pub returns : goal.returns
returns c =
    let list = words c.args.pre.now in
    let test : ℕ → Bool = spent_at c.args.table.now c.args.puts.now in
    let numbers = YieldsList-from_first (λ x. x) numbers_left list c.numbers.ensures.left in
    any_from_yields_List test c.any.new.self _ c.any.result c.any.ensures.ran numbers (λ x b q k. search (rules, tests))
    ∙ sym (any_is_any test list)
