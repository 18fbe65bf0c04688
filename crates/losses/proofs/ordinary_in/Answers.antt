-- `losses::ordinary_in` meets its contract.
use borrow.Author.Tests.{tests}
use mathlib.Core.Bool.{Bool}
use mathlib.Core.Path.{sym, ◌∙◌}
use Prim.Native.Nat.{ℕ}
use Rattle.std.proofs.Common.{rules}
use Rattle.std.proofs.lemmas.Iterator.Consumers.{YieldsList-from_first}
use Rattle.std.proofs.lemmas.Iterator.Search.{all_from_yields_List}
use Rattle.lists.proofs.Library.{all_is_all}
use Rattle.words.specs.Words.{words}
use Rattle.words.specs.Numbers.{numbers_left}
use Rattle.losses.specs.Tests.{kept_at}
use Rattle.losses.proofs.ordinary_in.Goals as goal

pub returns : goal.returns
returns c =
    let list = words c.args.list.now in
    let test : ℕ → Bool = kept_at c.args.table.now (words c.args.other.now) in
    let numbers = YieldsList-from_first (λ x. x) numbers_left list c.numbers.ensures.left in
    all_from_yields_List test c.all.new.self _ c.all.result c.all.ensures.ran numbers (λ x b q k. search (rules, tests))
    ∙ sym (all_is_all test list)
