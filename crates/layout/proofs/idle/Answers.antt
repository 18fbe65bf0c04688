-- `layout::idle` meets its contract.
use borrow.Author.Tests.{tests}
use mathlib.Core.Bool.{Bool}
use mathlib.Core.Path.{sym, ◌∙◌}
use Prim.Native.Nat.{ℕ}
use Rattle.std.proofs.Common.{rules}
use Rattle.std.proofs.lemmas.Iterator.Consumers.{YieldsList-from_first}
use Rattle.std.proofs.lemmas.Iterator.Search.{all_from_yields_List}
use Rattle.lists.proofs.Library.{all_is_all}
use Rattle.words.specs.Words.{words}
use Rattle.words.specs.Numbers.{numbers_left}
use Rattle.layout.proofs.Steps.{unused, some_precondition, no_precondition}
use Rattle.layout.proofs.idle.Goals as goal

pub returns-then-pre-gt1 : goal.returns-then-pre-gt1
returns-then-pre-gt1 c = some_precondition c.args.table.now c.args.users.now c.args.pre.now (words c.args.post.now) c.if-pre-gt1.true

pub returns : goal.returns
returns c =
    let args = c.args in
    let list = words args.post.now in
    let test : ℕ → Bool = unused args.table.now args.users.now in
    let numbers = YieldsList-from_first (λ x. x) numbers_left list c.numbers.ensures.left in
    all_from_yields_List test c.all.new.self _ c.all.result c.all.ensures.ran numbers (λ x b q k. search (rules, tests))
    ∙ sym (no_precondition args.table.now args.users.now args.pre.now list c.if-pre-gt1.false ∙ all_is_all test list)
