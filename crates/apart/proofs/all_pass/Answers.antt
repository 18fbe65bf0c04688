-- `apart::all_pass` meets its contract.
use mathlib.Core.Bool.{Bool}
use Prim.Native.Nat.{ℕ}
use borrow.Author.Tests.{tests}
use mathlib.Core.Path.{sym, ◌∙◌}
use Rattle.std.proofs.Common.{rules}
use Rattle.std.proofs.lemmas.Iterator.Consumers.{YieldsList-from_first}
use Rattle.std.proofs.lemmas.Iterator.Search.{all_from_yields_List}
use Rattle.lists.proofs.Library.{all_is_all}
use Rattle.words.specs.Words.{words}
use Rattle.words.specs.Numbers.{numbers_left}
use Rattle.held.specs.Held.{held_in}
use Rattle.apart.specs.Tests.{passes_of}
use Rattle.apart.proofs.all_pass.Goals as goal

pub returns : goal.returns
returns c =
    let list = words c.args.list.now in
    let passes : ℕ → Bool = passes_of c.args.test c.args.flags.now (held_in c.args.held) (words c.args.pre.now) (words c.args.post.now) in
    let numbers = YieldsList-from_first (λ x. x) numbers_left list c.numbers.ensures.left in
    all_from_yields_List passes c.all.new.self _ c.all.result c.all.ensures.ran numbers (λ x b q k. search (rules, tests))
    ∙ sym (all_is_all passes list)
