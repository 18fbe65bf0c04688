-- `words::count_in` meets its contract.
use borrow.Author.Tests.{tests}
use Prim.Native.Nat.{ℕ}
use lib.Dec.{eqb}
use lib.ListN.{length, get_or}
use mathlib.Core.Path.{sym, ap, ◌∙◌}
use Rattle.std.proofs.Common.{rules}
use Rattle.std.proofs.lemmas.Iterator.Consumers.{YieldsList-from_first, YieldsList-from_filter, YieldsList-at, count_from_yields_List}
use Rattle.lists.proofs.Library.{keep_is_filter}
use Rattle.words.specs.Words.{words, count_in}
use Rattle.words.specs.Numbers.{numbers_left}
use Rattle.words.proofs.count_in.Goals as goal

pub returns : goal.returns
unfolding count_in
returns c =
    let flagged = λ (w : ℕ). eqb (get_or c.args.flags.now w 0) 1 in
    let numbers = YieldsList-at c.filter.ensures.source (YieldsList-from_first (λ x. x) numbers_left (words c.args.s.now) c.numbers.ensures.left) in
    count_from_yields_List c.filter.result c.count.result c.count.ensures.ran
    (YieldsList-from_filter _ flagged numbers c.filter.ensures.closure (λ x r q k. search (rules, tests)))
    ∙ ap length (sym (keep_is_filter flagged (words c.args.s.now)))
