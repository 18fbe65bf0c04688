-- `words::all_bits` meets its contract.
use borrow.Author.Tests.{tests}
use lib.Dec.{leb}
use mathlib.Core.Path.{sym, ◌∙◌}
use Rattle.std.proofs.Common.{rules}
use Rattle.std.proofs.lemmas.Iterator.{YieldsList-from_slice}
use Rattle.std.proofs.lemmas.Iterator.Search.{all_from_yields_List}
use Rattle.lists.proofs.Library.{all_is_all}
use Rattle.words.specs.Words.{bits}
use Rattle.words.proofs.all_bits.Goals as goal

pub returns : goal.returns
unfolding bits
returns c =
    let bytes = YieldsList-from_slice c.args.s.now c.iter.ensures.rest in
    all_from_yields_List (λ b. leb b 1) _ _ c.all.result c.all.ensures.ran bytes (λ x b q k. search (rules, tests))
    ∙ sym (all_is_all (λ b. leb b 1) c.args.s.now)
