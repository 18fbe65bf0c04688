-- `walking::in_ranges` meets its contract.
use native.Mathlib.Omega.{arith}
use borrow.Author.Tests.{tests}
use mathlib.Core.Bool.{Bool}
use mathlib.Core.Path.{refl, ◌∙◌}
use Prim.Native.Nat.{ℕ}
use lib.ListN.{get_or}
use Rattle.std.proofs.Common.{rules}
use Rattle.std.proofs.lemmas.Iterator.{YieldsList-from_range}
use Rattle.std.proofs.lemmas.Iterator.Search.{any_from_yields_List}
use Rattle.lists.specs.Lists.{mem, count}
use Rattle.walking.proofs.Ranging.{any_has}
use Rattle.walking.proofs.in_ranges.Goals as goal

pub returns : goal.returns
returns c =
    let test : ℕ → Bool = λ i. mem c.args.k (count (get_or c.args.starts.now i 0) (get_or c.args.sizes.now i 0)) in
    let numbers = YieldsList-from_range 0 c.args.ranges c.args.ranges refl (omega arith) in
    any_from_yields_List test c.any.new.self _ c.any.result c.any.ensures.ran numbers (λ x b q k. search (rules, tests))
    ∙ any_has c.args.starts.now c.args.sizes.now c.args.k 0 c.args.ranges
