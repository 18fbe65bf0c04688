-- `colours::first_persistent` meets its contract.
use borrow.Author.Tests.{tests}
use lib.ListN.{length}
use mathlib.Core.Bool.{true, false}
use mathlib.Core.Path.{◌≡◌, ap, ◌∙◌}
use native.Mathlib.Omega.{arith}
use Prim.Native.Nat.{ℕ, ◌*◌, ◌/◌}
use Rattle.std.proofs.Common.{rules}
use Rattle.std.proofs.lemmas.Iterator.{IsFirst-from_position}
use Rattle.std.proofs.lemmas.Iterator.Consumers.{YieldsList-from_first}
use Rattle.lists.proofs.Library.{found_is_index, found_within}
use Rattle.words.specs.Words.{words}
use Rattle.words.specs.Numbers.{numbers_left}
use Rattle.words.proofs.Laws.{length_words}
use Rattle.colours.specs.Colours.{flagged_in}
use Rattle.colours.proofs.first_persistent.Goals as goal

pub overflow_mul-result : goal.overflow_mul-result
overflow_mul-result c =
    let list = c.args.list.now in
    let count = ap length c.numbers.ensures.left ∙ length_words list in
    let within = found_within (length list / 2) c.position-place.result (rw count at c.position-place.ensures.bound) in
    omega (arith, within, c.unwrap_or.ensures)

pub returns : goal.returns
returns c =
    let list = c.args.list.now in
    let found = c.position-place.result in
    let place = found_is_index (flagged_in c.args.flags.now) (words list) found
    (IsFirst-from_position c.position-place.new.self _ found (λ b. flagged_in c.args.flags.now b ≡ true) (λ b. flagged_in c.args.flags.now b ≡ false)
    c.position-place.ensures.ran (YieldsList-from_first (λ x. x) numbers_left (words list) c.numbers.ensures.left)
    (λ x q k. search (rules, tests)) (λ x q k. search (rules, tests))) in
    ap (λ (n : ℕ). 2 * n) (c.unwrap_or.ensures ∙ (rw length_words at place))
