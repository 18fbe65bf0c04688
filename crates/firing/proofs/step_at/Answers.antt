-- `firing::step_at` meets its contract.
use Prim.Native.Nat.{ℕ, ◌+◌}
use native.Mathlib.Omega.{arith}
use mathlib.Core.Path.{subst}
use mathlib.Core.List.{List}
use mathlib.Core.Bool.{true, false}
use lib.Dec.{T}
use Rattle.lists.specs.Lists.{mem, sum}
use Rattle.model.specs.Unfolding.{basic}
use Rattle.model.specs.Numbering.{size}
use Rattle.table.specs.Decoded.{net_of}
use Rattle.unfolding.proofs.Numbered.{origin_low}
use Rattle.segments.specs.Ranges.{ranged}
use Rattle.firing.proofs.Fired.{step_told, summed, list_inside, step_after}
use borrow.Author.Rules.{rules}
use Rattle.firing.proofs.step_at.Goals as goal

pub ranges-taken-requires : goal.ranges-taken-requires
ranges-taken-requires c =
    record {
      owned = c.requires.owned;
      starts_len = (search rules, search rules);
    }

pub ranges-put-requires : goal.ranges-put-requires
ranges-put-requires c =
    record {
      owned = c.requires.owned;
      starts_len = (search rules, search rules);
    }

pub step_over-requires : goal.step_over-requires
step_over-requires c =
    let n = net_of c.args.table.now in
    let j = sum (size n) c.args.own.event + c.args.own.rest in
    record {
      summed = summed c.requires.owned;
      state_len = c.requires.state_len.0;
      below = record { kept = record { in_starts = omega (arith, c.ranges-taken.ensures.few); in_sizes = omega (arith, c.ranges-taken.ensures.few) }; each = λ b t. omega (arith, list_inside n j false b (subst (λ (l : List ℕ). T (mem b l)) c.ranges-taken.ensures.numbers t), c.requires.state_len.0) };
      below_2 = record { kept = record { in_starts = omega (arith, c.ranges-put.ensures.few); in_sizes = omega (arith, c.ranges-put.ensures.few) }; each = λ b t. omega (arith, list_inside n j true b (subst (λ (l : List ℕ). T (mem b l)) c.ranges-put.ensures.numbers t), c.requires.state_len.0) };
    }

pub returns : goal.returns
returns c =
    let n = net_of c.args.table.now in
    let j = sum (size n) c.args.own.event + c.args.own.rest in
    let taken = ranged c.ranges-taken.new.starts c.ranges-taken.new.sizes c.ranges-taken.result in
    let put = ranged c.ranges-put.new.starts c.ranges-put.new.sizes c.ranges-put.result in
    let low = origin_low n c.args.own.event c.args.own.rest c.requires.owned.event (omega (arith, c.requires.owned.whole, c.requires.owned.below)) in
    record {
      answer = step_told n j c.args.state.now taken put low c.ranges-taken.ensures.numbers c.ranges-put.ensures.numbers _ c.step_over.ensures.answer;
      after = step_after n j c.args.state.now taken put low c.ranges-taken.ensures.numbers c.ranges-put.ensures.numbers c.requires.state_len.1 (basic n).conditions c.requires.state_len.0 _ c.step_over.ensures.after;
    }
