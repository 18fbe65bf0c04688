-- `walking::set_ranges` meets its contract.
use native.Mathlib.Omega.{arith}
use mathlib.Core.Path.{refl, ◌∙◌, sym, ap}
use mathlib.Core.List.{List, []}
use Prim.Native.Nat.{ℕ, ◌+◌, ◌-◌, ◌<◌}
use lib.ListN.{get_or}
use Rattle.segments.specs.Ranges.{ranged_from}
use Rattle.segments.proofs.Ranged.{ranged_whole, first_there, others_there}
use Rattle.step.specs.Steps.{set_all}
use Rattle.walking.proofs.Ranging.{set_on, set_end}
use borrow.Author.Rules.{rules}
use Rattle.walking.proofs.set_ranges.Goals as goal

pub loop-i-init : goal.loop-i-init
loop-i-init c =
    let w = ranged_whole c.args.starts.now c.args.sizes.now c.args.ranges in
    (refl, λ b t. c.requires.below.each b (rw w at t), ap (λ (l : List ℕ). set_all [] c.args.value l c.args.state.now) w)

pub bounds-starts-i : goal.bounds-starts-i
bounds-starts-i c =
    omega (arith, c.requires.below.kept.in_starts)

pub bounds-sizes-i : goal.bounds-sizes-i
bounds-sizes-i c =
    omega (arith, c.requires.below.kept.in_sizes)

pub set_range-requires : goal.set_range-requires
set_range-requires c =
    let first = get_or c.args.starts.now c.loop-i.i 0 in
    let there = first_there c.args.starts.now c.args.sizes.now c.loop-i.i c.args.ranges (omega arith) in
    record {
      below_in = λ d l. omega (arith, c.loop-i.invariant.1 (first + d) (there d l), c.loop-i.invariant.0);
      state_len_bound = omega (arith, c.loop-i.invariant.0, c.requires.state_len_bound);
    }

pub loop-i-preserved : goal.loop-i-preserved
loop-i-preserved c =
    let i = c.loop-i.i in
    let starts = c.args.starts.now in
    let sizes = c.args.sizes.now in
    let k = c.args.ranges in
    let h : i < k = omega arith in
    let others = ranged_from starts sizes (i + 1) (k - (i + 1)) in
    let on = set_on starts sizes i k c.args.value c.loop-i.state h in (
      search rules,
      λ b t. c.loop-i.invariant.1 b (others_there starts sizes i k h b t),
      ap (λ (l : List ℕ). set_all [] c.args.value others l) c.set_range.ensures ∙ sym on ∙ c.loop-i.invariant.2,
    )

pub returns : goal.returns
returns c =
    sym (set_end c.args.starts.now c.args.sizes.now c.loop-i.i c.args.ranges c.args.value c.loop-i.state (omega arith)) ∙ c.loop-i.invariant.2
