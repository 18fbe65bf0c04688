-- `unfolded_lists::put_ranges` meets its contract.
use native.Mathlib.Omega.{arith}
use mathlib.Core.Path.{refl, ◌∙◌, sym, ap}
use mathlib.Core.List.{List}
use Prim.Native.Nat.{ℕ, ◌+◌, ◌-◌, ◌<◌}
use lib.ListN.{length, get_or}
use lib.Seq.{sets}
use Rattle.segments.specs.Ranges.{ranged_from}
use Rattle.segments.proofs.Ranged.{ranged_whole, ranged_end, first_there, others_there, length_on, put_next}
use borrow.Author.Rules.{rules}
use Rattle.unfolded_lists.proofs.put_ranges.Goals as goal

pub loop-i-init : goal.loop-i-init
loop-i-init c =
    let w = ranged_whole c.args.starts.now c.args.sizes.now c.args.ranges in (
      refl,
      omega (arith, c.requires.enough, ap (λ (l : List ℕ). length l) w),
      λ b t. c.requires.low b (rw w at t),
      ap (λ (l : List ℕ). sets c.args.out.now 0 l) w,
    )

pub bounds-sizes-i : goal.bounds-sizes-i
bounds-sizes-i c =
    omega (arith, c.requires.in_sizes)

pub bounds-starts-i : goal.bounds-starts-i
bounds-starts-i c =
    omega (arith, c.requires.in_starts)

pub put_range-requires : goal.put_range-requires
put_range-requires c =
    let i = c.loop-i.i in
    let h : i < c.args.ranges = omega arith in
    let first = get_or c.args.starts.now i 0 in
    let there = first_there c.args.starts.now c.args.sizes.now i c.args.ranges h in
    record {
      small = λ d l. omega (arith, c.loop-i.invariant.2 (first + d) (there d l));
      size_in_bounds = omega (arith, length_on c.args.starts.now c.args.sizes.now i c.args.ranges h, c.loop-i.invariant.0, c.loop-i.invariant.1);
    }

pub overflow_add-at : goal.overflow_add-at
overflow_add-at c =
    let on = length_on c.args.starts.now c.args.sizes.now c.loop-i.i c.args.ranges (omega arith) in
    omega (arith, on, c.loop-i.invariant.0, c.loop-i.invariant.1)

pub overflow_cast-at : goal.overflow_cast-at
overflow_cast-at c =
    let on = length_on c.args.starts.now c.args.sizes.now c.loop-i.i c.args.ranges (omega arith) in
    omega (arith, on, c.loop-i.invariant.0, c.loop-i.invariant.1)

pub loop-i-preserved : goal.loop-i-preserved
loop-i-preserved c =
    let i = c.loop-i.i in
    let starts = c.args.starts.now in
    let sizes = c.args.sizes.now in
    let k = c.args.ranges in
    let h : i < k = omega arith in
    let size = get_or sizes i 0 in
    let put = ap (λ (l : List ℕ). sets l (c.loop-i.at + size) (ranged_from starts sizes (i + 1) (k - (i + 1)))) c.put_range.ensures in
    let next = put_next starts sizes i k h c.loop-i.out c.loop-i.at (get_or starts i 0) size refl refl in (
      search rules,
      omega (arith, length_on starts sizes i k h, c.loop-i.invariant.1),
      λ b t. c.loop-i.invariant.2 b (others_there starts sizes i k h b t),
      put ∙ sym next ∙ c.loop-i.invariant.3,
    )

pub returns : goal.returns
returns c =
    let end = ranged_end c.args.starts.now c.args.sizes.now c.loop-i.i c.args.ranges (omega arith) in
    sym (ap (λ (l : List ℕ). sets c.loop-i.out c.loop-i.at l) end) ∙ c.loop-i.invariant.3
