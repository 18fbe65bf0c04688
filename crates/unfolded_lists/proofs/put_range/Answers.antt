-- `unfolded_lists::put_range` meets its contract.
use native.Mathlib.Omega.{arith}
use mathlib.Core.Path.{refl, ◌∙◌, sym}
use lib.ListN.{length-set}
use Rattle.segments.proofs.Ranged.{put_on, put_end, put_start}
use Rattle.unfolded_lists.proofs.put_range.Goals as goal

pub loop-i-init : goal.loop-i-init
loop-i-init c =
    (refl, put_start c.args.out.now c.args.at c.args.first c.args.size)

pub overflow_add-out : goal.overflow_add-out
overflow_add-out c =
    omega (arith, c.requires.small c.loop-i.i (omega arith))

pub overflow_cast-out : goal.overflow_cast-out
overflow_cast-out c =
    omega (arith, c.requires.small c.loop-i.i (omega arith))

pub overflow_cast-out-in-loop-i : goal.overflow_cast-out-in-loop-i
overflow_cast-out-in-loop-i c =
    omega (arith, c.requires.small c.loop-i.i (omega arith))

pub overflow_add-out-in-loop-i : goal.overflow_add-out-in-loop-i
overflow_add-out-in-loop-i c =
    omega (arith, c.requires.small c.loop-i.i (omega arith))

pub loop-i-preserved : goal.loop-i-preserved
loop-i-preserved c =
    let on = put_on c.loop-i.out c.args.at c.args.first c.args.size c.loop-i.i (omega arith) in
    (simp length-set c.loop-i.invariant.0, sym on ∙ c.loop-i.invariant.1)

pub returns : goal.returns
returns c =
    sym (put_end c.loop-i.out c.args.at c.args.first c.args.size c.loop-i.i (omega arith)) ∙ c.loop-i.invariant.1
