-- `walking::set_range` meets its contract.
use native.Mathlib.Omega.{arith}
use mathlib.Core.Path.{refl, ◌∙◌, sym, ap}
use mathlib.Core.List.{List, []}
use Prim.Native.Nat.{ℕ, ◌+◌, ◌-◌}
use lib.ListN.{length-set}
use Rattle.step.specs.Steps.{set_all}
use Rattle.walking.proofs.Ranging.{count_whole, set_next, set_done, range_fits}
use Rattle.walking.proofs.set_range.Goals as goal

pub overflow_add-k-end : goal.overflow_add-k-end
overflow_add-k-end c =
    let end = range_fits c.args.first c.args.size _ 4294967296 c.requires.below_in (omega arith) (omega (arith, c.requires.state_len_bound)) in
    omega (arith, end)

pub loop-k-init : goal.loop-k-init
loop-k-init c =
    (refl, ap (λ (l : List ℕ). set_all [] c.args.value l c.args.state.now) (count_whole c.args.first c.args.size))

pub bounds-state-k : goal.bounds-state-k
bounds-state-k c =
    omega (arith, c.requires.below_in (c.loop-k.k - c.args.first) (omega arith), c.loop-k.invariant.0)

pub loop-k-preserved : goal.loop-k-preserved
loop-k-preserved c =
    let next = set_next c.args.value c.loop-k.k (c.args.first + c.args.size) c.loop-k.state (omega arith) in
    (simp length-set c.loop-k.invariant.0, sym next ∙ c.loop-k.invariant.1)

pub returns : goal.returns
returns c =
    sym (set_done c.args.value c.loop-k.k (c.args.first + c.args.size) c.loop-k.state (omega arith)) ∙ c.loop-k.invariant.1
