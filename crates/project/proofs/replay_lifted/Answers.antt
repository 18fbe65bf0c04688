-- `project::replay_lifted` meets its contract.
use Prim.Native.Nat.{◌-◌}
use native.Mathlib.Omega.{arith}
use mathlib.Core.Path.{refl}
use Rattle.project.proofs.Apart.{numbered_part}
use Rattle.project.proofs.Walks.{walked_start, few_judged}
use Rattle.project.proofs.replay_lifted.Goals as goal

pub fill-requires : goal.fill-requires
fill-requires c =
    (c.requires.replayable.judged, few_judged _ _ c.requires.replayable.judged)

pub play-requires : goal.play-requires
play-requires c =
    record { equipped = record { numbered = numbered_part _ _ _ _ _ _ _ c.requires.replayable c.fill.ensures (c.args.events - 0) (omega arith); few_conditions = c.requires.replayable.few_conditions; uses = c.requires.replayable.counted.uses; start = c.start.ensures }; walked = walked_start _ _ c.requires.replayable.judged _ _ _ _ _ c.requires.replayable.short c.start-2.ensures c.requires.state_value.1 refl refl }
