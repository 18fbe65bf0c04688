-- Three numbers, then the list.
use native.Mathlib.Omega.{arith}
use Rattle.listing.specs.Calls.{held_in}
use Rattle.spelling.proofs.Texts.{both, same_text}
use Rattle.listing.proofs.Lines.{spaced_short, step_parts}
use Rattle.listing.proofs.put_step.Goals as goal

pub put_spaced-second-requires : goal.put_spaced-second-requires
put_spaced-second-requires c =
    omega (arith, c.put_spaced-first.ensures.told, spaced_short c.args.step (omega arith))

pub put_spaced-third-requires : goal.put_spaced-third-requires
put_spaced-third-requires c =
    omega (arith, c.put_spaced-first.ensures.told, c.put_spaced-second.ensures.told, spaced_short c.args.step (omega arith), spaced_short c.args.event (omega arith))

pub put_list-requires : goal.put_list-requires
put_list-requires c =
    (c.requires, omega (arith, c.put_spaced-first.ensures.told, c.put_spaced-second.ensures.told, c.put_spaced-third.ensures.told, spaced_short c.args.step (omega arith), spaced_short c.args.event (omega arith), spaced_short c.args.unfolded (omega arith)))

pub returns : goal.returns
returns c =
    same_text (step_parts c.args.step c.args.event c.args.unfolded (held_in c.args.state.now)) (both (both (both c.put_spaced-first.ensures c.put_spaced-second.ensures) c.put_spaced-third.ensures) c.put_list.ensures)
