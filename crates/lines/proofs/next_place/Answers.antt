-- Each place has its next one.
use Prim.Native.Nat.{ℕ, ◌+◌}
use native.Mathlib.Omega.{arith}
use mathlib.Core.Path.{sym, ap, ◌∙◌}
use lib.ListN.{length}
use Rattle.listing.proofs.Held.{first_below}
use Rattle.lines.specs.Places.{more_from, next_at}
use Rattle.lines.proofs.next_place.Goals as goal

pub overflow_add-k : goal.overflow_add-k
overflow_add-k c =
    omega (arith, c.requires.1 _ c.in-Step.is, c.ranges.steps.fits)

pub overflow_add-first_held : goal.overflow_add-first_held
overflow_add-first_held c =
    omega (arith, c.first_held.ensures, first_below c.args.end.now, c.requires.0)

pub returns-in-Start : goal.returns-in-Start
returns-in-Start c =
    c.step_from.ensures ∙ ap (next_at c.args.steps c.args.end.now) (sym c.in-Start.is)

pub returns-in-Step : goal.returns-in-Step
returns-in-Step c =
    c.step_from-in-Step.ensures ∙ ap (next_at c.args.steps c.args.end.now) (sym c.in-Step.is)

pub returns-in-End : goal.returns-in-End
returns-in-End c =
    c.more_from.ensures ∙ ap (λ (x : ℕ). more_from (length c.args.end.now) (x + 1)) c.first_held.ensures ∙ ap (next_at c.args.steps c.args.end.now) (sym c.in-End.is)

pub returns-in-More : goal.returns-in-More
returns-in-More c =
    c.more_from-in-More.ensures ∙ ap (more_from (length c.args.end.now)) c.next_piece.ensures ∙ ap (next_at c.args.steps c.args.end.now) (sym c.in-More.is)
