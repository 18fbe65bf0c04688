-- `decided::keep` meets its contract.
use Prim.Native.Nat.{ℕ, ◌-◌}
use native.Mathlib.Omega.{arith}
use mathlib.Core.Path.{refl, ap, ◌∙◌}
use mathlib.Core.Bool.{true}
use lib.ListN.{get_or}
use Rattle.lists.specs.Lists.{mem}
use Rattle.table.specs.Decoded.{net_of}
use Rattle.tally.specs.Having.{list_of, having}
use Rattle.unfolding.proofs.Places.{kept_below}
use Rattle.decided.proofs.Places.{kept_again, kept_start, kept_event}
use Rattle.decided.proofs.keep.Goals as goal

pub returns-then-last-place : goal.returns-then-last-place
returns-then-last-place c =
    record {
      held = kept_again _ _ _ c.requires.held c.args.b c.args.place c.requires.low c.if-last-place.true;
      placed = refl;
    }

pub returns-then-place-eq0 : goal.returns-then-place-eq0
returns-then-place-eq0 c =
    record {
      held = kept_start _ _ _ c.requires.held c.args.b c.args.place c.requires.low c.if-place-eq0.true;
      placed = refl;
    }

pub overflow_cast-kept : goal.overflow_cast-kept
overflow_cast-kept c =
    omega (arith, c.nth.ensures, c.requires.few, kept_below (λ e. mem c.args.b (list_of (net_of c.args.table.now) true e)) 0 c.args.events (c.args.place - 1))

pub returns : goal.returns
returns c =
    record {
      held = kept_event _ _ _ c.requires.held c.args.b c.args.place c.requires.low c.if-place-eq0.false c.requires.inside _ (c.nth.ensures ∙ ap (λ (k : ℕ). get_or (having (net_of c.args.table.now) true c.args.b k) (c.args.place - 1) 0) c.requires.all);
      placed = refl;
    }
