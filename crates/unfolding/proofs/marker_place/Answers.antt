-- `unfolding::marker_place` meets its contract.
use native.Mathlib.Omega.{arith}
use mathlib.Core.Path.{◌∙◌, sym, ap}
use mathlib.Core.Bool.{true}
use Prim.Native.Nat.{ℕ, ◌+◌}
use lib.Dec.{eqb}
use Rattle.lists.specs.Lists.{mem, index}
use Rattle.model.specs.Unfolding.{same_marker, markers}
use Rattle.table.specs.Decoded.{net_of}
use Rattle.tally.specs.Having.{list_of, having}
use Rattle.tally.proofs.Tallies.{keep_few}
use Rattle.refusal.specs.declared.Marker as declared
use Rattle.unfolding.specs.Markers.{meant}
use Rattle.unfolding.proofs.Places.{index_most, place_event, place_start}
use Rattle.unfolding.proofs.marker_place.Goals as goal

pub returns-in_default : goal.returns-in_default
returns-in_default c =
    sym (ap (λ (x : declared.Marker). index (same_marker (meant x)) (markers (net_of c.args.table.now) c.args.b)) c.in_default.is ∙ place_start (net_of c.args.table.now) c.args.b)

pub overflow_add-result : goal.overflow_add-result
overflow_add-result c =
    let l = having (net_of c.args.table.now) true c.args.b c.args.events in
    omega (arith, c.place.ensures, index_most (eqb c.in-ByEvent.e.0) l, keep_few (λ e. mem c.args.b (list_of (net_of c.args.table.now) true e)) 0 c.args.events)

pub returns : goal.returns
returns c =
    sym (ap (λ (x : declared.Marker). index (same_marker (meant x)) (markers (net_of c.args.table.now) c.args.b)) c.in-ByEvent.is ∙ place_event (net_of c.args.table.now) c.args.b c.in-ByEvent.e.0 c.args.events c.requires.events_value ∙ ap (λ (k : ℕ). 1 + k) (sym c.place.ensures))
