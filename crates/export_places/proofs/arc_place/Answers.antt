-- `export_places::arc_place` meets its contract.
use mathlib.Core.Path.{◌∙◌}
use native.Mathlib.Omega.{arith}
use Rattle.spots.proofs.Spots.{spot_low}
use Rattle.spots.proofs.Search.{reached_fits, reached_holding, reached_spot}
use Rattle.export_places.proofs.Places.{finds_arc, finds_closes, finds_over}
use Rattle.export_places.proofs.arc_place.Goals as goal

pub overflow_add-all : goal.overflow_add-all
overflow_add-all c =
    omega (arith, reached_fits c.requires.0.laid c.reach-reached.ensures (omega (arith, c.ranges.wanted.fits)))

pub spot_in-requires : goal.spot_in-requires
spot_in-requires c =
    reached_holding c.requires.0.laid c.reach-reached.ensures c.if-wanted-all.true

pub returns-then-wanted-all : goal.returns-then-wanted-all
returns-then-wanted-all c =
    let w = reached_spot c.requires.0.laid c.reach-reached.ensures c.if-wanted-all.true c.spot_in.result c.spot_in.ensures in
    finds_arc c.args.wanted c.spot_in.result w c.spot_in.ensures.told (spot_low w)

pub returns-then-wanted-all-2 : goal.returns-then-wanted-all-2
returns-then-wanted-all-2 c =
    finds_closes c.args.wanted (c.if-wanted-all-2.true ∙ c.reach-reached.ensures.whole c.if-wanted-all.false)

pub returns : goal.returns
returns c =
    finds_over c.args.wanted (omega (arith, c.reach-reached.ensures.whole c.if-wanted-all.false, c.if-wanted-all.false, c.if-wanted-all-2.false))
