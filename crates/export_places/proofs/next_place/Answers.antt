-- `export_places::next_place` meets its contract.
use mathlib.Core.Path.{refl, subst}
use mathlib.Core.Logic.{⊎_elim}
use Rattle.export_places.proofs.Places.{after_opens, after_place, after_transition, numbered_few, follows_found, follows_spot, follows_closes, follows_over}
use native.Mathlib.Omega.{arith}
use Rattle.export_places.specs.declared.Place as declared
use Rattle.export_places.specs.Places.{Stands}
use Rattle.export_places.proofs.next_place.Goals as goal
use Rattle.export_places.proofs.next_place.Goals.{in-Opens, in-Place, in-Transition}

pub overflow_add-i : goal.overflow_add-i
overflow_add-i c =
    let l = (after_place c.args.table.now c.args.markers.now c.args.users.now c.args.bases.now c.args.marks.now c.args.uses.now c.args.starts.now c.args.sizes.now c.requires.numbered.0 c.args.place _ c.in-Place.x c.in-Place.is refl c.requires.stands).0 in
    omega (arith, (numbered_few c.requires.numbered.0).0)

pub overflow_mul-i : goal.overflow_mul-i
overflow_mul-i c =
    omega (arith, (numbered_few c.requires.numbered.0).0)

pub overflow_add-i-in-Transition : goal.overflow_add-i-in-Transition
overflow_add-i-in-Transition c =
    let l = (after_transition c.args.table.now c.args.markers.now c.args.users.now c.args.bases.now c.args.marks.now c.args.uses.now c.args.starts.now c.args.sizes.now c.requires.numbered.0 c.args.place _ c.in-Transition.t c.in-Transition.is refl c.requires.stands).0 in
    omega (arith, (numbered_few c.requires.numbered.0).0, (numbered_few c.requires.numbered.0).1)

pub overflow_add-i-in-Transition-2 : goal.overflow_add-i-in-Transition-2
overflow_add-i-in-Transition-2 c =
    let l = (after_transition c.args.table.now c.args.markers.now c.args.users.now c.args.bases.now c.args.marks.now c.args.uses.now c.args.starts.now c.args.sizes.now c.requires.numbered.0 c.args.place _ c.in-Transition.t c.in-Transition.is refl c.requires.stands).0 in
    omega (arith, (numbered_few c.requires.numbered.0).0, (numbered_few c.requires.numbered.0).1)

pub next_spot-requires : goal.next_spot-requires
next_spot-requires c =
    (c.requires.numbered.0.table, subst (λ (p : declared.Place). Stands c.args.table.now c.args.markers.now c.args.users.now c.args.bases.now c.args.marks.now c.args.uses.now c.args.starts.now c.args.sizes.now p) c.in-Arc.is c.requires.stands)

pub returns-in-Arc : goal.returns-in-Arc
returns-in-Arc c =
    follows_spot _ c.next_spot.result c.next_spot.ensures _ c.in-Arc.is c.place_of.result c.place_of.ensures

pub returns-in-Closes : goal.returns-in-Closes
returns-in-Closes c =
    follows_closes _ c.in-Closes.is

pub returns-in-Over : goal.returns-in-Over
returns-in-Over c =
    follows_over _ c.in-Over.is

pub returns : goal.returns
returns c =
    follows_found c.match-place.i c.args.place c.place_at.result
    (elim c.match-place.branch [
      | in-Opens w ↦ after_opens c.args.table.now c.args.place c.match-place.i w.in-Opens.is w.i-is
      | in-Place w ↦ (after_place c.args.table.now c.args.markers.now c.args.users.now c.args.bases.now c.args.marks.now c.args.uses.now c.args.starts.now c.args.sizes.now c.requires.numbered.0 c.args.place c.match-place.i w.in-Place.x w.in-Place.is w.i-is c.requires.stands).1
      | in-Transition w ↦ (after_transition c.args.table.now c.args.markers.now c.args.users.now c.args.bases.now c.args.marks.now c.args.uses.now c.args.starts.now c.args.sizes.now c.requires.numbered.0 c.args.place c.match-place.i w.in-Transition.t w.in-Transition.is w.i-is c.requires.stands).1
    ])
    c.place_at.ensures
