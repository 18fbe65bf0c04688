-- `located::lacked` meets its contract.
use native.Mathlib.Omega.{arith}
use mathlib.Core.Path.{sym, ◌∙◌}
use Rattle.located.proofs.Placed.{pre_below, lacked_fits, lacked_ordinary, lacked_copy}
use Rattle.located.proofs.lacked.Goals as goal

pub base-first-requires : goal.base-first-requires
base-first-requires c =
    record {
      counted = c.requires.locating.counted;
      table_bound = c.requires.locating.few;
      b_bound = pre_below c.args.table.now c.args.markers.now c.args.users.now c.args.events c.args.e c.args.places.now c.args.kept.now c.requires.locating c.args.b c.requires.t;
    }

pub overflow_mul-result : goal.overflow_mul-result
overflow_mul-result c =
    omega (arith, lacked_copy c.args.table.now c.args.markers.now c.args.users.now c.args.events c.args.e c.args.places.now c.args.kept.now c.requires.locating c.args.b c.requires.t (sym c.is_persistent.ensures ∙ c.if-is_persistent.true) c.base-first.ensures c.number-marker.ensures c.number.ensures c.place-reader.ensures, lacked_fits c.args.table.now c.args.markers.now c.args.users.now c.args.events c.args.e c.args.places.now c.args.kept.now c.requires.locating c.args.b c.requires.t)

pub overflow_add-result : goal.overflow_add-result
overflow_add-result c =
    omega (arith, lacked_copy c.args.table.now c.args.markers.now c.args.users.now c.args.events c.args.e c.args.places.now c.args.kept.now c.requires.locating c.args.b c.requires.t (sym c.is_persistent.ensures ∙ c.if-is_persistent.true) c.base-first.ensures c.number-marker.ensures c.number.ensures c.place-reader.ensures, lacked_fits c.args.table.now c.args.markers.now c.args.users.now c.args.events c.args.e c.args.places.now c.args.kept.now c.requires.locating c.args.b c.requires.t)

pub overflow_add-result-then-is_persistent : goal.overflow_add-result-then-is_persistent
overflow_add-result-then-is_persistent c =
    omega (arith, lacked_copy c.args.table.now c.args.markers.now c.args.users.now c.args.events c.args.e c.args.places.now c.args.kept.now c.requires.locating c.args.b c.requires.t (sym c.is_persistent.ensures ∙ c.if-is_persistent.true) c.base-first.ensures c.number-marker.ensures c.number.ensures c.place-reader.ensures, lacked_fits c.args.table.now c.args.markers.now c.args.users.now c.args.events c.args.e c.args.places.now c.args.kept.now c.requires.locating c.args.b c.requires.t)

pub returns-then-is_persistent : goal.returns-then-is_persistent
returns-then-is_persistent c =
    lacked_copy c.args.table.now c.args.markers.now c.args.users.now c.args.events c.args.e c.args.places.now c.args.kept.now c.requires.locating c.args.b c.requires.t (sym c.is_persistent.ensures ∙ c.if-is_persistent.true) c.base-first.ensures c.number-marker.ensures c.number.ensures c.place-reader.ensures

pub returns : goal.returns
returns c =
    lacked_ordinary c.args.table.now c.args.markers.now c.args.users.now c.args.events c.args.e c.args.places.now c.args.kept.now c.requires.locating c.args.b c.requires.t (sym c.is_persistent.ensures ∙ c.if-is_persistent.false) c.base-first.ensures
