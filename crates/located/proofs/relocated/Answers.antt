-- `located::relocated` meets its contract.
use native.Mathlib.Omega.{arith}
use Rattle.table.specs.Decoded.{net_of}
use Rattle.decided.specs.Kept.{marker_at}
use Rattle.located.proofs.Placed.{lacked_fits, met_fits}
use Rattle.located.proofs.Answers.{names_lacked, names_met, unknown_there, lacked_there, met_there}
use Rattle.located.proofs.relocated.Goals as goal

pub lacked-k-requires : goal.lacked-k-requires
lacked-k-requires c =
    record {
      locating = c.requires.locating;
      t = names_lacked (net_of c.args.table.now) (marker_at (net_of c.args.table.now) c.args.places.now) c.args.e c.in-Lacks.is c.requires.named;
    }

pub overflow_cast-result : goal.overflow_cast-result
overflow_cast-result c =
    omega (arith, c.lacked-k.ensures, lacked_fits c.args.table.now c.args.markers.now c.args.users.now c.args.events c.args.e c.args.places.now c.args.kept.now c.requires.locating c.in-Lacks.b.0 (names_lacked (net_of c.args.table.now) (marker_at (net_of c.args.table.now) c.args.places.now) c.args.e c.in-Lacks.is c.requires.named))

pub met-k-requires : goal.met-k-requires
met-k-requires c =
    record {
      locating = c.requires.locating;
      t = names_met (net_of c.args.table.now) (marker_at (net_of c.args.table.now) c.args.places.now) c.args.e c.in-Meets.is c.requires.named;
    }

pub overflow_cast-result-in-Meets : goal.overflow_cast-result-in-Meets
overflow_cast-result-in-Meets c =
    omega (arith, c.met-k.ensures, met_fits c.args.table.now c.args.markers.now c.args.users.now c.args.events c.args.e c.args.places.now c.args.kept.now c.requires.locating c.in-Meets.b.0 (names_met (net_of c.args.table.now) (marker_at (net_of c.args.table.now) c.args.places.now) c.args.e c.in-Meets.is c.requires.named))

pub returns-in-Unknown : goal.returns-in-Unknown
returns-in-Unknown c =
    unknown_there (net_of c.args.table.now) (marker_at (net_of c.args.table.now) c.args.places.now) c.args.e c.in-Unknown.is

pub returns-in-Lacks : goal.returns-in-Lacks
returns-in-Lacks c =
    lacked_there (net_of c.args.table.now) (marker_at (net_of c.args.table.now) c.args.places.now) c.args.e c.in-Lacks.is c.lacked-k.ensures

pub returns-in-Meets : goal.returns-in-Meets
returns-in-Meets c =
    met_there (net_of c.args.table.now) (marker_at (net_of c.args.table.now) c.args.places.now) c.args.e c.in-Meets.is c.met-k.ensures
