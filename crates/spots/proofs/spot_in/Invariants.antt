-- What each turn of a loop in `spots::spot_in` keeps.
use Prim.Native.Nat.{◌+◌}
use mathlib.Core.Path.{◌≡◌}
use Rattle.spots.specs.Spots.{sizes_before}
use Rattle.spots.proofs.spot_in.Given as goal

abbrev pub invariant-loop-range : goal.invariant-loop-range
invariant-loop-range l = l.reached.before + (sizes_before l.sizes l.range + l.left) ≡ l.wanted
