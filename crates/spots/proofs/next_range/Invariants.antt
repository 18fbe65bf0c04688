-- What each turn of a loop in `spots::next_range` keeps.
use mathlib.Core.Path.{◌≡◌}
use Rattle.spots.specs.Spots.{sizes_before}
use Rattle.spots.proofs.next_range.Given as goal

abbrev pub invariant-loop-range : goal.invariant-loop-range
invariant-loop-range l = sizes_before l.sizes l.range ≡ sizes_before l.sizes l.from
