-- What each turn of a loop in `copies::write_first` keeps.
use mathlib.Core.Bool.{Bool}
use Prim.Native.Nat.{ℕ}
use Rattle.held.specs.Held.{held_in}
use Rattle.table.specs.Decoded.{net_of}
use Rattle.copies.specs.Writing.{Right, own_below}
use Rattle.copies.proofs.write_first.Given as goal

abbrev pub invariant-loop-b : goal.invariant-loop-b
invariant-loop-b l = (seen : ℕ → Bool) → Right (net_of l.table) (held_in l.held) seen (own_below l.b) l.initial.out l.out
