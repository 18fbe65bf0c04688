-- `across::event_of` meets its contract.
use native.Mathlib.Omega.{arith}
use Prim.Native.Nat.{◌+◌}
use mathlib.Core.Path.{◌≡◌}
use Rattle.across.proofs.event_of.Goals as goal

pub returns : goal.returns
returns c =
    let z : c.loop-high.high ≡ c.loop-high.low + 1 = omega arith in
    record { event = omega arith; from = c.loop-high.invariant.0.from; to = rw z at c.loop-high.invariant.0.to }
