-- `records::flags` meets its contract.
use Prim.Native.Nat.{ℕ, ◌+◌}
use native.Mathlib.Omega.{arith}
use mathlib.Core.Path.{◌∙◌, ap}
use Rattle.records.specs.Records.{part, front}
use Rattle.records.proofs.First.{front_low}
use Rattle.records.proofs.flags.Goals as goal

pub overflow_add-front : goal.overflow_add-front
overflow_add-front c =
    omega (arith, c.front.ensures, front_low c.args.s.now)

pub returns : goal.returns
returns c =
    let s = c.args.s.now in
    c.part_of.ensures ∙ ap (λ (at : ℕ). part s (at + 4) c.conditions.result) c.front.ensures ∙ ap (part s (front s + 4)) c.conditions.ensures
