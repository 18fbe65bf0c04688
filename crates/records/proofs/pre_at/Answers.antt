-- `records::pre_at` meets its contract.
use native.Mathlib.Omega.{arith}
use mathlib.Core.Path.{refl, ◌∙◌, sym, ap}
use Prim.Native.Nat.{ℕ, ◌+◌, ◌*◌}
use Rattle.records.specs.Records.{part, pre_count}
use Rattle.records.proofs.Parts.{part_none, place_out}
use Rattle.records.proofs.pre_at.Goals as goal

pub returns-then-s-at : goal.returns-then-s-at
returns-then-s-at c =
    let s = c.before.before.before.args.s.now in
    let at = c.before.before.before.args.at in
    record { reads = sym (part_none s (at + 8) (2 * pre_count s at) (omega arith)); within = refl; begins = omega (arith, place_out s (at + 8) (omega arith)) }

pub returns : goal.returns
returns c =
    let p = c.shown.ensures in
    record { reads = p.reads ∙ ap (λ (w : ℕ). part c.args.s.now (c.args.at + 8) (2 * w)) c.word-a.ensures; within = p.within; begins = p.begins }
