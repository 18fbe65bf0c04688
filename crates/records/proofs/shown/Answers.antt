-- `records::shown` meets its contract.
use mathlib.Core.Path.{refl, sym}
use native.Mathlib.Omega.{arith}
use Rattle.records.proofs.Parts.{part_none, part_in, part_rest, place_in_lem, place_out}
use Rattle.records.proofs.shown.Goals as goal

pub returns-then-s-a : goal.returns-then-s-a
returns-then-s-a c =
    let s = c.args.s.now in
    let a = c.args.a in
    record { reads = sym (part_none s a c.args.k (omega arith)); within = refl; begins = omega (arith, place_out s a c.if-s-a.true) }

pub returns-then-k-s : goal.returns-then-k-s
returns-then-k-s c =
    let s = c.args.s.now in
    let a = c.args.a in
    record { reads = part_in s a c.args.k; within = refl; begins = omega (arith, place_in_lem s a c.if-s-a.false) }

pub returns-else-k-s : goal.returns-else-k-s
returns-else-k-s c =
    let s = c.args.s.now in
    let a = c.args.a in
    record { reads = part_rest s a c.args.k (omega arith); within = refl; begins = omega (arith, place_in_lem s a c.if-s-a.false) }
