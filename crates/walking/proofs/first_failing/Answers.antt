-- `walking::first_failing` meets its contract.
use native.Mathlib.Omega.{arith}
use mathlib.Core.Path.{◌∙◌, sym, ap}
use mathlib.Core.Bool.{Bool}
use mathlib.Core.List.{List}
use Prim.Native.Nat.{ℕ, ◌+◌}
use lib.ListN.{get_or}
use Rattle.lists.specs.Lists.{failing}
use Rattle.model.specs.Unfolding.{basic}
use Rattle.model.specs.Lent.{marking}
use Rattle.table.specs.Decoded.{net_of}
use Rattle.segments.specs.Ranges.{ranged}
use Rattle.segments.proofs.Ranged.{ranged_whole, ranged_end, first_there, others_there}
use Rattle.walking.specs.Steps.{passes_of, failing_of}
use Rattle.walking.proofs.Ranging.{none_found, one_found}
use Rattle.walking.proofs.first_failing.Goals as goal

pub loop-i-init : goal.loop-i-init
loop-i-init c =
    let taken = ranged c.args.starts.now c.args.sizes.now c.args.ranges in
    let test : ℕ → Bool = passes_of c.args.contact (marking c.args.state.now) taken (basic (net_of c.args.table.now)).old in
    let w = ranged_whole c.args.firsts.now c.args.widths.now c.args.all in
    (λ b t. c.requires.below_2.each b (rw w at t), ap (λ (l : List ℕ). failing test l) w)

pub bounds-firsts-i : goal.bounds-firsts-i
bounds-firsts-i c =
    omega (arith, c.requires.below_2.kept.in_starts)

pub bounds-widths-i : goal.bounds-widths-i
bounds-widths-i c =
    omega (arith, c.requires.below_2.kept.in_sizes)

pub first_in-requires : goal.first_in-requires
first_in-requires c =
    let there = first_there c.args.firsts.now c.args.widths.now c.loop-i.i c.args.all (omega arith) in
    record {
      summed = c.requires.summed;
      below = c.requires.below;
      below_in = λ d l. c.loop-i.invariant.0 (get_or c.args.firsts.now c.loop-i.i 0 + d) (there d l);
    }

pub returns-in-Some : goal.returns-in-Some
returns-in-Some c =
    let taken = ranged c.args.starts.now c.args.sizes.now c.args.ranges in
    let test : ℕ → Bool = passes_of c.args.contact (marking c.args.state.now) taken (basic (net_of c.args.table.now)).old in
    let one = one_found test c.args.firsts.now c.args.widths.now c.loop-i.i c.args.all (omega arith) c.first_in.result c.first_in.ensures c.in-Some.is in
    sym c.in-Some.is ∙ one ∙ ap failing_of c.loop-i.invariant.1

pub loop-i-preserved : goal.loop-i-preserved
loop-i-preserved c =
    let taken = ranged c.args.starts.now c.args.sizes.now c.args.ranges in
    let test : ℕ → Bool = passes_of c.args.contact (marking c.args.state.now) taken (basic (net_of c.args.table.now)).old in
    let none = none_found test c.args.firsts.now c.args.widths.now c.loop-i.i c.args.all (omega arith) c.first_in.result c.first_in.ensures c.in_default.is in
    let others = others_there c.args.firsts.now c.args.widths.now c.loop-i.i c.args.all (omega arith) in
    (λ b t. c.loop-i.invariant.0 b (others b t), sym none ∙ c.loop-i.invariant.1)

pub returns : goal.returns
returns c =
    let taken = ranged c.args.starts.now c.args.sizes.now c.args.ranges in
    let test : ℕ → Bool = passes_of c.args.contact (marking c.args.state.now) taken (basic (net_of c.args.table.now)).old in
    let end = ranged_end c.args.firsts.now c.args.widths.now c.loop-i.i c.args.all (omega arith) in
    sym (ap failing_of (sym c.loop-i.invariant.1 ∙ ap (λ (l : List ℕ). failing test l) end))
