-- `events::coloured` meets its contract.
use native.Mathlib.Omega.{arith}
use mathlib.Core.Path.{◌≡◌, ap, sym, ◌∙◌}
use Rattle.events.specs.declared.Colour.{Colour}
use Rattle.events.specs.Numbers.{told_by}
use Rattle.events.proofs.Codes.{told_none, told_count, told_more}
use Rattle.events.proofs.coloured.Goals as goal

pub loop-i-init : goal.loop-i-init
loop-i-init c = (c.no_colour-c.ensures ∙ told_none c.args.codes.now, omega arith)

pub bounds-codes-i : goal.bounds-codes-i
bounds-codes-i c =
    omega (arith, c.requires.codes_len, c.requires.count_bound, c.loop-i-test.true)

pub pushed-c-requires : goal.pushed-c-requires
pushed-c-requires c =
    let long = c.requires.codes_len in
    let few = c.requires.count_bound in
    let told = ap (λ (x : Colour). x.count) c.loop-i.invariant.0 in
    omega (arith, told_count c.args.codes.now c.loop-i.i (omega (arith, c.loop-i-test.true)))

pub loop-i-preserved : goal.loop-i-preserved
loop-i-preserved c =
    let long = c.requires.codes_len in
    let few = c.requires.count_bound in
    let more = told_more c.args.codes.now c.loop-i.i (omega (arith, c.loop-i-test.true)) in
    (c.pushed-c.ensures ∙ rw (c.marker_of.ensures, c.loop-i.invariant.0) (sym more), omega (arith, c.loop-i-test.true))

pub returns : goal.returns
returns c =
    let all : c.loop-i.i ≡ c.args.count = omega (arith, c.loop-i.invariant.1, c.loop-i-test.false) in
    c.loop-i.invariant.0 ∙ ap (told_by c.args.codes.now) all
