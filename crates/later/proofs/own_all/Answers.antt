-- `later::own_all` meets its contract.
use native.Mathlib.Omega.{arith}
use mathlib.Core.Path.{◌∙◌, sym}
use Rattle.words.specs.Words.{words}
use Rattle.tally.proofs.Lists.{first_inside, rest_inside}
use Rattle.later.proofs.Owning.{own_set, own_kept, own_next, own_end}
use Rattle.later.proofs.own_all.Goals as goal

pub offset_bounds-next-b : goal.offset_bounds-next-b
offset_bounds-next-b c =
    omega (arith, c.from-b.ensures, first_inside _ _ _ c.in-Some.ensures.steps _ c.loop-b.invariant.0)

pub bounds-next-b : goal.bounds-next-b
bounds-next-b c =
    omega (arith, c.from-b.ensures, first_inside _ _ _ c.in-Some.ensures.steps _ c.loop-b.invariant.0)

pub loop-b-preserved-then-only_user : goal.loop-b-preserved-then-only_user
loop-b-preserved-then-only_user c =
    let first = rw (← c.from-b.ensures) at c.in-Some.ensures.steps in
    let test = sym c.only_user.ensures ∙ c.if-only_user.true in
    let now = own_set c.args.table.now c.args.users.now (words c.args.pre.now) c.args.e c.loop-b.next.slots _ test in
    (rest_inside _ _ _ first _ c.loop-b.invariant.0, own_next _ _ _ _ _ _ _ first _ now ∙ c.loop-b.invariant.1)

pub loop-b-preserved : goal.loop-b-preserved
loop-b-preserved c =
    let first = rw (← c.from-b.ensures) at c.in-Some.ensures.steps in
    let test = sym c.only_user.ensures ∙ c.if-only_user.false in
    let now = own_kept c.args.table.now c.args.users.now (words c.args.pre.now) c.args.e c.loop-b.next.slots _ test in
    (rest_inside _ _ _ first _ c.loop-b.invariant.0, own_next _ _ _ _ _ _ _ first _ now ∙ c.loop-b.invariant.1)

pub returns : goal.returns
returns c =
    sym (own_end c.args.table.now c.args.users.now (words c.args.pre.now) c.args.e _ c.in-None.ensures.steps.0 _) ∙ c.loop-b.invariant.1
