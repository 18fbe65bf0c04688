-- `step::move_at` meets its contract.
use Rattle.std.proofs.Common.{rules}
use Rattle.std.specs.Prelude.{Err}
use mathlib.Core.Path.{◌≡◌, ◌∙◌, ap}
use mathlib.Core.Bool.{not, ◌&&◌}
use Prim.Native.Nat.{ℕ}
use Rattle.model.specs.Net.{Net, Marking, fire}
use Rattle.held.specs.Held.{held_in}
use Rattle.step.specs.Steps.{record_net}
use Rattle.step.proofs.Tests.{tested, fired, record_listed, record_is, record_told, move_stops, move_goes}
use Rattle.step.proofs.move_at.Goals as goal

pub returns-in_err-told : goal.returns-in_err-told
returns-in_err-told c =
    let s = c.args.table.now in
    let at = c.args.at in
    let pre = c.collect-pre.ensures in
    let post = c.collect-post.ensures in
    let touched = c.touched-touched.ensures in
    let listed = record_listed s at _ _ c.pre_at.ensures.reads c.post_at.ensures.reads c.requires.0 in
    let meeting = c.without-2.ensures ∙ ap {B = Marking} (λ (v : Marking) (b : ℕ). held_in c.touched-touched.result b && not (v b)) c.requires.1 in
    let lacking = c.first-lacking.ensures in
    let answer = tested _ _ _ listed _ _ _ _ pre post c.old_rule.ensures _ touched _ _ _ c.told.ensures _ c.without.ensures lacking _ meeting c.first.ensures in
    let told = record_told s at _ _ c.pre_at.ensures.reads c.post_at.ensures.reads _ _ answer in
    let stops : c.from_residual.result ≡ Err c.in_err-told.field-0.0 = search rules in
    rw stops (move_stops (record_net s at) (held_in c.args.held) _ told _ c.in_err-told.was)

pub returns : goal.returns
returns c =
    let s = c.args.table.now in
    let at = c.args.at in
    let pre = c.collect-pre.ensures in
    let post = c.collect-post.ensures in
    let touched = c.touched-touched.ensures in
    let listed = record_listed s at _ _ c.pre_at.ensures.reads c.post_at.ensures.reads c.requires.0 in
    let meeting = c.without-2.ensures ∙ ap {B = Marking} (λ (v : Marking) (b : ℕ). held_in c.touched-touched.result b && not (v b)) c.requires.1 in
    let lacking = c.first-lacking.ensures in
    let answer = tested _ _ _ listed _ _ _ _ pre post c.old_rule.ensures _ touched _ _ _ c.told.ensures _ c.without.ensures lacking _ meeting c.first.ensures in
    let told = record_told s at _ _ c.pre_at.ensures.reads c.post_at.ensures.reads _ _ answer in
    let left = fired _ _ _ listed _ _ _ _ pre post c.old_rule.ensures _ touched (search (rules, c.well_formed.1.1.1.0)) _ _ _ _ c.requires.1 c.without-taken.ensures c.without-3.ensures c.either.ensures in
    let new = left ∙ ap (λ (n : Net). fire n (held_in c.args.held) 0) (record_is s at _ _ c.pre_at.ensures.reads c.post_at.ensures.reads) in
    move_goes (record_net s at) (held_in c.args.held) _ told c.in_ok-told.was _ new
