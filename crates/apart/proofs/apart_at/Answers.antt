-- `apart::apart_at` meets its contract.
use mathlib.Core.Path.{◌∙◌, sym, refl}
use mathlib.Core.Bool.{true, false}
use Rattle.records.specs.Records.{post_part}
use Rattle.held.specs.Held.{held_in}
use Rattle.apart.proofs.Premises.{never_itself, apart_by}
use Rattle.apart.proofs.apart_at.Goals as goal

pub returns-then-e-f : goal.returns-then-e-f
returns-then-e-f c =
    never_itself _ _ _ _ c.if-e-f.true

pub returns-then-not-all_pass : goal.returns-then-not-all_pass
returns-then-not-all_pass c =
    let s = c.args.table.now in
    apart_by s (held_in c.args.held) _ _ _ _ c.requires.0 c.requires.1 c.if-e-f.false _ _ (post_part s c.args.here) _ _ c.flags-flags.ensures c.pre_at.ensures.reads refl c.pre_at-pre.ensures.reads c.post_at-post.ensures.reads false _ _ _ (sym (c.if-not-all_pass.true) ∙ c.all_pass.ensures) refl refl refl

pub returns-then-not-all_pass-2 : goal.returns-then-not-all_pass-2
returns-then-not-all_pass-2 c =
    let s = c.args.table.now in
    apart_by s (held_in c.args.held) _ _ _ _ c.requires.0 c.requires.1 c.if-e-f.false _ _ _ _ _ c.flags-flags.ensures c.pre_at.ensures.reads c.post_at-put.ensures.reads c.pre_at-pre.ensures.reads c.post_at-post.ensures.reads true false _ _ (sym (c.if-not-all_pass.false) ∙ c.all_pass.ensures) (sym (c.if-not-all_pass-2.true) ∙ c.all_pass-2.ensures) refl refl

pub returns-then-not-all_pass-3 : goal.returns-then-not-all_pass-3
returns-then-not-all_pass-3 c =
    let s = c.args.table.now in
    apart_by s (held_in c.args.held) _ _ _ _ c.requires.0 c.requires.1 c.if-e-f.false _ _ _ _ _ c.flags-flags.ensures c.pre_at.ensures.reads c.post_at-put.ensures.reads c.pre_at-pre.ensures.reads c.post_at-post.ensures.reads true true false _ (sym (c.if-not-all_pass.false) ∙ c.all_pass.ensures) (sym (c.if-not-all_pass-2.false) ∙ c.all_pass-2.ensures) (sym (c.if-not-all_pass-3.true) ∙ c.all_pass-3.ensures) refl

pub returns : goal.returns
returns c =
    let s = c.args.table.now in
    apart_by s (held_in c.args.held) _ _ _ _ c.requires.0 c.requires.1 c.if-e-f.false _ _ _ _ _ c.flags-flags.ensures c.pre_at.ensures.reads c.post_at-put.ensures.reads c.pre_at-pre.ensures.reads c.post_at-post.ensures.reads true true true _ (sym (c.if-not-all_pass.false) ∙ c.all_pass.ensures) (sym (c.if-not-all_pass-2.false) ∙ c.all_pass-2.ensures) (sym (c.if-not-all_pass-3.false) ∙ c.all_pass-3.ensures) c.all_pass-4.ensures
