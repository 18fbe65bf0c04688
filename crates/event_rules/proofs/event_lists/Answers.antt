-- `event_rules::event_lists` meets its contract.
use Prim.Native.Nat.{◌+◌}
use Rattle.records.specs.Records.{part, front}
use mathlib.Core.Path.{◌∙◌, sym, ap}
use borrow.Author.Tests.{le-leb, lt-leb}
use Rattle.refusal.specs.Answer.{need}
use Rattle.event_rules.specs.EventRules.{lists_of}
use Rattle.event_rules.proofs.Few.{few_in}
use Rattle.event_rules.proofs.event_lists.Goals as goal

pub returns-then-not-ascends : goal.returns-then-not-ascends
unfolding lists_of need
returns-then-not-ascends c =
    c.refused.ensures ∙ simp (← c.conditions-n.ensures, ← c.word-a.ensures, ← c.part_of-pre.ensures, ← c.ascends.ensures, c.if-not-ascends.true)

pub returns-then-not-ascends-2 : goal.returns-then-not-ascends-2
unfolding lists_of need
returns-then-not-ascends-2 c =
    c.refused-then-not-ascends-2.ensures ∙ simp (← c.conditions-n.ensures, ← c.word-a.ensures, ← c.word-z.ensures, ← c.part_of-pre.ensures, ← c.part_of.ensures, ← c.ascends.ensures, ← c.ascends-2.ensures, c.if-not-ascends.false, c.if-not-ascends-2.true)

pub returns-then-a-z-lt1 : goal.returns-then-a-z-lt1
unfolding lists_of need
returns-then-a-z-lt1 c =
    c.refused-then-a-z-lt1.ensures ∙ simp (← c.conditions-n.ensures, ← c.word-a.ensures, ← c.word-z.ensures, ← c.part_of-pre.ensures, ← c.part_of.ensures, ← c.ascends.ensures, ← c.ascends-2.ensures, c.if-not-ascends.false, c.if-not-ascends-2.false, lt-leb _ _ c.if-a-z-lt1.true)

pub returns-then-a-le16 : goal.returns-then-a-le16
unfolding lists_of need
returns-then-a-le16 c =
    let s = c.args.s.now in
    let few = few_in (part s (front s + 4) c.conditions-n.result) s (c.args.at + 8) c.word-a.result c.if-a-le16.true in
    simp (← c.conditions-n.ensures, ← c.word-a.ensures, ← c.word-z.ensures, few, ← c.part_of-pre.ensures, ← c.part_of.ensures, ← c.ascends.ensures, ← c.ascends-2.ensures, c.if-not-ascends.false, c.if-not-ascends-2.false, le-leb _ _ c.if-a-z-lt1.false)

pub returns-then-held-gt16 : goal.returns-then-held-gt16
unfolding lists_of need
returns-then-held-gt16 c =
    let s = c.args.s.now in
    let kept = c.flags.ensures ∙ ap (part s (front s + 4)) (sym c.conditions-n.ensures) in
    c.refused-then-held-gt16.ensures ∙ simp (← kept, ← c.conditions-n.ensures, ← c.word-a.ensures, ← c.word-z.ensures, ← c.part_of-pre.ensures, ← c.part_of.ensures, ← c.ascends.ensures, ← c.ascends-2.ensures, ← c.count_in-held.ensures, c.if-not-ascends.false, c.if-not-ascends-2.false, le-leb _ _ c.if-a-z-lt1.false, lt-leb _ _ c.if-held-gt16.true)

pub returns : goal.returns
unfolding lists_of need
returns c =
    let s = c.args.s.now in
    let kept = c.flags.ensures ∙ ap (part s (front s + 4)) (sym c.conditions-n.ensures) in
    simp (← kept, ← c.conditions-n.ensures, ← c.word-a.ensures, ← c.word-z.ensures, ← c.part_of-pre.ensures, ← c.part_of.ensures, ← c.ascends.ensures, ← c.ascends-2.ensures, ← c.count_in-held.ensures, c.if-not-ascends.false, c.if-not-ascends-2.false, le-leb _ _ c.if-a-z-lt1.false, le-leb _ _ c.if-held-gt16.false)
