-- `losses::is_lossy` meets its contract.
use mathlib.Core.Path.{◌∙◌, sym, ap}
use mathlib.Core.Bool.{Bool, ◌&&◌}
use borrow.Author.Tests.{eq-eqb, ne_eqb}
use Rattle.words.specs.Words.{words}
use Rattle.losses.specs.Tests.{recurs_at}
use Rattle.losses.proofs.is_lossy.Goals as goal

pub returns-then-once-eq1 : goal.returns-then-once-eq1
returns-then-once-eq1 c =
    let args = c.args in
    let again = recurs_at args.table.now args.puts.now (words args.pre.now) (words args.post.now) in
    c.recurs.ensures ∙ sym (ap (λ (t : Bool). t && again) (eq-eqb args.once 1 c.if-once-eq1.true))

pub returns : goal.returns
returns c =
    let args = c.args in
    let again = recurs_at args.table.now args.puts.now (words args.pre.now) (words args.post.now) in
    sym (ap (λ (t : Bool). t && again) (ne_eqb args.once 1 c.if-once-eq1.false))
