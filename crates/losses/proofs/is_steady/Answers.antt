-- `losses::is_steady` meets its contract.
use mathlib.Core.Path.{◌∙◌, sym}
use Rattle.words.specs.Words.{words}
use Rattle.losses.proofs.Steps.{steady_taken, steady_put}
use Rattle.losses.proofs.is_steady.Goals as goal

pub returns-then-ordinary_in : goal.returns-then-ordinary_in
returns-then-ordinary_in c =
    let args = c.args in
    let taken = sym c.ordinary_in.ensures ∙ c.if-ordinary_in.true in
    c.ordinary_in-then-ordinary_in.ensures ∙ steady_put args.table.now (words args.pre.now) (words args.post.now) taken

pub returns : goal.returns
returns c =
    let args = c.args in
    let taken = sym c.ordinary_in.ensures ∙ c.if-ordinary_in.false in
    steady_taken args.table.now (words args.pre.now) (words args.post.now) taken
