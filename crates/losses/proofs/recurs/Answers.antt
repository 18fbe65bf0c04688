-- `losses::recurs` meets its contract.
use mathlib.Core.Path.{◌∙◌, sym}
use Rattle.words.specs.Words.{words}
use Rattle.losses.proofs.Steps.{steady_stops, spending_stops, may_recur}
use Rattle.losses.proofs.recurs.Goals as goal

pub returns-then-is_steady : goal.returns-then-is_steady
returns-then-is_steady c =
    let args = c.args in
    let steady = sym c.is_steady.ensures ∙ c.if-is_steady.true in
    steady_stops args.table.now args.puts.now (words args.pre.now) (words args.post.now) steady

pub returns-then-spends : goal.returns-then-spends
returns-then-spends c =
    let args = c.args in
    let steady = sym c.is_steady.ensures ∙ c.if-is_steady.false in
    let spending = sym c.spends.ensures ∙ c.if-spends.true in
    spending_stops args.table.now args.puts.now (words args.pre.now) (words args.post.now) steady spending

pub returns : goal.returns
returns c =
    let args = c.args in
    let steady = sym c.is_steady.ensures ∙ c.if-is_steady.false in
    let spending = sym c.spends.ensures ∙ c.if-spends.false in
    may_recur args.table.now args.puts.now (words args.pre.now) (words args.post.now) steady spending
