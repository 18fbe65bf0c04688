-- `elements::element_count` meets its contract.
use mathlib.Core.Path.{◌≡◌, ◌∙◌}
use Rattle.std.proofs.Common.{rules}
use Rattle.elements.proofs.Answers.{laid_unfolds, count_refused, count_fine}
use Rattle.elements.proofs.element_count.Goals as goal

pub returns-in_err-events : goal.returns-in_err-events
returns-in_err-events c =
    let same : c.from_residual.result ≡ c.lay_out.result = search rules in
    same ∙ count_refused c.args.table.now c.lay_out.ensures.answer c.in_err-events.was

pub count_elements-requires : goal.count_elements-requires
count_elements-requires c =
    laid_unfolds _ _ _ _ c.lay_out.ensures c.in_ok-events.events c.in_ok-events.was

pub returns : goal.returns
returns c =
    count_fine c.args.table.now (laid_unfolds _ _ _ _ c.lay_out.ensures c.in_ok-events.events c.in_ok-events.was).unfolds c.count_elements.result c.count_elements.ensures
