-- `elements::element` meets its contract.
use Rattle.std.proofs.Common.{rules}
use Rattle.std.specs.Prelude.{Err}
use mathlib.Core.Path.{◌≡◌, ◌∙◌, sym, ap}
use Rattle.elements.specs.Needs.{events_in}
use Rattle.elements.proofs.Answers.{element_refused, element_kept, element_told, element_left}
use Rattle.elements.proofs.element.Goals as goal

pub returns-in_err-opened : goal.returns-in_err-opened
returns-in_err-opened c =
    let told : c.from_residual.result ≡ Err c.in_err-opened.field-0.0 = search rules in
    let opened = ap events_in c.in_err-opened.was in
    let t = told ∙ sym opened ∙ element_refused c.args.table.now c.args.i c.args.out.now c.open.ensures.told opened in
    record {
      answer = t;
      after = element_kept c.args.table.now c.args.i c.args.out.now t told;
    }

pub element_in-requires : goal.element_in-requires
element_in-requires c =
    c.open.ensures.ready _ c.in_ok-opened.was

pub returns : goal.returns
returns c =
    let t = element_told c.args.table.now c.args.i c.args.out.now (c.open.ensures.ready _ c.in_ok-opened.was).numbered.table.unfolds c.element_in.result c.element_in.ensures.answer in
    record {
      answer = t;
      after = element_left c.args.table.now c.args.i c.args.out.now c.element_in.result t _ c.element_in.ensures.after;
    }
