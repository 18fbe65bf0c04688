-- `elements::put` meets its contract.
use Rattle.pnml.specs.Text.{text_of}
use Rattle.elements.proofs.Answers.{element_put}
use Rattle.elements.proofs.put.Goals as goal

pub returns : goal.returns
returns c =
    element_put (text_of c.args.conditions c.args.element) c.args.out.now c.write.result c.value_of.result c.write.new.out c.requires c.write.ensures.answer c.write.ensures.after c.value_of.ensures
