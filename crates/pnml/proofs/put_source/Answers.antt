-- The source is named by which way the arc goes.
use mathlib.Core.Path.{sym, ap}
use Rattle.pnml.specs.Text.{source_name}
use Rattle.spelling.proofs.Texts.{same_text}
use Rattle.pnml.proofs.put_source.Goals as goal

pub returns-in-Into : goal.returns-in-Into
returns-in-Into c =
    record {
      named = same_text (ap (source_name c.args.conditions) (sym c.in-Into.is)) c.put_place_name.ensures.named;
      near = c.put_place_name.ensures.near;
    }

pub returns-in-OutOf : goal.returns-in-OutOf
returns-in-OutOf c =
    record {
      named = same_text (ap (source_name c.args.conditions) (sym c.in-OutOf.is)) c.put_transition_name.ensures.named;
      near = c.put_transition_name.ensures.near;
    }
