-- A net without places and transitions is exported in two elements: all that opens, and all that closes.
use mathlib.Core.Path.{◌≡◌, refl}
use mathlib.Core.List.{◌++◌}
use Rattle.lists.specs.Lists.{fits}
use Rattle.model.specs.Net.{begin}
use Rattle.model.specs.Unfolding.{basic}
use Rattle.model.specs.Across.{unfolding_refused}
use Rattle.std.specs.Prelude.{Ok}
use Rattle.refusal.specs.Answer.{need}
use Rattle.words.specs.Words.{words, bits}
use Rattle.records.specs.Records.{header_of, old_rule, front}
use Rattle.rules.specs.Rules.{rule_of, conditions_of, marking_of}
use Rattle.table.specs.Walk.{events_from, judge_of, offset_from}
use Rattle.table.specs.Decoded.{net_of}
use Rattle.layout.specs.Unfolds.{unfolding_of}
use Rattle.doubled.specs.Doubling.{doubled}
use Rattle.pnml.specs.Elements.{numbered, elements}
use Rattle.pnml.specs.Text.{opens_text, closes_text, text_of}
use Rattle.arcs.specs.Arcs.{exported}
use Rattle.elements.specs.Calls.{elements_of, element_count_of}
use Rattle.elements.specs.Whole.{export_of}
use Rattle.worked.specs.Tables.{table_unused}

-- (02, No. 1)
pub unused_exported : (element_count_of table_unused ≡ Ok 2) × (export_of table_unused ≡ opens_text ++ closes_text)
unfolding
    judge_of rule_of front conditions_of events_from marking_of header_of fits words bits net_of old_rule offset_from need basic begin unfolding_refused
    unfolding_of doubled exported numbered elements text_of elements_of element_count_of export_of
unused_exported = (refl, refl)
