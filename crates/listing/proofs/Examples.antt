-- The document's example and one with a Rule record, computed by the definition.
use mathlib.Core.Path.{◌≡◌, refl}
use mathlib.Core.List.{List, [], ◌∷◌}
use Prim.Native.Nat.{ℕ}
use Rattle.model.specs.Net.{begin, fire}
use Rattle.model.specs.Runs.{end}
use Rattle.model.specs.Unfolding.{basic}
use Rattle.model.specs.Across.{lift}
use Rattle.model.specs.Examples.{net, one, two, three, four, net_a}
use Rattle.lists.specs.Lists.{fits}
use Rattle.refusal.specs.Answer.{need, fitting}
use Rattle.words.specs.Words.{words, bits, count_in}
use Rattle.records.specs.Records.{header_of, old_rule, front}
use Rattle.rules.specs.Rules.{rule_of, conditions_of, marking_of}
use Rattle.event_rules.specs.EventRules.{lists_of, event_of}
use Rattle.table.specs.Walk.{events_from, judge_of, offset_from}
use Rattle.table.specs.Decoded.{net_of}
use Rattle.runs.specs.Runs.{steps_in, read_answer}
use Rattle.listing.specs.Calls.{files_of}
use Rattle.spelling.specs.Decimal.{decimal}
use Rattle.listing.specs.Text.{commas, listed, holding, start_line, step_line, end_line, by_words, refused_line}
use Rattle.listing.specs.Whole.{step_lines, lines_of, lifted_lines, judged_lines, listing_of}

-- What is written for net A and the run 0, 1, 2, 1 (01, Nets to test with: Listing).
abbrev listing : List ℕ
listing = 115 ∷ 116 ∷ 97 ∷ 114 ∷ 116 ∷ 32 ∷ 48 ∷ 10 ∷ 48 ∷ 32 ∷ 48 ∷ 32 ∷ 48 ∷ 32 ∷ 49 ∷ 44 ∷ 50 ∷ 10 ∷ 49 ∷ 32 ∷ 49 ∷ 32 ∷ 50 ∷ 32 ∷ 50 ∷ 44 ∷ 51 ∷ 10 ∷ 50 ∷ 32 ∷ 50 ∷ 32 ∷ 51 ∷ 32 ∷ 49 ∷ 44 ∷ 50 ∷ 10 ∷ 51 ∷ 32 ∷ 49 ∷ 32 ∷ 50 ∷ 32 ∷ 50 ∷ 44 ∷ 51 ∷ 10 ∷ 101 ∷ 110 ∷ 100 ∷ 32 ∷ 117 ∷ 110 ∷ 102 ∷ 111 ∷ 108 ∷ 100 ∷ 101 ∷ 100 ∷ 32 ∷ 51 ∷ 44 ∷ 52 ∷ 10 ∷ []

-- The net and the run (01, Nets to test with: Listing).
pub document_example : lifted_lines (net_a (0 ∷ [])) (0 ∷ 1 ∷ 2 ∷ 1 ∷ []) (lift (net_a (0 ∷ [])) (0 ∷ 1 ∷ 2 ∷ 1 ∷ [])) ≡ listing
unfolding lifted_lines lines_of step_lines start_line step_line end_line listed commas decimal holding begin fire end basic lift net one two three four net_a
document_example = refl

-- A run that is stopped: 0, 1, 1 at its step 2, where condition 1 does not hold (02, No. 2).
abbrev stopped : List ℕ
stopped = 114 ∷ 101 ∷ 102 ∷ 117 ∷ 115 ∷ 101 ∷ 100 ∷ 32 ∷ 49 ∷ 49 ∷ 32 ∷ 97 ∷ 116 ∷ 32 ∷ 50 ∷ 32 ∷ 98 ∷ 121 ∷ 32 ∷ 49 ∷ 10 ∷ []

pub stopped_example : lifted_lines (net_a (0 ∷ [])) (0 ∷ 1 ∷ 1 ∷ []) (lift (net_a (0 ∷ [])) (0 ∷ 1 ∷ 1 ∷ [])) ≡ stopped
unfolding lifted_lines refused_line by_words decimal begin fire basic lift net one two three four net_a
stopped_example = refl

-- ---- the bytes of the two files

abbrev net_bytes : List ℕ
net_bytes = 4 ∷ 0 ∷ 1 ∷ 0 ∷ 0 ∷ 0 ∷ 1 ∷ 0 ∷ 10 ∷ 0 ∷ 2 ∷ 0 ∷ 1 ∷ 0 ∷ 2 ∷ 0 ∷ 0 ∷ 0 ∷ 1 ∷ 0 ∷ 2 ∷ 0 ∷ 10 ∷ 0 ∷ 2 ∷ 0 ∷ 2 ∷ 0 ∷ 1 ∷ 0 ∷ 1 ∷ 0 ∷ 2 ∷ 0 ∷ 3 ∷ 0 ∷ 8 ∷ 0 ∷ 2 ∷ 0 ∷ 1 ∷ 0 ∷ 1 ∷ 0 ∷ 3 ∷ 0 ∷ 1 ∷ 0 ∷ 2 ∷ 0 ∷ 3 ∷ 0 ∷ 0 ∷ 0 ∷ []

abbrev run_bytes : List ℕ
run_bytes = 8 ∷ 0 ∷ 4 ∷ 0 ∷ 0 ∷ 0 ∷ 1 ∷ 0 ∷ 2 ∷ 0 ∷ 1 ∷ 0 ∷ []

pub file_example : listing_of net_bytes run_bytes ≡ listing
unfolding listing_of judged_lines files_of need judge_of rule_of front conditions_of events_from event_of lists_of marking_of header_of fits words bits count_in read_answer steps_in fitting net_of old_rule offset_from lifted_lines lines_of step_lines start_line step_line end_line listed commas decimal holding begin fire end basic lift
file_example = refl

-- ---- a Rule record before one ordinary condition that holds, and one event that takes it and puts it

abbrev ruled_bytes : ℕ → List ℕ
ruled_bytes rule = 1 ∷ 0 ∷ 6 ∷ 0 ∷ rule ∷ 1 ∷ 0 ∷ 1 ∷ 0 ∷ 0 ∷ 8 ∷ 0 ∷ 2 ∷ 0 ∷ 1 ∷ 0 ∷ 1 ∷ 0 ∷ 0 ∷ 0 ∷ 0 ∷ 0 ∷ 2 ∷ 0 ∷ 3 ∷ 0 ∷ 0 ∷ 0 ∷ []

abbrev once_bytes : List ℕ
once_bytes = 2 ∷ 0 ∷ 4 ∷ 0 ∷ 0 ∷ 0 ∷ []

-- At rule 0 the event goes (02, No. 4).
abbrev gone : List ℕ
gone = 115 ∷ 116 ∷ 97 ∷ 114 ∷ 116 ∷ 32 ∷ 48 ∷ 10 ∷ 48 ∷ 32 ∷ 48 ∷ 32 ∷ 48 ∷ 32 ∷ 48 ∷ 10 ∷ 101 ∷ 110 ∷ 100 ∷ 32 ∷ 117 ∷ 110 ∷ 102 ∷ 111 ∷ 108 ∷ 100 ∷ 101 ∷ 100 ∷ 32 ∷ 48 ∷ 10 ∷ []

pub rule_example : listing_of (ruled_bytes 0) once_bytes ≡ gone
unfolding listing_of judged_lines files_of need judge_of rule_of front conditions_of events_from event_of lists_of marking_of header_of fits words bits count_in read_answer steps_in fitting net_of old_rule offset_from lifted_lines lines_of step_lines start_line step_line end_line listed commas decimal holding begin fire end basic lift
rule_example = refl

-- At rule 1 the condition is in contact (02, No. 4).
abbrev met : List ℕ
met = 114 ∷ 101 ∷ 102 ∷ 117 ∷ 115 ∷ 101 ∷ 100 ∷ 32 ∷ 49 ∷ 50 ∷ 32 ∷ 97 ∷ 116 ∷ 32 ∷ 48 ∷ 32 ∷ 98 ∷ 121 ∷ 32 ∷ 48 ∷ 10 ∷ []

pub old_rule_example : listing_of (ruled_bytes 1) once_bytes ≡ met
unfolding listing_of judged_lines files_of need judge_of rule_of front conditions_of events_from event_of lists_of marking_of header_of fits words bits count_in read_answer steps_in fitting net_of old_rule offset_from lifted_lines refused_line by_words decimal begin fire basic lift
old_rule_example = refl
