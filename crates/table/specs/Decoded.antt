-- The net that a table's bytes say.
use Rattle.std.specs.Prelude.{ℕ, List, [], false, cond, ltb, eqb, get_or, Ok, Err}
use Rattle.model.specs.Net.{Net}
use Rattle.words.specs.Words.{words}
use Rattle.refusal.specs.Answer.{Judged}
use Rattle.records.specs.Records.{old_rule, conditions, flags, pre_part, post_part, marking_part}
use Rattle.table.specs.Walk.{judge_of, offset_of}

-- The net of an accepted table, read straight from its bytes; a refused table is a net of nothing (01, Table records; 02, No. 4).
abbrev pub net_if : Judged → List ℕ → Net
net_if (Ok n) s = record {
  conditions = conditions s;
  persistent = λ b. eqb (get_or (flags s) b 0) 1;
  old = λ b. old_rule s;
  events = n;
  preconditions = λ e. words (pre_part s (offset_of s e));
  postconditions = λ e. words (post_part s (offset_of s e));
  start = words (marking_part s (offset_of s n));
}
net_if (Err refusal) s = record { conditions = 0; persistent = λ b. false; old = λ b. false; events = 0; preconditions = λ e. []; postconditions = λ e. []; start = [] }

-- The net of a table, by how the table is judged.
unfoldable pub net_of : List ℕ → Net
net_of s = net_if (judge_of s) s

-- The list of event e of a net, none where the net has no such event.
abbrev pub list_of : Net → (ℕ → List ℕ) → ℕ → List ℕ
list_of n lists e = cond (ltb e n.events) (lists e) []
