-- One step on a lent marking: which conditions stop it, what it answers and what it writes.
use Rattle.std.specs.Prelude.{cond, List, [], ◌∷◌, ℕ, eqb, get_or, set, None, Some, Option as Found}
use Rattle.std.proofs.Math.Option.{Option, none, some}
use Rattle.model.specs.Net.{Net, Stop}
use Rattle.refusal.specs.declared.TableCondition.{TableCondition}
use Rattle.words.specs.Words.{words}
use Rattle.records.specs.Records.{old_rule, conditions, flags, pre_part, post_part}

-- ---- the first condition that fails

-- The first condition that fails, if one does.
abbrev pub Failing : Type 0
Failing = Found TableCondition

-- The first condition that fails, as an answer.
abbrev pub failing_of : Option ℕ → Failing
failing_of none = None
failing_of (some b) = Some (record { 0 = b })

-- ---- conditions written into a marking

-- One condition gets a byte, unless it is kept.
abbrev pub set_one : List ℕ → ℕ → ℕ → List ℕ → List ℕ
set_one kept v b l = cond (eqb (get_or kept b 0) 1) l (set l b v)

-- Each condition of a list in turn gets a byte, unless it is kept.
unfoldable pub set_all : List ℕ → ℕ → List ℕ → List ℕ → List ℕ
set_all kept v [] l = l
set_all kept v (b ∷ bs) l = set_all kept v bs (set_one kept v b l)

-- ---- one step

-- The net that has one event alone, with two lists of conditions that stand in bytes (01, Table records).
unfoldable pub lists_net : List ℕ → List ℕ → List ℕ → Net
lists_net s pre post = record {
  conditions = conditions s;
  persistent = λ b. eqb (get_or (flags s) b 0) 1;
  old = λ b. old_rule s;
  events = 1;
  preconditions = λ e. words pre;
  postconditions = λ e. words post;
  start = [];
}

-- The net of the event whose record stands at an offset (01, Table records).
unfoldable pub record_net : List ℕ → ℕ → Net
unfolding lists_net
record_net s at = lists_net s (pre_part s at) (post_part s at)

-- The bytes after a step: the new ones where it goes, else the old (01, Refusal numbers).
abbrev pub stepped : Option Stop → List ℕ → List ℕ → List ℕ
stepped none new old = new
stepped (some v) new old = old
