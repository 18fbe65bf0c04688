-- A net written as a table: the format the other way round.
use Rattle.std.specs.Prelude.{ℕ, zero, suc, ◌<◌, ◌≡◌, cond, List, [], ◌∷◌, ◌++◌, length}
use Rattle.model.specs.Net.{Net}
use Rattle.model.specs.Lent.{bytes}
use Rattle.words.specs.Words.{bytes_of}

-- A record: its payload's length, its kind, its payload (01, Table records).
abbrev pub framed : ℕ → List ℕ → List ℕ
framed kind payload = bytes_of (length payload ∷ kind ∷ []) ++ payload

-- The payload of event e: two counts, then the lists (01, Table records, kind 2).
abbrev pub event_payload : Net → ℕ → List ℕ
event_payload n e = bytes_of (length (n.preconditions e) ∷ length (n.postconditions e) ∷ []) ++ (bytes_of (n.preconditions e) ++ bytes_of (n.postconditions e))

-- So many events from event e on, then the Marking record (01, Table records).
unfoldable pub records_from : Net → ℕ → ℕ → List ℕ
records_from n e zero = framed 3 (bytes_of n.start)
records_from n e (suc k) = framed 2 (event_payload n e) ++ records_from n (suc e) k

-- The Rule record of a net, which is left out at rule 0 (02, No. 4).
abbrev pub rule_record : Net → List ℕ
rule_record n = cond (n.old 0) (framed 6 (1 ∷ [])) []

-- The table of a net: the Rule record, the Conditions record, and the rest (01, Table records; 02, No. 4).
unfoldable pub encode : Net → List ℕ
encode n = rule_record n ++ (framed 1 (bytes n.conditions n.persistent) ++ records_from n 0 n.events)

-- Two nets agree if they have the same conditions, rule, events, lists and start (01, Table records; 02, No. 4).
pub record Agree (m n : Net) : Type 0 where
  pub conditions_agree : m.conditions ≡ n.conditions
  pub persistent_agree : (b : ℕ) → b < n.conditions → m.persistent b ≡ n.persistent b
  pub old_agree : (b : ℕ) → b < n.conditions → m.old b ≡ n.old b
  pub events_agree : m.events ≡ n.events
  pub pre_agree : (e : ℕ) → e < n.events → m.preconditions e ≡ n.preconditions e
  pub post_agree : (e : ℕ) → e < n.events → m.postconditions e ≡ n.postconditions e
  pub start_agree : m.start ≡ n.start
