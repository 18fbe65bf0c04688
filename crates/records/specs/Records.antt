-- What stands in a record of a table: its header and its lists.
use Rattle.std.specs.Prelude.{ℕ, ◌+◌, ◌*◌, List, Bool, ◌&&◌, cond, length, get_or, take, drop, leb, eqb, Option, None, Some}
use Rattle.refusal.specs.Answer.{Judged, refused_at}
use Rattle.words.specs.Words.{word_at}
use Rattle.records.specs.declared.Header.{Header}

-- So many bytes from a place on, or as many as there are.
abbrev pub part : List ℕ → ℕ → ℕ → List ℕ
part s a k = take k (drop a s)

-- A header that is there whole, by its kind and its length.
abbrev pub whole : ℕ → ℕ → Option Header
whole kind len = Some (record { kind = kind; len = len })

-- The header at an offset: length and kind, where the payload is there whole (01, Table records).
unfoldable pub header_of : List ℕ → ℕ → Option Header
header_of s at = cond (leb (at + 4 + word_at s at) (length s)) (whole (word_at s (at + 2)) (word_at s at)) None

-- What a whole header leads to; one that is not whole is refused with 1 (01, Refusal numbers).
abbrev pub when_whole : Option Header → ℕ → (ℕ → ℕ → Judged) → Judged
when_whole None at f = refused_at 1 at
when_whole (Some header) at f = f header.kind header.len

-- A Rule record stands first: the first header has its kind (02, No. 4).
abbrev pub ruled : List ℕ → Bool
ruled s = eqb (word_at s 2) 6

-- The rule is the old one: a Rule record stands first, and its byte is 1 (02, No. 4).
unfoldable pub old_rule : List ℕ → Bool
old_rule s = ruled s && eqb (get_or s 4 0) 1

-- The offset of the Conditions record: 0, or 5 where a Rule record stands first (02, No. 4).
unfoldable pub front : List ℕ → ℕ
front s = cond (ruled s) 5 0

-- The number of conditions: their record has one byte for each (01, Table records, kind 1).
abbrev pub conditions : List ℕ → ℕ
conditions s = word_at s (front s)

-- The conditions' bytes, 1 where the condition is persistent (01, Table records, kind 1).
abbrev pub flags : List ℕ → List ℕ
flags s = part s (front s + 4) (conditions s)

-- How many preconditions the Event record at an offset counts (01, Table records, kind 2).
abbrev pub pre_count : List ℕ → ℕ → ℕ
pre_count s at = word_at s (at + 4)

-- How many postconditions it counts (01, Table records, kind 2).
abbrev pub post_count : List ℕ → ℕ → ℕ
post_count s at = word_at s (at + 6)

-- The bytes of its preconditions (01, Table records, kind 2).
abbrev pub pre_part : List ℕ → ℕ → List ℕ
pre_part s at = part s (at + 8) (2 * pre_count s at)

-- The bytes of its postconditions (01, Table records, kind 2).
abbrev pub post_part : List ℕ → ℕ → List ℕ
post_part s at = part s (at + 8 + 2 * pre_count s at) (2 * post_count s at)

-- The bytes of the start's conditions, in the Marking record at an offset (01, Table records, kind 3).
abbrev pub marking_part : List ℕ → ℕ → List ℕ
marking_part s at = part s (at + 4) (word_at s at)
