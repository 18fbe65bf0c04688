-- What an Event record must be: its header, its length and its lists, with the number and place of each refusal.
use Rattle.std.specs.Prelude.{ℕ, ◌+◌, ◌*◌, List, leb, eqb, Ok}
use Rattle.lists.specs.Lists.{fits}
use Rattle.refusal.specs.Answer.{Judged, need}
use Rattle.words.specs.Words.{words, count_in}
use Rattle.records.specs.Records.{header_of, when_whole, conditions, flags, pre_count, post_count, pre_part, post_part}

-- The lists of an Event record: 5, 7, 8; fine: next (01, Refusal numbers).
unfoldable pub lists_of : List ℕ → ℕ → ℕ → Judged
lists_of s at next =
    need (fits (conditions s) (words (pre_part s at))) 5 at
    (need (fits (conditions s) (words (post_part s at))) 5 at
    (need (leb 1 (pre_count s at + post_count s at)) 7 at
    (need (leb (count_in (flags s) (words (pre_part s at))) 16) 8 at
    (Ok next))))

-- The Event record at an offset: 1, 2, 3, then its lists, its length in whole numbers; fine: the offset after it (01, Refusal numbers).
unfoldable pub event_of : List ℕ → ℕ → Judged
event_of s at = when_whole (header_of s at) at (λ kind len.
    need (eqb kind 2) 2 at
    (need (leb 4 len) 3 at
    (need (eqb len (4 + 2 * (pre_count s at + post_count s at))) 3 at
    (lists_of s at (at + 4 + len)))))
