-- What the first records and the last one of a table must be: header, length and payload, with the number and place of each refusal.
use Rattle.std.specs.Prelude.{ℕ, ◌+◌, ◌%◌, cond, List, length, get_or, leb, eqb, Ok}
use Rattle.lists.specs.Lists.{fits}
use Rattle.refusal.specs.Answer.{Judged, need}
use Rattle.words.specs.Words.{words, bits}
use Rattle.records.specs.Records.{part, header_of, when_whole, ruled, conditions}

-- The Rule record, where one stands first: 1, 3, 4; fine: the offset after it, which is 0 where there is none (02, No. 4).
unfoldable pub rule_of : List ℕ → Judged
rule_of s = cond (ruled s) (when_whole (header_of s 0) 0 (λ kind len. need (eqb len 1) 3 0 (need (leb (get_or s 4 0) 1) 4 0 (Ok 5)))) (Ok 0)

-- The Conditions record at an offset: 1, 2, 3, 4; fine: the offset after it (01, Refusal numbers).
unfoldable pub conditions_of : List ℕ → ℕ → Judged
conditions_of s at = when_whole (header_of s at) at (λ kind len.
    need (eqb kind 1) 2 at
    (need (leb 1 len) 3 at
    (need (leb len 256) 3 at
    (need (bits (part s (at + 4) len)) 4 at
    (Ok (at + 4 + len))))))

-- The Marking record at an offset, the last of the table: 1, 2, 3, 5, and 9 after it; fine: the offset after it (01, Refusal numbers).
unfoldable pub marking_of : List ℕ → ℕ → Judged
marking_of s at = when_whole (header_of s at) at (λ kind len.
    need (eqb kind 3) 2 at
    (need (eqb (len % 2) 0) 3 at
    (need (fits (conditions s) (words (part s (at + 4) len))) 5 at
    (need (leb (length s) (at + 4 + len)) 9 (at + 4 + len)
    (Ok (at + 4 + len))))))
