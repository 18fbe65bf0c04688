-- What each call answers and what it leaves in its lent output, as functions of what it was given.
use Rattle.std.specs.Prelude.{List, [], ◌∷◌, ◌++◌, ℕ, ◌+◌, ◌-◌, min, leb, length}
use Rattle.model.specs.Lent.{marking}
use Rattle.model.specs.Across.{most_unfolded}
use Rattle.refusal.specs.Answer.{Judged, condition_of, need, and_then, fitting}
use Rattle.table.specs.Walk.{judge_of}
use Rattle.runs.specs.Runs.{run_kind, read_answer}
use Rattle.listing.specs.declared.Piece.{Piece}
use Rattle.listing.specs.declared.Piece.TheVariants.{Start, Step, End, More, Refused}
use Rattle.listing.specs.Text.{listed, commas, holding, end_words, start_line, step_line, refused_line}

-- The conditions that hold in a marking that is lent as bytes (01, Nets to test with: Listing).
unfoldable pub held_in : List ℕ → List ℕ
held_in l = holding (marking l) 0 (length l)

-- The first of some numbers, or another where there is none.
abbrev pub first_or : ℕ → List ℕ → ℕ
first_or other [] = other
first_or other (x ∷ xs) = x

-- The lowest condition that holds in a lent marking, the number of its conditions where none does.
unfoldable pub first_in : List ℕ → ℕ
first_in l = first_or (length l) (held_in l)

-- The list of the unfolded end is written in pieces: its first number or the dash, then the numbers of so many conditions at a time.
abbrev pub piece_size : ℕ
piece_size = 128

-- Where the piece after the one that begins at a condition begins: at the number of conditions after the last.
abbrev pub next_of : List ℕ → ℕ → ℕ
next_of l from = min (length l) (from + piece_size)

-- The first piece of the list of a lent marking (01, Nets to test with: Listing).
abbrev pub first_piece : List ℕ → List ℕ
first_piece [] = listed []
first_piece (x ∷ xs) = listed (x ∷ [])

-- A further piece of it, of the conditions from one on (01, Nets to test with: Listing).
unfoldable pub more_piece : List ℕ → ℕ → List ℕ
more_piece l from = commas (holding (marking l) from (next_of l from - from))

-- The text of a piece (01, Nets to test with: Listing).
abbrev pub text_of : Piece → List ℕ → List ℕ
text_of Start l = start_line (held_in l)
text_of (Step step event unfolded) l = step_line step event unfolded (held_in l)
text_of End l = end_words ++ first_piece (held_in l)
text_of (More from) l = more_piece l from
text_of (Refused number place by) l = refused_line number place (condition_of by)

-- A piece over a lent marking answers with its bytes: 18 where the marking is longer than any, then 16 (01, Refusal numbers).
unfoldable pub piece_of : Piece → List ℕ → ℕ → Judged
piece_of p l room = need (leb (length l) most_unfolded) 18 most_unfolded (fitting (length (text_of p l)) room)

-- The most bytes of a table's file, and of a run's (01, Nets to test with: Listing).
abbrev pub most_net_bytes : ℕ
most_net_bytes = 65536

abbrev pub most_run_bytes : ℕ
most_run_bytes = 8196

-- The bytes of the two files, with room for so many steps: 19 and 1 to 9 of the table, then 19 and 1, 2, 3, 9 of the run; fine: the
-- number of steps (01, Nets to test with: Listing).
unfoldable pub files_of : List ℕ → List ℕ → ℕ → Judged
files_of s r room =
    need (leb (length s) most_net_bytes) 19 0
    (and_then (judge_of s) (λ n.
    need (leb (length r) most_run_bytes) 19 0
    (read_answer run_kind r room)))
