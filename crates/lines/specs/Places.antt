-- The text of a listing, place by place.
use Rattle.std.specs.Prelude.{Bool, true, false, cond, List, [], ◌∷◌, ◌++◌, ℕ, zero, suc, ◌+◌, ◌-◌, ltb, length, get_or}
use Rattle.model.specs.Net.{Net, stopping, fire}
use Rattle.model.specs.Lent.{bytes, marking}
use Rattle.step.specs.Steps.{stepped}
use Rattle.listing.specs.Text.{newline, end_words, start_line, step_line}
use Rattle.listing.specs.Calls.{held_in, first_in, next_of, first_piece, more_piece}
use Rattle.lines.specs.declared.Place.{Place}
use Rattle.lines.specs.declared.Place.TheVariants.{Start, Step, End, More, Last, Over}
use Rattle.lines.specs.declared.Written.{Written}

-- ---- the places

-- The place of step k of a run of so many steps, or of the unfolded end past its last (01, Nets to test with: Listing).
unfoldable pub step_from : ℕ → ℕ → Place
step_from steps k = cond (ltb k steps) (Step k) End

-- The place of more of a list from one of so many conditions on, or of the newline past the last (01, Nets to test with: Listing).
unfoldable pub more_from : ℕ → ℕ → Place
more_from conditions from = cond (ltb from conditions) (More from) Last

-- The place after one, by the number of steps and the lent bytes of the unfolded end (01, Nets to test with: Listing).
abbrev pub next_at : ℕ → List ℕ → Place → Place
next_at steps end Start = step_from steps 0
next_at steps end (Step k) = step_from steps (k + 1)
next_at steps end End = more_from (length end) (first_in end + 1)
next_at steps end (More from) = more_from (length end) (next_of end from)
next_at steps end Last = Over
next_at steps end Over = Over

-- Every place but the last has something to write (01, Nets to test with: Listing).
abbrev pub goes_on : Place → Bool
goes_on Start = true
goes_on (Step k) = true
goes_on End = true
goes_on (More from) = true
goes_on Last = true
goes_on Over = false

-- ---- what is written at a place

-- The lent marking once a step was fired on it (01, Playing the table).
unfoldable pub fired : Net → List ℕ → ℕ → List ℕ
fired n l e = stepped (stopping n (marking l) e) (bytes (length l) (fire n (marking l) e)) l

-- The lent marking that a place shows: at a step the one after it, elsewhere the one that is there (01, Nets to test with: Listing).
abbrev pub shown_at : Net → List ℕ → List ℕ → Place → List ℕ
shown_at n r l Start = l
shown_at n r l (Step k) = fired n l (get_or r k 0)
shown_at n r l End = l
shown_at n r l (More from) = l
shown_at n r l Last = l
shown_at n r l Over = l

-- The line of step k of a run beside its lifted run, by the lent marking after it (01, Nets to test with: Listing).
abbrev pub step_text : List ℕ → List ℕ → List ℕ → ℕ → List ℕ
step_text r w l k = step_line k (get_or r k 0) (get_or w k 0) (held_in l)

-- The text at a place, by the lent marking that it shows and that of the unfolded end (01, Nets to test with: Listing).
abbrev pub text_at : List ℕ → List ℕ → List ℕ → List ℕ → Place → List ℕ
text_at r w end l Start = start_line (held_in l)
text_at r w end l (Step k) = step_text r w l k
text_at r w end l End = end_words ++ first_piece (held_in end)
text_at r w end l (More from) = more_piece end from
text_at r w end l Last = newline ∷ []
text_at r w end l Over = []

-- What writing at a place answers: how many bytes it wrote, and the next place (01, Nets to test with: Listing).
unfoldable pub written_at : List ℕ → List ℕ → List ℕ → List ℕ → Place → Written
written_at r w end l p = record { count = length (text_at r w end l p); next = next_at (length r) end p }

-- ---- the whole

-- The text of so many pieces, from a place on (01, Nets to test with: Listing).
unfoldable pub text_from : ℕ → Net → List ℕ → List ℕ → List ℕ → List ℕ → Place → List ℕ
text_from zero n r w end l p = []
text_from (suc pieces) n r w end l p =
    text_at r w end (shown_at n r l p) p ++ text_from pieces n r w end (shown_at n r l p) (next_at (length r) end p)

-- So many pieces are enough from a place on.
abbrev pub left_at : ℕ → List ℕ → Place → ℕ
left_at steps end Start = steps + length end + 5
left_at steps end (Step k) = (steps - k) + length end + 4
left_at steps end End = length end + 3
left_at steps end (More from) = (length end - from) + 2
left_at steps end Last = 1
left_at steps end Over = 0

-- The text from a place on until all is written (01, Nets to test with: Listing).
unfoldable pub rest_of : Net → List ℕ → List ℕ → List ℕ → List ℕ → Place → List ℕ
rest_of n r w end l p = text_from (left_at (length r) end p) n r w end l p
