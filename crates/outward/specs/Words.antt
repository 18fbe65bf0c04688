-- Markers and colours as numbers outside.
use Rattle.std.specs.Prelude.{ℕ, Bool, cond, List, map, eqb, ltb, length, get_or, Result, Ok, Err}
use Rattle.lists.specs.Lists.{count}
use Rattle.model.specs.Runs.{Marker, at_start, by_event}
use Rattle.refusal.specs.declared.Marker as declared
use Rattle.refusal.specs.declared.Marker.TheVariants.{Start, ByEvent}
use Rattle.refusal.specs.declared.Refusal.{Refusal}
use Rattle.refusal.specs.Answer.{Judged, fitting, written}
use Rattle.events.specs.declared.Colour.{Colour}
use Rattle.events.specs.declared.EventOrigin.{EventOrigin}
use Rattle.events.specs.Answers.{origin_colour}
use Rattle.events.specs.Colours.{colour_of}
use Rattle.condition_numbers.specs.Answers.{ordinary_number, copy_number}

-- The number that stands for the start.
abbrev pub start_word : ℕ
start_word = 4294967295

-- A marker as a number: an event's own, or the one that stands for the start (01, Unfolding).
abbrev pub word_of : Marker → ℕ
word_of at_start = start_word
word_of (by_event e) = e

-- The marker that a number says; one that is no number of two bytes says the last of those, which numbers no event of a table either
-- (01, Table records).
unfoldable pub marker_of : ℕ → declared.Marker
marker_of w = cond (eqb w start_word) Start (ByEvent (record { 0 = cond (ltb w 65536) w 65535 }))

-- The first sixteen markers that numbers say, the start past the last number.
unfoldable pub picks_for : List ℕ → List declared.Marker
unfolding marker_of
picks_for ws = map (λ i. marker_of (get_or ws i start_word)) (count 0 16)

-- The colour that numbers say: as many markers as numbers (01, Unfolding).
unfoldable pub colour_for : List ℕ → Colour
unfolding picks_for
colour_for ws = record { count = length ws; picks = picks_for ws }

-- The markers of a colour as numbers (01, Unfolding).
unfoldable pub words_of : Colour → List ℕ
words_of c = map word_of (colour_of c)

-- The markers of an origin, with room for so many: the origin's refusal, then 16; fine: how many (01, Runs across and Refusal numbers).
unfoldable pub markers_of : Result EventOrigin Refusal → ℕ → Judged
markers_of (Ok origin) room = fitting origin.colour.count room
markers_of (Err refusal) room = Err refusal

-- The lent output after it (01, Refusal numbers).
unfoldable pub markers_into : Result EventOrigin Refusal → List ℕ → List ℕ
unfolding markers_of words_of
markers_into o out = written (markers_of o (length out)) (words_of (origin_colour o)) out

-- The number for a copy of a persistent condition, or for an ordinary one, of which no marker and no user is looked at (01, Runs
-- across).
unfoldable pub condition_for : List ℕ → ℕ → Bool → ℕ → ℕ → Judged
unfolding marker_of
condition_for s b copy m u = cond copy (copy_number s b (marker_of m) u) (ordinary_number s b)
