-- What the call on an unfolded event's number answers, after the prefix that all share.
use Rattle.std.specs.Prelude.{ℕ, List, ltb, length, Result, Ok, Err}
use Rattle.model.specs.Unfolding.{UnfoldedEvent, origin, basic}
use Rattle.refusal.specs.Answer.{Judged, need}
use Rattle.refusal.specs.declared.Refusal.{Refusal}
use Rattle.table.specs.Decoded.{net_of}
use Rattle.layout.specs.Unfolds.{unfolding_of}
use Rattle.events.specs.declared.Colour.{Colour}
use Rattle.events.specs.declared.EventOrigin.{EventOrigin}
use Rattle.events.specs.Colours.{no_colour, push_all}

-- An unfolded event behind a number: how many markers its colour has, or 10 past the last (01, Runs across).
unfoldable pub origin_judged : List ℕ → ℕ → Judged
origin_judged s j = unfolding_of s (need (ltb j (basic (net_of s)).events) 10 0 (Ok (length (origin (net_of s) j).colour)))

-- With a fine answer the event and the markers (01, Runs across).
abbrev pub origin_if : Judged → UnfoldedEvent → Result EventOrigin Refusal
origin_if (Ok k) x = Ok (record { event = record { 0 = x.event }; colour = push_all no_colour x.colour })
origin_if (Err refusal) x = Err refusal

-- The event and markers behind a number (01, Runs across).
unfoldable pub origin_of : List ℕ → ℕ → Result EventOrigin Refusal
origin_of s j = origin_if (origin_judged s j) (origin (net_of s) j)

-- How many markers an origin tells, or the refusal (01, Runs across).
abbrev pub origin_answer : Result EventOrigin Refusal → Judged
origin_answer (Ok origin) = Ok origin.colour.count
origin_answer (Err refusal) = Err refusal

-- The event that an origin tells, 0 where it is refused.
abbrev pub origin_event : Result EventOrigin Refusal → ℕ
origin_event (Ok origin) = origin.event.0
origin_event (Err refusal) = 0

-- The markers that an origin tells, none where it is refused.
abbrev pub origin_colour : Result EventOrigin Refusal → Colour
origin_colour (Ok origin) = origin.colour
origin_colour (Err refusal) = no_colour
