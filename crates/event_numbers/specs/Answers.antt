-- What the call for an unfolded event's number answers, after the prefix that all share.
use Rattle.std.specs.Prelude.{ℕ, List, ltb, Ok}
use Rattle.model.specs.Unfolding.{basic}
use Rattle.model.specs.Numbering.{number}
use Rattle.refusal.specs.Answer.{Judged, need}
use Rattle.table.specs.Decoded.{net_of}
use Rattle.layout.specs.Unfolds.{unfolding_of}
use Rattle.events.specs.declared.Colour.{Colour}
use Rattle.events.specs.Colours.{colour_of}

-- The number for an event and markers, 10 where there is no such unfolded event (01, Runs across).
unfoldable pub number_of : List ℕ → ℕ → Colour → Judged
number_of s e c =
    let k = number (net_of s) (record { event = e; colour = colour_of c }) in
    unfolding_of s (need (ltb k (basic (net_of s)).events) 10 0 (Ok k))
