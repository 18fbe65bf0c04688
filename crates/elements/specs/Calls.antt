-- What the calls of the export answer, and what they leave in a lent output.
use Rattle.std.specs.Prelude.{ℕ, List, ltb, length, get_or, Ok}
use Rattle.model.specs.Unfolding.{basic}
use Rattle.refusal.specs.Answer.{Judged, need, fitting, written}
use Rattle.table.specs.Decoded.{net_of}
use Rattle.layout.specs.Unfolds.{unfolding_of}
use Rattle.pnml.specs.declared.Element.{Element}
use Rattle.pnml.specs.declared.Element.TheVariants.{Opens}
use Rattle.pnml.specs.Elements.{elements}
use Rattle.pnml.specs.Text.{text_of}
use Rattle.arcs.specs.Arcs.{exported}

-- The elements of a table's export (02, No. 1).
unfoldable pub elements_of : List ℕ → List Element
elements_of s = elements (exported (net_of s))

-- The text of element i (02, No. 1).
unfoldable pub element_text : List ℕ → ℕ → List ℕ
unfolding elements_of
element_text s i = text_of (basic (net_of s)).conditions (get_or (elements_of s) i Opens)

-- How many elements the export of a table has: 1 to 9, 13, 14 (02, No. 1).
unfoldable pub element_count_of : List ℕ → Judged
unfolding elements_of
element_count_of s = unfolding_of s (Ok (length (elements_of s)))

-- Element i, into an output with so much room: 1 to 9, 13, 14, then 10 past the last, then 16; fine: its bytes (02, No. 1).
unfoldable pub element_of : List ℕ → ℕ → ℕ → Judged
unfolding elements_of
element_of s i room = unfolding_of s (need (ltb i (length (elements_of s))) 10 0 (fitting (length (element_text s i)) room))

-- The lent output after it (02, No. 1).
unfoldable pub element_written_of : List ℕ → ℕ → List ℕ → List ℕ
element_written_of s i out = written (element_of s i (length out)) (element_text s i) out
