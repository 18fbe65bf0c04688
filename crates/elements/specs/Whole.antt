-- The whole export, element by element.
use Rattle.std.specs.Prelude.{ℕ, ◌-◌, List, length}
use Rattle.lists.specs.Lists.{count, spread}
use Rattle.model.specs.Unfolding.{basic}
use Rattle.table.specs.Decoded.{net_of}
use Rattle.pnml.specs.Text.{text_of}
use Rattle.export_places.specs.declared.Place.{Place}
use Rattle.export_places.specs.Places.{index_at}
use Rattle.elements.specs.Calls.{elements_of, element_text}

-- The text of a table's export: its elements one after the other (02, No. 1).
unfoldable pub export_of : List ℕ → List ℕ
unfolding elements_of
export_of s = spread (text_of (basic (net_of s)).conditions) (elements_of s)

-- The text of the elements from number i on (02, No. 1).
unfoldable pub text_from : List ℕ → ℕ → List ℕ
unfolding elements_of element_text
text_from s i = spread (element_text s) (count i (length (elements_of s) - i))

-- The text from a place on until all is written (02, No. 1).
abbrev pub rest_at : List ℕ → Place → List ℕ
rest_at s p = text_from s (index_at (net_of s) p)
