-- What bounds the text of an element.
use Rattle.std.specs.Prelude.{ℕ, ◌<◌}
use Rattle.pnml.specs.declared.Link.{Link}
use Rattle.pnml.specs.declared.Link.TheVariants.{Into, OutOf}
use Rattle.pnml.specs.declared.Element.{Element}
use Rattle.pnml.specs.declared.Element.TheVariants.{Opens, Place, Transition, Arc, Closes}

-- An output of so many bytes has room for every element.
abbrev pub most_bytes : ℕ
most_bytes = 256

-- A number is one of eight bytes.
abbrev pub Word : ℕ → Type 0
Word n = n < 18446744073709551616

-- The two numbers of a link are of eight bytes.
abbrev pub Joins : Link → Type 0
Joins (Into x t) = Word x × Word t
Joins (OutOf t x) = Word t × Word x

-- Each number of an element is of eight bytes.
abbrev pub Small : Element → Type 0
Small Opens = Unit {0}
Small (Place x held) = Word x
Small (Transition t) = Word t
Small (Arc a l) = Word a × Joins l
Small Closes = Unit {0}
