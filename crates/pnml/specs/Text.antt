-- The text of an element, as bytes.
use Rattle.std.specs.Prelude.{Bool, cond, List, [], ◌∷◌, ◌++◌, ℕ, ◌-◌, ltb}
use Rattle.spelling.specs.Decimal.{decimal}
use Rattle.pnml.specs.declared.Link.{Link}
use Rattle.pnml.specs.declared.Link.TheVariants.{Into, OutOf}
use Rattle.pnml.specs.declared.Element.{Element}
use Rattle.pnml.specs.declared.Element.TheVariants.{Opens, Place, Transition, Arc, Closes}

-- ---- the parts that are always the same

-- All that opens: pnml with its namespace, the net n of type ptnet, and the page g:
-- <pnml xmlns="http://www.pnml.org/version-2009/grammar/pnml"><net id="n" type="http://www.pnml.org/version-2009/grammar/ptnet"><page id="g">
-- (02, No. 1).
abbrev pub opens_text : List ℕ
opens_text =
    60 ∷ 112 ∷ 110 ∷ 109 ∷ 108 ∷ 32 ∷ 120 ∷ 109 ∷ 108 ∷ 110 ∷ 115 ∷ 61 ∷ 34 ∷ 104 ∷ 116 ∷ 116 ∷ 112 ∷ 58 ∷ 47 ∷ 47 ∷ 119 ∷
    119 ∷ 119 ∷ 46 ∷ 112 ∷ 110 ∷ 109 ∷ 108 ∷ 46 ∷ 111 ∷ 114 ∷ 103 ∷ 47 ∷ 118 ∷ 101 ∷ 114 ∷ 115 ∷ 105 ∷ 111 ∷ 110 ∷ 45 ∷
    50 ∷ 48 ∷ 48 ∷ 57 ∷ 47 ∷ 103 ∷ 114 ∷ 97 ∷ 109 ∷ 109 ∷ 97 ∷ 114 ∷ 47 ∷ 112 ∷ 110 ∷ 109 ∷ 108 ∷ 34 ∷ 62 ∷ 60 ∷ 110 ∷
    101 ∷ 116 ∷ 32 ∷ 105 ∷ 100 ∷ 61 ∷ 34 ∷ 110 ∷ 34 ∷ 32 ∷ 116 ∷ 121 ∷ 112 ∷ 101 ∷ 61 ∷ 34 ∷ 104 ∷ 116 ∷ 116 ∷ 112 ∷ 58 ∷
    47 ∷ 47 ∷ 119 ∷ 119 ∷ 119 ∷ 46 ∷ 112 ∷ 110 ∷ 109 ∷ 108 ∷ 46 ∷ 111 ∷ 114 ∷ 103 ∷ 47 ∷ 118 ∷ 101 ∷ 114 ∷ 115 ∷ 105 ∷
    111 ∷ 110 ∷ 45 ∷ 50 ∷ 48 ∷ 48 ∷ 57 ∷ 47 ∷ 103 ∷ 114 ∷ 97 ∷ 109 ∷ 109 ∷ 97 ∷ 114 ∷ 47 ∷ 112 ∷ 116 ∷ 110 ∷ 101 ∷ 116 ∷
    34 ∷ 62 ∷ 60 ∷ 112 ∷ 97 ∷ 103 ∷ 101 ∷ 32 ∷ 105 ∷ 100 ∷ 61 ∷ 34 ∷ 103 ∷ 34 ∷ 62 ∷ []

-- All that closes: </page></net></pnml> (02, No. 1).
abbrev pub closes_text : List ℕ
closes_text = 60 ∷ 47 ∷ 112 ∷ 97 ∷ 103 ∷ 101 ∷ 62 ∷ 60 ∷ 47 ∷ 110 ∷ 101 ∷ 116 ∷ 62 ∷ 60 ∷ 47 ∷ 112 ∷ 110 ∷ 109 ∷ 108 ∷ 62 ∷ []

-- A place begins so: <place id=" (02, No. 1).
abbrev pub place_begins : List ℕ
place_begins = 60 ∷ 112 ∷ 108 ∷ 97 ∷ 99 ∷ 101 ∷ 32 ∷ 105 ∷ 100 ∷ 61 ∷ 34 ∷ []

-- An element with nothing inside ends so: "/> (02, No. 1).
abbrev pub short_ends : List ℕ
short_ends = 34 ∷ 47 ∷ 62 ∷ []

-- A place with a token ends so: "><initialMarking><text>1</text></initialMarking></place> (02, No. 1).
abbrev pub token_ends : List ℕ
token_ends =
    34 ∷ 62 ∷ 60 ∷ 105 ∷ 110 ∷ 105 ∷ 116 ∷ 105 ∷ 97 ∷ 108 ∷ 77 ∷ 97 ∷ 114 ∷ 107 ∷ 105 ∷ 110 ∷ 103 ∷ 62 ∷ 60 ∷ 116 ∷ 101 ∷
    120 ∷ 116 ∷ 62 ∷ 49 ∷ 60 ∷ 47 ∷ 116 ∷ 101 ∷ 120 ∷ 116 ∷ 62 ∷ 60 ∷ 47 ∷ 105 ∷ 110 ∷ 105 ∷ 116 ∷ 105 ∷ 97 ∷ 108 ∷ 77 ∷
    97 ∷ 114 ∷ 107 ∷ 105 ∷ 110 ∷ 103 ∷ 62 ∷ 60 ∷ 47 ∷ 112 ∷ 108 ∷ 97 ∷ 99 ∷ 101 ∷ 62 ∷ []

-- A transition begins so: <transition id=" (02, No. 1).
abbrev pub transition_begins : List ℕ
transition_begins = 60 ∷ 116 ∷ 114 ∷ 97 ∷ 110 ∷ 115 ∷ 105 ∷ 116 ∷ 105 ∷ 111 ∷ 110 ∷ 32 ∷ 105 ∷ 100 ∷ 61 ∷ 34 ∷ []

-- An arc begins so: <arc id="a (02, No. 1).
abbrev pub arc_begins : List ℕ
arc_begins = 60 ∷ 97 ∷ 114 ∷ 99 ∷ 32 ∷ 105 ∷ 100 ∷ 61 ∷ 34 ∷ 97 ∷ []

-- Between the number of an arc and its source: " source=" (02, No. 1).
abbrev pub source_begins : List ℕ
source_begins = 34 ∷ 32 ∷ 115 ∷ 111 ∷ 117 ∷ 114 ∷ 99 ∷ 101 ∷ 61 ∷ 34 ∷ []

-- Between the source of an arc and its target: " target=" (02, No. 1).
abbrev pub target_begins : List ℕ
target_begins = 34 ∷ 32 ∷ 116 ∷ 97 ∷ 114 ∷ 103 ∷ 101 ∷ 116 ∷ 61 ∷ 34 ∷ []

-- ---- names and elements

-- The id of a place, in a net that doubles so many conditions: p and the number of its condition, or q where it is the second (02, No. 1).
abbrev pub place_name : ℕ → ℕ → List ℕ
place_name c x = cond (ltb x c) (112 ∷ decimal x) (113 ∷ decimal (x - c))

-- The id of a transition: t and its number (02, No. 1).
abbrev pub transition_name : ℕ → List ℕ
transition_name t = 116 ∷ decimal t

-- An initial marking stands only where there is a token (02, No. 1).
abbrev pub place_ends : Bool → List ℕ
place_ends held = cond held token_ends short_ends

-- The source of an arc and then its target (02, No. 1).
abbrev pub source_name : ℕ → Link → List ℕ
source_name c (Into x t) = place_name c x
source_name c (OutOf t x) = transition_name t

abbrev pub target_name : ℕ → Link → List ℕ
target_name c (Into x t) = transition_name t
target_name c (OutOf t x) = place_name c x

-- The text of an element of a net that doubles so many conditions (02, No. 1).
unfoldable pub text_of : ℕ → Element → List ℕ
text_of c Opens = opens_text
text_of c (Place x held) = place_begins ++ place_name c x ++ place_ends held
text_of c (Transition t) = transition_begins ++ transition_name t ++ short_ends
text_of c (Arc a l) = arc_begins ++ decimal a ++ source_begins ++ source_name c l ++ target_begins ++ target_name c l ++ short_ends
text_of c Closes = closes_text
