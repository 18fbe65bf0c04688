-- The elements of an exported net, in their order.
use Rattle.std.specs.Prelude.{List, [], ◌∷◌, ◌++◌, map, ℕ, suc}
use Rattle.lists.specs.Lists.{mem, count, spread}
use Rattle.doubled.specs.Plain.{Plain}
use Rattle.pnml.specs.declared.Link.{Link}
use Rattle.pnml.specs.declared.Link.TheVariants.{Into, OutOf}
use Rattle.pnml.specs.declared.Element.{Element}
use Rattle.pnml.specs.declared.Element.TheVariants.{Opens, Place, Transition, Arc, Closes}

-- The arcs of a transition: those into it first, each group in the order of its list (02, No. 1).
unfoldable pub arcs_of : Plain → ℕ → List Link
arcs_of p t = map (λ x. Into x t) (p.inputs t) ++ map (λ x. OutOf t x) (p.outputs t)

-- Arcs numbered one after the other (02, No. 1).
unfoldable pub numbered : ℕ → List Link → List Element
numbered a [] = []
numbered a (l ∷ ls) = Arc a l ∷ numbered (suc a) ls

-- What opens, the places, the transitions, the arcs by transition, what closes (02, No. 1).
unfoldable pub elements : Plain → List Element
unfolding arcs_of numbered
elements p =
    Opens ∷ map (λ x. Place x (mem x p.initial)) (count 0 p.places) ++ map Transition (count 0 p.transitions)
    ++ numbered 0 (spread (arcs_of p) (count 0 p.transitions)) ++ (Closes ∷ [])
