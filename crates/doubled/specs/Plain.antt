-- Plain place/transition nets, as a model checker plays them: tokens are counted, and no place has a capacity.
use Rattle.std.specs.Prelude.{Bool, true, ◌&&◌, cond, List, [], ◌∷◌, ℕ, suc, ◌+◌, ◌-◌, eqb, leb, ltb}
use Rattle.lists.specs.Lists.{all}

-- A plain net has so many places and transitions, each numbered from 0, two lists of places for each transition, one arc for each
-- member, and the places that hold a token at first, one for each member (02, No. 1).
pub record Plain : Type 0 where
  pub places : ℕ
  pub transitions : ℕ
  pub inputs : ℕ → List ℕ
  pub outputs : ℕ → List ℕ
  pub initial : List ℕ

-- Tokens tell of each place how many it holds (02, No. 1).
abbrev pub Tokens : Type 0
Tokens = ℕ → ℕ

-- How often a number is a member of a list.
abbrev pub times : ℕ → List ℕ → ℕ
times k [] = 0
times k (x ∷ xs) = cond (eqb k x) (suc (times k xs)) (times k xs)

-- The tokens at first (02, No. 1).
unfoldable pub initially : Plain → Tokens
initially p = λ x. times x p.initial

-- A number is enabled if it is that of a transition and every place holds a token for each arc from it (02, No. 1).
unfoldable pub enabled : Plain → Tokens → ℕ → Bool
enabled p k t = ltb t p.transitions && all (λ x. leb (times x (p.inputs t)) (k x)) (p.inputs t)

-- A transition takes a token for each arc into it and puts one for each arc out of it (02, No. 1).
unfoldable pub moved : Plain → Tokens → ℕ → Tokens
moved p k t = λ x. (k x - times x (p.inputs t)) + times x (p.outputs t)

-- A list of numbers is played if each is enabled after those before it (02, No. 1).
unfoldable pub plays : Plain → Tokens → List ℕ → Bool
unfolding enabled moved
plays p k [] = true
plays p k (t ∷ r) = enabled p k t && plays p (moved p k t) r

-- The tokens that a list ends in (02, No. 1).
unfoldable pub reached : Plain → Tokens → List ℕ → Tokens
unfolding moved
reached p k [] = k
reached p k (t ∷ r) = reached p (moved p k t) r
