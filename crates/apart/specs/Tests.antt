-- The tests of one condition by which the lists of two events are compared.
use Rattle.std.specs.Prelude.{Bool, ◌&&◌, List, ◌++◌, ℕ, eqb, get_or}
use Rattle.lists.specs.Lists.{mem, ◌⇒◌}
use Rattle.model.specs.Net.{Marking}
use Rattle.apart.specs.declared.Test.{Test}
use Rattle.apart.specs.declared.Test.TheVariants.{Shared, Held, Once}

-- What a condition of a list must pass, by the flags of the persistent ones, a marking and the two lists of an event: the event touches
-- it only if it is persistent; it holds if it is persistent, or if it is so and the event puts it (01, Runs across).
abbrev pub passes_of : Test → List ℕ → Marking → List ℕ → List ℕ → ℕ → Bool
passes_of Shared f m pre post b = mem b (pre ++ post) ⇒ eqb (get_or f b 0) 1
passes_of Held f m pre post b = eqb (get_or f b 0) 1 ⇒ m b
passes_of Once f m pre post b = eqb (get_or f b 0) 1 && mem b post ⇒ m b
