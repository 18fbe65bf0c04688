-- The marking of the unfolding, told from the table's marking and the events that have occurred.
use Rattle.std.specs.Prelude.{Bool, ◌&&◌, List, map, ℕ}
use Rattle.lists.specs.Lists.{mem}
use Rattle.model.specs.Net.{Net, Marking}
use Rattle.model.specs.Lent.{bit}
use Rattle.model.specs.Runs.{at_start, by_event}
use Rattle.model.specs.Unfolding.{UnfoldedCondition, ordinary, copy, unfolded_conditions}

-- Whether an unfolded condition holds where these conditions hold in the table and these events have occurred: an ordinary one as in
-- the table, a copy exactly if its marker has marked it (01, Unfolding; paper, section 6.1).
unfoldable pub holds_by : Net → Marking → (ℕ → Bool) → UnfoldedCondition → Bool
holds_by n m seen (ordinary b) = m b
holds_by n m seen (copy b at_start v) = mem b n.start
holds_by n m seen (copy b (by_event e) v) = seen e && mem b (n.postconditions e)

-- The same as bytes, one for each unfolded condition in the order of their numbers (01, Unfolding).
unfoldable pub copies_of : Net → Marking → (ℕ → Bool) → List ℕ
unfolding holds_by unfolded_conditions
copies_of n m seen = map (λ p. bit (holds_by n m seen p)) (unfolded_conditions n)
