-- Which events of a net may lose a run in the unfolded net when they come again.
use Rattle.std.specs.Prelude.{Bool, not, ◌&&◌, ◌||◌, List, ℕ}
use Rattle.lists.specs.Lists.{mem, all, any, empty, keep, count}
use Rattle.model.specs.Net.{Net}
use Rattle.model.specs.Across.{marks_for_others}

-- Every ordinary condition of a list stands in another list (01, Playing the table).
unfoldable pub ordinary_in : Net → List ℕ → List ℕ → Bool
ordinary_in n l k = all (λ b. n.persistent b || mem b k) l

-- An event is steady if the ordinary conditions that it takes are those that it puts: a further firing, after one that marked its
-- persistent postconditions, changes nothing (01, Playing the table).
unfoldable pub steady : Net → ℕ → Bool
unfolding ordinary_in
steady n e = ordinary_in n (n.preconditions e) (n.postconditions e) && ordinary_in n (n.postconditions e) (n.preconditions e)

-- The events that put a condition, ascending (01, Playing the table).
unfoldable pub putters : Net → ℕ → List ℕ
putters n b = keep (λ e. mem b (n.postconditions e)) (count 0 n.events)

-- A condition is spent once it is taken: it is ordinary, and no event puts it (01, Playing the table).
unfoldable pub spent : Net → ℕ → Bool
unfolding putters
spent n b = not (n.persistent b) && empty (putters n b)

-- An event spends if it takes such a condition, so that it cannot come a second time (01, Playing the table).
unfoldable pub spends : Net → ℕ → Bool
unfolding spent
spends n e = any (spent n) (n.preconditions e)

-- An event recurs if it can come a second time and then change what holds (01, Playing the table).
unfoldable pub recurs : Net → ℕ → Bool
unfolding steady spends
recurs n e = not (steady n e) && not (spends n e)

-- A run in which an event comes again may be lost in the unfolded net if the event marks for another and recurs (02, No. 3: such a run is
-- turned away with 15).
unfoldable pub lossy : Net → ℕ → Bool
unfolding recurs
lossy n e = marks_for_others n e && recurs n e
