-- The exchange of two neighbouring steps of a run, and what must be true of them first.
use Rattle.std.specs.Prelude.{Bool, not, ◌&&◌, List, [], ◌∷◌, ◌++◌, ℕ, zero, suc, eqb, get_or, take}
use Rattle.lists.specs.Lists.{mem, all, ◌⇒◌}
use Rattle.model.specs.Net.{Net, Marking}
use Rattle.model.specs.Runs.{end}

-- An event touches its preconditions and its postconditions (01, Runs across).
unfoldable pub touch : Net → ℕ → List ℕ
touch n e = n.preconditions e ++ n.postconditions e

-- Events e and f, fired in this order from m, may change places: they differ, they touch no ordinary condition both, f reads
-- no persistent condition that did not hold before e, and no such condition is marked by both (README, What is promised: 3).
unfoldable pub apart : Net → Marking → ℕ → ℕ → Bool
unfolding touch
apart n m e f =
    not (eqb e f)
    && all (λ b. mem b (touch n f) ⇒ n.persistent b) (touch n e)
    && all (λ b. n.persistent b ⇒ m b) (n.preconditions f)
    && all (λ b. n.persistent b && mem b (n.postconditions f) ⇒ m b) (n.postconditions e)

-- Steps k and k + 1 of a run may change places, judged at the marking before step k (01, Runs across).
unfoldable pub apart_step : Net → Marking → List ℕ → ℕ → Bool
unfolding apart end
apart_step n m r k = apart n (end n m (take k r)) (get_or r k 0) (get_or r (suc k) 0)

-- The list with members k and k + 1 exchanged, and nothing else (01, Runs across).
abbrev pub exchanged : ℕ → List ℕ → List ℕ
exchanged zero [] = []
exchanged zero (e ∷ []) = e ∷ []
exchanged zero (e ∷ f ∷ q) = f ∷ e ∷ q
exchanged (suc k) [] = []
exchanged (suc k) (x ∷ r) = x ∷ exchanged k r
