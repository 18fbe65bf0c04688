-- What the firing of an unfolded event answers, and what it leaves of a lent unfolded marking.
use Rattle.std.specs.Prelude.{ℕ, List, Ok}
use Rattle.model.specs.Net.{fire, stopping}
use Rattle.model.specs.Unfolding.{basic}
use Rattle.model.specs.Across.{of_unfolding}
use Rattle.model.specs.Lent.{bytes, marking}
use Rattle.refusal.specs.Answer.{Judged}
use Rattle.table.specs.Decoded.{net_of}
use Rattle.table.specs.Links.{refused_or}
use Rattle.layout.specs.Unfolds.{unfolding_of}
use Rattle.game.specs.Lent.{lent}
use Rattle.game.specs.Calls.{firing_stopped, leaves}

-- An unfolded event fired at a lent unfolded marking: 1 to 9, 13, 14, then 18, then 10 at 0, 11 and 12 at the unfolded
-- condition; fine: the number of unfolded conditions (01, Runs across and Refusal numbers; 02, No. 2).
unfoldable pub unfolded_fire_of : List ℕ → List ℕ → ℕ → Judged
unfolded_fire_of s m j =
    unfolding_of s (lent (basic (net_of s)).conditions m
    (refused_or (firing_stopped of_unfolding (stopping (basic (net_of s)) (marking m) j)) (Ok (basic (net_of s)).conditions)))

-- The lent unfolded marking after it (01, Playing the table).
unfoldable pub unfolded_fired_of : List ℕ → List ℕ → ℕ → List ℕ
unfolded_fired_of s m j = leaves (unfolded_fire_of s m j) (bytes (basic (net_of s)).conditions (fire (basic (net_of s)) (marking m) j)) m
