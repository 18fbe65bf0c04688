-- The answers as they were before a refusal named a condition: a number and a place, and for a firing the place 0. The calls that may now
-- name one are written out so, to be held against what they answer; a lift is one by the present rule, and Former has the one before.
use Rattle.std.specs.Prelude.{Bool, true, false, cond, List, ◌++◌, ℕ, eqb, leb, length, drop, Ok, Err}
use Rattle.std.proofs.Math.Option.{Option, none, some}
use Rattle.lists.specs.Lists.{mem}
use Rattle.model.specs.Net.{Net, Stop, stop_number, stopping}
use Rattle.model.specs.Runs.{Played, ends, refused, State, opening, replay}
use Rattle.model.specs.Unfolding.{basic}
use Rattle.model.specs.Across.{Refusal, number_of, place_of, too_long, unfolding_refused, own_or_earliest, lifted, repeated, again, read_back, no_step, not_apart}
use Rattle.model.specs.Lent.{marking}
use Rattle.refusal.specs.Answer.{Judged}
use Rattle.table.specs.Walk.{judge_of}
use Rattle.table.specs.Decoded.{net_of}
use Rattle.game.specs.Lent.{first_above}
use Rattle.played.specs.Begun.{begun_at}
use Rattle.promises.specs.Refused.{by_condition}

-- ---- an answer without a condition

-- A value, or a number with its place (01, Refusal numbers).
pub data Old : Type 0 where
  fine : ℕ → Old
  turned : ℕ → ℕ → Old

-- An answer with the condition left out (02, No. 2).
abbrev pub bare : Judged → Old
bare (Ok value) = fine value
bare (Err x) = turned x.number x.place

-- An answer of a firing with 11 and 12 at 0, where they were before (02, No. 2).
abbrev pub unplaced : Old → Old
unplaced (fine value) = fine value
unplaced (turned number place) = turned number (cond (mem number by_condition) 0 place)

-- ---- the links of a chain

-- One answer after another (01, Refusal numbers).
abbrev pub old_then : Old → (ℕ → Old) → Old
old_then (fine value) rest = rest value
old_then (turned number place) rest = turned number place

-- What follows where a test holds, else its refusal (01, Refusal numbers).
abbrev pub old_need : Bool → ℕ → ℕ → Old → Old
old_need true number place rest = rest
old_need false number place rest = turned number place

-- A refusal of the model, or what follows where nothing is refused (01, Refusal numbers).
abbrev pub old_or : Option Refusal → Old → Old
old_or none rest = rest
old_or (some x) rest = turned (number_of x) (place_of x)

-- A stopped firing, at place 0 (01, Refusal numbers).
abbrev pub old_stop : Option Stop → Old → Old
old_stop none rest = rest
old_stop (some v) rest = turned (stop_number v) 0

-- A stopped step of a run, at its place (01, Refusal numbers).
abbrev pub old_stuck : Played → Old → Old
old_stuck (ends s) rest = rest
old_stuck (refused v k) rest = turned (stop_number v) k

-- Room for so many, else 16 (01, Refusal numbers).
abbrev pub old_fitting : ℕ → ℕ → Old
old_fitting needed room = old_need (leb needed room) 16 needed (fine needed)

-- A lent marking of so many conditions, else 18 (01, Refusal numbers).
abbrev pub old_lent : ℕ → List ℕ → Old → Old
old_lent c m rest = old_need (eqb (length m) c) 18 c (old_need (leb (length m) (first_above m)) 18 (first_above m) rest)

-- A lent output after a call (01, Refusal numbers).
abbrev pub old_written : Old → List ℕ → List ℕ → List ℕ
old_written (fine value) answer out = answer ++ drop (length answer) out
old_written (turned number place) answer out = out

-- Lent memory after a call (01, Refusal numbers).
abbrev pub old_leaves : Old → List ℕ → List ℕ → List ℕ
old_leaves (fine value) new old = new
old_leaves (turned number place) new old = old

-- ---- the calls

-- Concession, with value 0, and firing (01, Playing the table).
unfoldable pub old_firing : List ℕ → List ℕ → ℕ → ℕ → Old
old_firing s m e value =
    old_then (bare (judge_of s)) (λ n. old_lent (net_of s).conditions m (old_stop (stopping (net_of s) (marking m) e) (fine value)))

-- The firing of an unfolded event (01, Runs across).
unfoldable pub old_unfolded_fire : List ℕ → List ℕ → ℕ → Old
old_unfolded_fire s m j =
    let n = basic (net_of s) in
    old_then (bare (judge_of s)) (λ _. old_or (unfolding_refused (net_of s)) (old_lent n.conditions m (old_stop (stopping n (marking m) j) (fine n.conditions))))

-- A run of the table replayed from a state (01, Playing the table).
abbrev pub old_played : Net → State → List ℕ → ℕ → Old
old_played n s r room = old_or (too_long r) (old_stuck (replay n 0 s r) (old_fitting n.conditions room))

-- A replay from the table's own marking, and from a lent one (01, Playing the table).
unfoldable pub old_replay : List ℕ → List ℕ → ℕ → Old
old_replay s r room = old_then (bare (judge_of s)) (λ n. old_played (net_of s) (opening (net_of s)) r room)

unfoldable pub old_replay_from : List ℕ → List ℕ → List ℕ → ℕ → Old
old_replay_from s m r room =
    old_then (bare (judge_of s)) (λ n. old_lent (net_of s).conditions m (old_played (net_of s) (begun_at (net_of s) (marking m)) r room))

-- The steps of a run exchanged (01, Runs across).
unfoldable pub old_exchange : List ℕ → List ℕ → ℕ → Old
old_exchange s r k =
    let n = net_of s in
    old_then (bare (judge_of s)) (λ _. old_or (too_long r) (old_stuck (replay n 0 (opening n) r) (old_or (no_step r k) (old_or (not_apart n r k) (fine 2)))))

-- What a lift is refused with, before what is written of it (01, Runs across and Refusal numbers).
abbrev pub old_lifting : List ℕ → List ℕ → Old → Old
old_lifting s r rest =
    let n = net_of s in
    old_then (bare (judge_of s)) (λ _. old_or (too_long r) (old_or (unfolding_refused n) (old_stuck (replay n 0 (opening n) r) (old_or (again (repeated n (own_or_earliest n) 0 (opening n) r)) rest))))

-- The lift and its end (01, Runs across).
unfoldable pub old_lift : List ℕ → List ℕ → ℕ → Old
old_lift s r room = old_lifting s r (old_fitting (length (lifted (net_of s) (own_or_earliest (net_of s)) (opening (net_of s)) r)) room)

unfoldable pub old_lift_end : List ℕ → List ℕ → ℕ → Old
old_lift_end s r room = old_lifting s r (old_fitting (basic (net_of s)).conditions room)

-- What an unfolded run is refused with, before what is written of it (01, Runs across and Refusal numbers).
abbrev pub old_projecting : List ℕ → List ℕ → Old → Old
old_projecting s w rest =
    let u = basic (net_of s) in
    old_then (bare (judge_of s)) (λ _. old_or (too_long w) (old_or (unfolding_refused (net_of s)) (old_stuck (replay u 0 (opening u) w) rest)))

-- The projection and the end of an unfolded run (01, Runs across).
unfoldable pub old_project : List ℕ → List ℕ → ℕ → Old
old_project s w room = old_projecting s w (old_fitting (length (read_back (net_of s) w)) room)

unfoldable pub old_unfolded_replay : List ℕ → List ℕ → ℕ → Old
old_unfolded_replay s w room = old_projecting s w (old_fitting (basic (net_of s)).conditions room)
