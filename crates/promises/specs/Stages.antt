-- What is promised of every stage of a lifted and of a projected run: theorem 6.1 for each beginning of a run, and not for the ends alone.
use Rattle.std.specs.Prelude.{◌≡◌, List, ℕ, ◌≤◌, length, take, Ok}
use Rattle.model.specs.Net.{begin}
use Rattle.model.specs.Runs.{end}
use Rattle.model.specs.Unfolding.{basic}
use Rattle.model.specs.Lent.{marking}
use Rattle.model.specs.Demands.{Correspond}
use Rattle.table.specs.Decoded.{net_of}
use Rattle.replay.specs.Calls.{end_of}
use Rattle.lift.specs.Calls.{lift_of}
use Rattle.project.specs.Calls.{project_of}
use Rattle.ends.specs.Calls.{lift_ended_of, unfolded_replayed_of}
use Rattle.promises.specs.Across.{lift_on, project_on, TakenBack, ReadBack}

-- What replay writes of a run, given room, and what a call writes of the same run in the unfolded net, given room, are markings that
-- correspond (paper, theorem 6.1).
pub record WrittenAlike (s r table_out unfolded_out written : List ℕ) : Type 0 where
  pub alike : (net_of s).conditions ≤ length table_out → (basic (net_of s)).conditions ≤ length unfolded_out
      → Correspond (net_of s) (marking (take (net_of s).conditions (end_of s r table_out))) (marking (take (basic (net_of s)).conditions written))

-- The first k steps of a run lift to the first k numbers of its lift; the markings reached there correspond, as they are defined and as
-- replay and lift_end write them; and all that is promised of a lift holds of them (paper, theorem 6.1: demand 2).
pub record LiftedStage (s r out table_out unfolded_out : List ℕ) (k : ℕ) : Type 0 where
  pub answer : lift_of s (take k r) (length out) ≡ Ok (length (take k r))
  pub beginning : lift_on s (take k r) out ≡ take k (lift_on s r out)
  pub ends : Correspond (net_of s) (end (net_of s) (begin (net_of s)) (take k r)) (end (basic (net_of s)) (begin (basic (net_of s))) (take k (lift_on s r out)))
  pub written : WrittenAlike s (take k r) table_out unfolded_out (lift_ended_of s (take k r) unfolded_out)
  pub taken : TakenBack s (take k r) out table_out unfolded_out

-- The first k steps of an unfolded run are projected to the first k steps of its projection; the markings reached there correspond, as they
-- are defined and as replay and unfolded_replay write them; and all that is promised of a projection holds of them (paper, theorem 6.1:
-- demand 2).
pub record ProjectedStage (s w out table_out unfolded_out : List ℕ) (k : ℕ) : Type 0 where
  pub answer : project_of s (take k w) (length out) ≡ Ok (length (take k w))
  pub beginning : project_on s (take k w) out ≡ take k (project_on s w out)
  pub ends : Correspond (net_of s) (end (net_of s) (begin (net_of s)) (take k (project_on s w out))) (end (basic (net_of s)) (begin (basic (net_of s))) (take k w))
  pub written : WrittenAlike s (take k (project_on s w out)) table_out unfolded_out (unfolded_replayed_of s (take k w) unfolded_out)
  pub read : ReadBack s (take k w) out table_out
