-- What is promised of lift, project, replay and exchange together: demands 2 and 3 over the definitions that their contracts cite.
use Rattle.std.specs.Prelude.{◌≡◌, ◌↔◌, List, ℕ, ◌≤◌, T, length, take, Ok}
use Rattle.model.specs.Net.{begin}
use Rattle.model.specs.Runs.{runs, end}
use Rattle.model.specs.Unfolding.{basic}
use Rattle.model.specs.Exchange.{exchanged}
use Rattle.model.specs.Across.{read_back}
use Rattle.model.specs.Demands.{Correspond}
use Rattle.model.specs.Readings.{Again, FirstAgain, Reading, Unread, Forced}
use Rattle.refusal.specs.Answer.{refused_at}
use Rattle.table.specs.Decoded.{net_of}
use Rattle.replay.specs.Calls.{replay_of}
use Rattle.exchange.specs.Calls.{exchanged_of}
use Rattle.lift.specs.Calls.{lift_of, lifted_of}
use Rattle.ends.specs.Calls.{lift_end_of, lift_ended_of, unfolded_replay_of, unfolded_replayed_of}
use Rattle.project.specs.Calls.{project_of, projected_of}
use Rattle.promises.specs.Former.{former_lift_of}

-- What lift wrote: one number for each step, from the first element of its lent output on (01, Runs across).
abbrev pub lift_on : List ℕ → List ℕ → List ℕ → List ℕ
lift_on s r out = take (length r) (lifted_of s r out)

-- What project wrote, likewise (01, Runs across).
abbrev pub project_on : List ℕ → List ℕ → List ℕ → List ℕ
project_on s w out = take (length w) (projected_of s w out)

-- What lift wrote is a run of the unfolded net from its start that reads back as the run, and the two ends correspond; project takes it,
-- given room, and writes the run; and the end that lift tells is the one that a replay in the unfolded net comes to (01, Runs across:
-- demand 2).
pub record TakenBack (s r out run_out end_out : List ℕ) : Type 0 where
  pub unfolded : T (runs (basic (net_of s)) (begin (basic (net_of s))) (lift_on s r out))
  pub back : read_back (net_of s) (lift_on s r out) ≡ r
  pub ends : Correspond (net_of s) (end (net_of s) (begin (net_of s)) r) (end (basic (net_of s)) (begin (basic (net_of s))) (lift_on s r out))
  pub answer : length r ≤ length run_out → project_of s (lift_on s r out) (length run_out) ≡ Ok (length r)
  pub run : length r ≤ length run_out → project_on s (lift_on s r out) run_out ≡ r
  pub end_answer : unfolded_replay_of s (lift_on s r out) (length end_out) ≡ lift_end_of s r (length end_out)
  pub same_end : unfolded_replayed_of s (lift_on s r out) end_out ≡ lift_ended_of s r end_out

-- What project wrote are the table's events behind the steps of a run of the unfolded net from its start; they are a run of the table,
-- which replay accepts, given room, and the two ends correspond. On a later occurrence the pick was forced (01, Runs across: demand 2; 02,
-- No. 3).
pub record ReadBack (s w out end_out : List ℕ) : Type 0 where
  pub unfolded : T (runs (basic (net_of s)) (begin (basic (net_of s))) w)
  pub back : project_on s w out ≡ read_back (net_of s) w
  pub run : T (runs (net_of s) (begin (net_of s)) (project_on s w out))
  pub ends : Correspond (net_of s) (end (net_of s) (begin (net_of s)) (project_on s w out)) (end (basic (net_of s)) (begin (basic (net_of s))) w)
  pub answer : (net_of s).conditions ≤ length end_out → replay_of s (project_on s w out) (length end_out) ≡ Ok (net_of s).conditions
  pub forced : Forced (net_of s) w

-- Of an accepted table that unfolds and at most 4,096 numbers, project, given room, takes exactly the runs of the unfolded net from its
-- start (01, Runs across: demand 2).
pub record TakenExactly (s w : List ℕ) (room : ℕ) : Type 0 where
  pub taking : length w ≤ room → (project_of s w room ≡ Ok (length w)) ↔ T (runs (basic (net_of s)) (begin (basic (net_of s))) w)

-- A run that replay accepts, of a table that unfolds, is refused with 15 exactly if no run of the unfolded net reads back as it: at the
-- first step that none goes past, which is the first at which an event comes again that marks for another; and by the former rule it was
-- refused so at that step or a sooner one. Given room it lifts exactly if some run of the unfolded net reads back as it, which is so
-- exactly if no such event comes again (02, No. 3: demand 2).
pub record TurnedAway (s r : List ℕ) (room : ℕ) : Type 0 where
  pub refusing : ((i : ℕ) × (lift_of s r room ≡ refused_at 15 i)) ↔ (Reading (net_of s) r → ⊥)
  pub unread : (i : ℕ) → (lift_of s r room ≡ refused_at 15 i) ↔ Unread (net_of s) r i
  pub repeating : (i : ℕ) → (lift_of s r room ≡ refused_at 15 i) ↔ FirstAgain (net_of s) r i
  pub sooner : (i : ℕ) → lift_of s r room ≡ refused_at 15 i → (k : ℕ) × (k ≤ i) × (former_lift_of s r room ≡ refused_at 15 k)
  pub reading : length r ≤ room → (lift_of s r room ≡ Ok (length r)) ↔ Reading (net_of s) r
  pub lifting : length r ≤ room → (lift_of s r room ≡ Ok (length r)) ↔ ((i : ℕ) → Again (net_of s) r i → ⊥)

-- Of a run and the run that exchange leaves, one lifts exactly if the other does; the lifts differ by the same exchange alone, whatever
-- stands past them in the lent output; and their unfolded ends are the same (01, Runs across: demand 3).
pub record LiftedAlike (s r : List ℕ) (k : ℕ) (out end_out : List ℕ) : Type 0 where
  pub both : (c : ℕ) → (lift_of s r (length out) ≡ Ok c) ↔ (lift_of s (exchanged_of s r k) (length out) ≡ Ok c)
  pub swapped : (c : ℕ) → lift_of s r (length out) ≡ Ok c → lifted_of s (exchanged_of s r k) out ≡ exchanged k (lifted_of s r out)
  pub both_end : (c : ℕ) → (lift_end_of s r (length end_out) ≡ Ok c) ↔ (lift_end_of s (exchanged_of s r k) (length end_out) ≡ Ok c)
  pub same_end : (c : ℕ) → lift_end_of s r (length end_out) ≡ Ok c → lift_ended_of s (exchanged_of s r k) end_out ≡ lift_ended_of s r end_out
