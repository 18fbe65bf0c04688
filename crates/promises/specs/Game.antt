-- What is promised of the calls of the game, over the definitions that their contracts cite.
use Rattle.std.specs.Prelude.{◌≡◌, List, [], ◌∷◌, ℕ, ◌≤◌, length, Ok}
use Rattle.table.specs.Decoded.{net_of}
use Rattle.game.specs.Calls.{fired_of}
use Rattle.replay.specs.Calls.{replay_of, end_of, replay_from_of, end_from_of}
use Rattle.exchange.specs.Calls.{exchanged_of}

-- What exchange leaves is accepted by replay, given room, and is replayed as the run it was given: the same answer and the same
-- end, whatever room there is (01, Runs across: demand 3).
pub record Replayed (s r : List ℕ) (k : ℕ) (out : List ℕ) : Type 0 where
  pub accepted : (net_of s).conditions ≤ length out → replay_of s (exchanged_of s r k) (length out) ≡ Ok (net_of s).conditions
  pub answer : replay_of s (exchanged_of s r k) (length out) ≡ replay_of s r (length out)
  pub same_end : end_of s (exchanged_of s r k) out ≡ end_of s r out

-- A firing is the replay of one step from the lent marking: the same answer, and the marking it leaves is the end (01, Playing the
-- table).
pub record OneStep (s m : List ℕ) (e c : ℕ) : Type 0 where
  pub answer : replay_from_of s m (e ∷ []) (length m) ≡ Ok c
  pub same_end : end_from_of s m (e ∷ []) m ≡ fired_of s m e
