-- What each call answers and what it leaves in lent memory, as functions of what it was given.
use Rattle.std.proofs.Math.Option.{Option, none, some}
use Rattle.std.specs.Prelude.{List, ℕ, Ok, Err}
use Rattle.model.specs.Net.{fire, Stop, stop_place, stopping}
use Rattle.model.specs.Across.{Whose, of_table, Refusal, stopped}
use Rattle.refusal.specs.Answer.{Judged, and_then}
use Rattle.table.specs.Walk.{judge_of}
use Rattle.table.specs.Decoded.{net_of}
use Rattle.table.specs.Links.{refused_or}
use Rattle.model.specs.Lent.{bytes, marking}
use Rattle.game.specs.Lent.{lent}

-- ---- what the calls share

-- A table, judged, then a lent marking of it (01, Refusal numbers).
unfoldable pub on_marking : List ℕ → List ℕ → (ℕ → Judged) → Judged
on_marking s m rest = and_then (judge_of s) (λ n. lent (net_of s).conditions m (rest n))

-- Lent memory after a call: new where the answer is fine, else as it was (01, Refusal numbers).
abbrev pub leaves : Judged → List ℕ → List ℕ → List ℕ
leaves (Ok value) new old = new
leaves (Err x) new old = old

-- ---- concession and firing

-- What stops a firing, as the model's refusal: its place is the condition that stops it (02, No. 2).
abbrev pub firing_stopped : Whose → Option Stop → Option Refusal
firing_stopped w none = none
firing_stopped w (some v) = some (stopped w v (stop_place v))

-- An event asked for at a lent marking: 1 to 9, 18, then 10 at 0, 11 and 12 at the condition; fine: a value (01, Refusal numbers; 02,
-- No. 2).
unfoldable pub firing_of : List ℕ → List ℕ → ℕ → ℕ → Judged
firing_of s m e value = on_marking s m (λ n. refused_or (firing_stopped of_table (stopping (net_of s) (marking m) e)) (Ok value))

-- Concession is only tested, so nothing is written (01, Playing the table).
abbrev pub concession_of : List ℕ → List ℕ → ℕ → Judged
concession_of s m e = firing_of s m e 0

-- Firing answers with the number of conditions, whose bytes it writes (01, Playing the table).
abbrev pub fire_of : List ℕ → List ℕ → ℕ → Judged
fire_of s m e = firing_of s m e (net_of s).conditions

-- The lent marking after firing (01, Playing the table).
unfoldable pub fired_of : List ℕ → List ℕ → ℕ → List ℕ
fired_of s m e = leaves (fire_of s m e) (bytes (net_of s).conditions (fire (net_of s) (marking m) e)) m
