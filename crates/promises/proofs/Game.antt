-- The promises of the calls of the game: demand 3 for exchange and replay, a firing as a replay of one step, and refusals that change
-- nothing.
use mathlib.Core.Path.{◌≡◌, refl, sym, ap, ◌∙◌}
use mathlib.Core.Option.{Option, none, some}
use mathlib.Core.List.{List, [], ◌∷◌, ◌++◌, append-nil}
use Prim.Native.Nat.{ℕ}
use native.Mathlib.Omega.{arith}
use lib.ListN.{length, drop_of_length-le}
use Rattle.model.specs.Net.{Marking, begin, fire, Stop, stopping}
use Rattle.model.specs.Runs.{end, opening, replay}
use Rattle.model.specs.Exchange.{exchanged}
use Rattle.model.specs.Across.{Answer, run, refusal, of_table, stuck, too_long, exchanging, exchange}
use Rattle.model.proofs.Replay.{replay_runs, replay_go}
use Rattle.model.proofs.Answers.{unless_run, exchanging_run, length_short}
use Rattle.model.proofs.Exchange.{exchanged_short}
use Rattle.model.proofs.Demands.{exchange_exchanged}
use Rattle.model.proofs.Lent.{length_bytes}
use Rattle.refusal.specs.declared.Refusal.{Refusal}
use Rattle.refusal.specs.Answer.{Judged, written}
use Rattle.std.specs.Prelude.{Ok, Err}
use Rattle.refusal.proofs.Chain.{never_both, then_fine, fitting_room, written_refused}
use Rattle.table.specs.Walk.{judge_of}
use Rattle.table.specs.Decoded.{net_of}
use Rattle.table.specs.Links.{refused_or}
use Rattle.table.proofs.Decoded.{conditions_are_all}
use Rattle.model.specs.Lent.{bytes, marking}
use Rattle.game.specs.Calls.{on_marking, leaves, firing_stopped, firing_of, fire_of, fired_of}
use Rattle.played.specs.Begun.{begun_at}
use Rattle.replay.specs.Calls.{played_of, replay_of, end_of, replay_from_of, end_from_of}
use Rattle.exchange.specs.Calls.{swapping, exchange_of, exchanged_of}
use Rattle.game.proofs.Marked.{on_fine}
use Rattle.promises.specs.Game.{Replayed, OneStep}

-- ---- refusals change nothing

-- A refused answer leaves lent memory as it was.
unchanged : (a : Judged) (x : Refusal) (new old : List ℕ) → a ≡ Err x → leaves a new old ≡ old
unchanged a x new old e = rw e

-- A refused firing leaves the lent marking as it was.
pub fire_unchanged : (s m : List ℕ) (e : ℕ) (x : Refusal) → fire_of s m e ≡ Err x → fired_of s m e ≡ m
unfolding fired_of
fire_unchanged s m e x h = unchanged (fire_of s m e) x (bytes (net_of s).conditions (fire (net_of s) (marking m) e)) m h

-- A refused replay leaves the lent output as it was.
pub replay_unchanged : (s r out : List ℕ) (x : Refusal) → replay_of s r (length out) ≡ Err x → end_of s r out ≡ out
unfolding end_of
replay_unchanged s r out x h = sym (written_refused (replay_of s r (length out)) x (bytes (net_of s).conditions (end (net_of s) (begin (net_of s)) r)) out h)

-- So does a refused replay from a lent marking.
pub replay_from_unchanged : (s m r out : List ℕ) (x : Refusal) → replay_from_of s m r (length out) ≡ Err x → end_from_of s m r out ≡ out
unfolding end_from_of
replay_from_unchanged s m r out x h = sym (written_refused (replay_from_of s m r (length out)) x (bytes (net_of s).conditions (end (net_of s) (marking m) r)) out h)

-- A refused exchange leaves the lent run as it was.
pub exchange_unchanged : (s r : List ℕ) (k : ℕ) (x : Refusal) → exchange_of s r k ≡ Err x → exchanged_of s r k ≡ r
unfolding exchanged_of
exchange_unchanged s r k x h = unchanged (exchange_of s r k) x (exchanged k r) r h

-- ---- demand 3

pub swapping_fine : (a : Answer) (c : ℕ) → swapping a ≡ Ok c → (w : List ℕ) × (a ≡ run w)
swapping_fine (run w) c e = (w, refl)
swapping_fine (refusal x) c e = never_both (sym e)

-- What a fine exchange leaves is replayed with the same answer and the same end.
pub exchange_replayed : (s r : List ℕ) (k c : ℕ) → exchange_of s r k ≡ Ok c → (out : List ℕ) → Replayed s r k out
unfolding exchange_of exchanged_of replay_of end_of played_of opening exchange
exchange_replayed s r k c h out =
    let (n, j, f) = then_fine (judge_of s) (λ n. swapping (exchange (net_of s) r k)) c h in
    let (w, a) = swapping_fine (exchange (net_of s) r k) c f in
    let d = (exchange_exchanged (net_of s) r k w a).1 in
    let short = (unless_run (too_long r) (exchanging (net_of s) r k) w a).0 in
    let plays = (exchanging_run (net_of s) r k w (unless_run (too_long r) (exchanging (net_of s) r k) w a).1).0 in
    let old : stuck of_table (replay (net_of s) 0 (opening (net_of s)) r) ≡ none = ap (stuck of_table) (replay_runs (net_of s) 0 (opening (net_of s)) r plays) in
    let new : stuck of_table (replay (net_of s) 0 (opening (net_of s)) (exchanged k r)) ≡ none = ap (stuck of_table) (replay_runs (net_of s) 0 (opening (net_of s)) (exchanged k r) d.run) in
    let left : leaves (exchange_of s r k) (exchanged k r) r ≡ exchanged k r = rw h in
    let same : replay_of s (exchanged k r) (length out) ≡ replay_of s r (length out) = simp (exchanged_short k r short, short, old, new) in
    record {
      accepted = λ room.
          let fits = fitting_room (net_of s).conditions (length out) room in
          let taken : replay_of s r (length out) ≡ Ok (net_of s).conditions = rw (j, short, old) fits in
          ap (λ (x : List ℕ). replay_of s x (length out)) left ∙ same ∙ taken;
      answer = ap (λ (x : List ℕ). replay_of s x (length out)) left ∙ same;
      same_end = ap (λ (x : List ℕ). end_of s x out) left
          ∙ ap (λ (x : Judged). written x (bytes (net_of s).conditions (end (net_of s) (begin (net_of s)) (exchanged k r))) out) same
          ∙ ap (λ (m : Marking). written (replay_of s r (length out)) (bytes (net_of s).conditions m) out) d.same_end;
    }

-- ---- a firing as a replay

stopped_fine : (o : Option Stop) (v c : ℕ) → refused_or (firing_stopped of_table o) (Ok v) ≡ Ok c → (o ≡ none) × (v ≡ c)
stopped_fine none v c e = (refl, cc)
stopped_fine (some x) v c e = never_both (sym e)

-- A fine firing is a fine replay of that one step from the lent marking, with the same end.
pub fire_replayed : (s m : List ℕ) (e c : ℕ) → fire_of s m e ≡ Ok c → OneStep s m e c
unfolding firing_of fired_of replay_from_of end_from_of played_of begun_at end replay
fire_replayed s m e c h =
    let k = on_fine s m (λ n. refused_or (firing_stopped of_table (stopping (net_of s) (marking m) e)) (Ok (net_of s).conditions)) c h in
    let (o, v) = stopped_fine (stopping (net_of s) (marking m) e) (net_of s).conditions c k.goes in
    let count : length m ≡ (net_of s).conditions = k.long ∙ conditions_are_all s k.events k.judged in
    let short : too_long (e ∷ []) ≡ none = length_short (e ∷ []) (omega arith) in
    let free : stuck of_table (replay (net_of s) 0 (begun_at (net_of s) (marking m)) (e ∷ [])) ≡ none
    = ap (stuck of_table) (replay_go (net_of s) 0 (begun_at (net_of s) (marking m)) e [] o) in
    let fits = fitting_room (net_of s).conditions (length m) (omega arith) in
    let played : played_of (net_of s) (begun_at (net_of s) (marking m)) (e ∷ []) (length m) ≡ refused_or (firing_stopped of_table (stopping (net_of s) (marking m) e)) (Ok (net_of s).conditions)
    = rw (short, free, o) fits in
    let all : List ℕ = bytes (net_of s).conditions (fire (net_of s) (marking m) e) in
    let size = length_bytes (net_of s).conditions (fire (net_of s) (marking m) e) in
    let answer : replay_from_of s m (e ∷ []) (length m) ≡ Ok c
    = ap (λ (x : Judged). on_marking s m (λ n. x)) played ∙ h in
    record {
      answer = answer;
      same_end = rw (answer, h) (ap (λ (x : List ℕ). all ++ x) (drop_of_length-le m {i = length all} (omega (arith, size))) ∙ append-nil all);
    }
