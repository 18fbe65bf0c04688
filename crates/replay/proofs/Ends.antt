-- A replay once its run was played: what it answers, and what it leaves in its lent output.
use Prim.Native.Nat.{ℕ}
use mathlib.Core.Path.{◌≡◌, sym, ap, ◌∙◌}
use mathlib.Core.List.{List}
use Rattle.model.specs.Net.{Net, Marking, begin}
use Rattle.model.specs.Runs.{opening, replay}
use Rattle.model.specs.Across.{of_table, stuck, too_long}
use Rattle.refusal.specs.declared.Refusal as table
use Rattle.std.specs.Prelude.{Result, Ok, Err}
use Rattle.refusal.specs.Answer.{fitting}
use Rattle.table.specs.Walk.{judge_of}
use Rattle.table.specs.Decoded.{net_of}
use Rattle.model.specs.Lent.{marking}
use Rattle.game.specs.Calls.{on_marking}
use Rattle.played.specs.Begun.{begun_at}
use Rattle.replay.specs.Calls.{played_of, replay_of, replay_from_of}
use Rattle.played.specs.declared.Ended.{Ended}
use Rattle.played.specs.Played.{ended, Plays}
use Rattle.table.specs.Links.{refused_or}
use Rattle.table.proofs.Links.{links_refused, links_fine}
use Rattle.game.proofs.Marked.{on_then}

-- ---- a run that was played, and its end with room for so many bytes

module _ (n : Net) (m : Marking) (r : List ℕ) (answer : Result Ended table.Refusal) (p : Plays n m r answer) where
  pub tail_refused : (room : ℕ) (x : table.Refusal) → answer ≡ Err x → Err x ≡ played_of n (begun_at n m) r room
  unfolding played_of
  tail_refused room x e =
      let told = sym p.told ∙ ap ended e in
      sym told ∙ links_refused (too_long r) (stuck of_table (replay n 0 (begun_at n m) r)) n.conditions (fitting n.conditions room) x told

  module _ (whole : Ended) (e : answer ≡ Ok whole) where
    told_fine : Ok whole.conditions ≡ refused_or (too_long r) (refused_or (stuck of_table (replay n 0 (begun_at n m) r)) (Ok n.conditions))
    told_fine = sym (ap ended e) ∙ p.told

    pub tail_whole : whole.conditions ≡ n.conditions
    tail_whole = (links_fine (too_long r) (stuck of_table (replay n 0 (begun_at n m) r)) n.conditions whole.conditions (Ok 0) (sym told_fine)).0

    pub tail_fine : (room : ℕ) → fitting n.conditions room ≡ played_of n (begun_at n m) r room
    unfolding played_of
    tail_fine room =
        (links_fine (too_long r) (stuck of_table (replay n 0 (begun_at n m) r)) n.conditions whole.conditions (fitting n.conditions room) (sym told_fine)).1

-- ---- the calls, once the table and the lent marking are judged

pub replay_judged : (s r : List ℕ) (room n : ℕ) → judge_of s ≡ Ok n → replay_of s r room ≡ played_of (net_of s) (begun_at (net_of s) (begin (net_of s))) r room
unfolding replay_of opening begun_at begin
replay_judged s r room n j = simp j

pub replay_from_judged : (s m r : List ℕ) (room n : ℕ) → on_marking s m Ok ≡ Ok n → replay_from_of s m r room ≡ played_of (net_of s) (begun_at (net_of s) (marking m)) r room
unfolding replay_from_of
replay_from_judged s m r room n j = sym (on_then s m Ok (λ n. played_of (net_of s) (begun_at (net_of s) (marking m)) r room)) ∙ simp j

pub replay_from_refused : (s m r : List ℕ) (room : ℕ) (x : table.Refusal) → on_marking s m Ok ≡ Err x → Err x ≡ replay_from_of s m r room
unfolding replay_from_of
replay_from_refused s m r room x j = sym (sym (on_then s m Ok (λ n. played_of (net_of s) (begun_at (net_of s) (marking m)) r room)) ∙ simp j)
