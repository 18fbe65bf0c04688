-- The calls on the unfolding by the paper's sets, for each call over its own contract.
use mathlib.Core.Path.{◌≡◌, sym, ◌∙◌}
use mathlib.Core.Bool.{true, false}
use mathlib.Core.Option.{none}
use Prim.Native.Nat.{ℕ, ◌≤◌}
use lib.ListN.{length, take}
use Rattle.model.specs.Unfolding.{basic}
use Rattle.model.specs.Across.{most_steps, unfolding_refused}
use Rattle.model.specs.Paper.{BasicFires, MixedFires, copied}
use Rattle.std.specs.Prelude.{Ok}
use Rattle.records.specs.Records.{old_rule}
use Rattle.table.specs.Walk.{judge_of}
use Rattle.table.specs.Decoded.{net_of}
use Rattle.unfolding.proofs.condition_count.Reads as condition-count
use Rattle.unfolding.proofs.event_count.Reads as event-count
use Rattle.unfolded_lists.proofs.unfolded_pre.Reads as unfolded-pre
use Rattle.unfolded_lists.proofs.unfolded_post.Reads as unfolded-post
use Rattle.starting.proofs.unfolded_start.Reads as unfolded-start
use Rattle.firing.proofs.unfolded_fire.Reads as unfolded-fire
use Rattle.ends.proofs.unfolded_replay.Reads as unfolded-replay
use Rattle.promises.specs.Stopped.{before_unfolded, Passes}
use Rattle.promises.specs.Paper.{ConditionsNumbered, EventsNumbered, Listed, Started, FiresBy, ReplaysBy, in_sets}
use Rattle.promises.proofs.Paper.{conditions_paper_numbered, events_paper_numbered, list_paper, started_paper}
use Rattle.promises.proofs.PaperGame.{unfolded_fire_paper, unfolded_fire_old, unfolded_replay_paper, unfolded_replay_old}
use Rattle.promises.proofs.PaperSets.{unfolded_fire_sets, unfolded_replay_sets}

-- ---- the counts, the lists and the start

pub condition_count_numbers : (κs : _) (a : _) (r : _) (x : _) → condition-count.Learnt κs a r x → (c : ℕ) → r ≡ Ok c → ConditionsNumbered a.0.now c
condition_count_numbers κs a r x h c e = conditions_paper_numbered a.0.now c (sym h ∙ e)

pub event_count_numbers : (κs : _) (a : _) (r : _) (x : _) → event-count.Learnt κs a r x → (c : ℕ) → r ≡ Ok c → EventsNumbered a.0.now c
event_count_numbers κs a r x h c e = events_paper_numbered a.0.now c (sym h ∙ e)

pub unfolded_pre_lists : (κs : _) (a : _) (r : _) (x : _) → unfolded-pre.Learnt κs a r x → (c : ℕ) → r ≡ Ok c
    → Listed a.0.now false a.1.0.0 (take c x.1.1.0.now)
unfolded_pre_lists κs a r x h c e = rw h.1 (list_paper a.0.now false a.1.0.0 a.1.1.0.now c (sym h.0 ∙ e))

pub unfolded_post_lists : (κs : _) (a : _) (r : _) (x : _) → unfolded-post.Learnt κs a r x → (c : ℕ) → r ≡ Ok c
    → Listed a.0.now true a.1.0.0 (take c x.1.1.0.now)
unfolded_post_lists κs a r x h c e = rw h.1 (list_paper a.0.now true a.1.0.0 a.1.1.0.now c (sym h.0 ∙ e))

pub unfolded_start_holds : (κs : _) (a : _) (r : _) (x : _) → unfolded-start.Learnt κs a r x → (c : ℕ) → r ≡ Ok c
    → Started a.0.now (take c x.1.0.now)
unfolded_start_holds κs a r x h c e = rw h.1 (started_paper a.0.now a.1.0.now c (sym h.0 ∙ e))

-- ---- the token game

module _ (κs : _) (a : _) (r : _) (x : _) (h : unfolded-fire.Learnt κs a r x) (passes : Passes (before_unfolded a.0.now a.1.0.now)) where
  pub unfolded_fire_by_paper : old_rule a.0.now ≡ false → FiresBy BasicFires (net_of a.0.now) a.1.0.now a.1.1.0.0 r x.1.0.now
  unfolded_fire_by_paper q = rw (h.0, h.1) (unfolded_fire_paper a.0.now a.1.0.now a.1.1.0.0 passes q)

  pub unfolded_fire_by_old : old_rule a.0.now ≡ true
      → FiresBy (MixedFires (copied (net_of a.0.now))) (net_of a.0.now) a.1.0.now a.1.1.0.0 r x.1.0.now
  unfolded_fire_by_old q = rw (h.0, h.1) (unfolded_fire_old a.0.now a.1.0.now a.1.1.0.0 passes q)

  pub unfolded_fire_in_sets : FiresBy (in_sets a.0.now) (net_of a.0.now) a.1.0.now a.1.1.0.0 r x.1.0.now
  unfolded_fire_in_sets = rw (h.0, h.1) (unfolded_fire_sets a.0.now a.1.0.now a.1.1.0.0 passes)

module _ (κs : _) (a : _) (r : _) (x : _) (h : unfolded-replay.Learnt κs a r x) (n : ℕ) (j : judge_of a.0.now ≡ Ok n)
    (unfolds : unfolding_refused (net_of a.0.now) ≡ none) (short : length a.1.0.now ≤ most_steps)
    (room : (basic (net_of a.0.now)).conditions ≤ length a.1.1.0.now) where
  pub unfolded_replay_by_paper : old_rule a.0.now ≡ false → ReplaysBy BasicFires (net_of a.0.now) a.1.0.now r x.1.1.0.now
  unfolded_replay_by_paper q = rw (h.0, h.1) (unfolded_replay_paper a.0.now a.1.0.now a.1.1.0.now n j unfolds short room q)

  pub unfolded_replay_by_old : old_rule a.0.now ≡ true
      → ReplaysBy (MixedFires (copied (net_of a.0.now))) (net_of a.0.now) a.1.0.now r x.1.1.0.now
  unfolded_replay_by_old q = rw (h.0, h.1) (unfolded_replay_old a.0.now a.1.0.now a.1.1.0.now n j unfolds short room q)

  pub unfolded_replay_in_sets : ReplaysBy (in_sets a.0.now) (net_of a.0.now) a.1.0.now r x.1.1.0.now
  unfolded_replay_in_sets = rw (h.0, h.1) (unfolded_replay_sets a.0.now a.1.0.now a.1.1.0.now n j unfolds short room)
