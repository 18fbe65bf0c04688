-- Which condition a refused call names, for each call over its own contract: exactly the lowest that stopped the step.
use lib.ListN.{length}
use Rattle.model.specs.Net.{begin}
use Rattle.model.specs.Unfolding.{basic}
use Rattle.model.specs.Lent.{marking}
use Rattle.model.specs.Across.{of_table, of_unfolding}
use Rattle.table.specs.Decoded.{net_of}
use Rattle.across.specs.Calls.{across_of}
use Rattle.game.proofs.concession.Reads as concession
use Rattle.game.proofs.fire.Reads as fire
use Rattle.firing.proofs.unfolded_fire.Reads as unfolded-fire
use Rattle.replay.proofs.replay.Reads as replay
use Rattle.replay.proofs.replay_from.Reads as replay-from
use Rattle.exchange.proofs.exchange.Reads as exchange
use Rattle.lift.proofs.lift.Reads as lift
use Rattle.ends.proofs.lift_end.Reads as lift_end
use Rattle.project.proofs.project.Reads as project
use Rattle.ends.proofs.unfolded_replay.Reads as unfolded-replay
use Rattle.promises.specs.Stopped.{before_firing, before_unfolded, before_run, before_run_from, FiringNames, RunNames}
use Rattle.promises.proofs.Stopped.{concession_names, fire_names, unfolded_fire_names, replay_names, replay_from_names, exchange_names, lift_names, lift_end_names, project_names, unfolded_replay_names}

-- ---- firing

pub concession_named : (κs : _) (a : _) (r : _) (x : _) → concession.Learnt κs a r x
    → FiringNames (before_firing a.0.now a.1.0.now) of_table (net_of a.0.now) (marking a.1.0.now) a.1.1.0.0 r
concession_named κs a r x h = rw h (concession_names a.0.now a.1.0.now a.1.1.0.0)

pub fire_named : (κs : _) (a : _) (r : _) (x : _) → fire.Learnt κs a r x
    → FiringNames (before_firing a.0.now a.1.0.now) of_table (net_of a.0.now) (marking a.1.0.now) a.1.1.0.0 r
fire_named κs a r x h = rw h.0 (fire_names a.0.now a.1.0.now a.1.1.0.0)

pub unfolded_fire_named : (κs : _) (a : _) (r : _) (x : _) → unfolded-fire.Learnt κs a r x
    → FiringNames (before_unfolded a.0.now a.1.0.now) of_unfolding (basic (net_of a.0.now)) (marking a.1.0.now) a.1.1.0.0 r
unfolded_fire_named κs a r x h = rw h.0 (unfolded_fire_names a.0.now a.1.0.now a.1.1.0.0)

-- ---- runs of the table

pub replay_named : (κs : _) (a : _) (r : _) (x : _) → replay.Learnt κs a r x
    → RunNames (before_run a.0.now a.1.0.now) of_table (net_of a.0.now) (begin (net_of a.0.now)) a.1.0.now r
replay_named κs a r x h = rw h.0 (replay_names a.0.now a.1.0.now (length a.1.1.0.now))

pub replay_from_named : (κs : _) (a : _) (r : _) (x : _) → replay-from.Learnt κs a r x
    → RunNames (before_run_from a.0.now a.1.0.now a.1.1.0.now) of_table (net_of a.0.now) (marking a.1.0.now) a.1.1.0.now r
replay_from_named κs a r x h = rw h.0 (replay_from_names a.0.now a.1.0.now a.1.1.0.now (length a.1.1.1.0.now))

pub exchange_named : (κs : _) (a : _) (r : _) (x : _) → exchange.Learnt κs a r x
    → RunNames (before_run a.0.now a.1.0.now) of_table (net_of a.0.now) (begin (net_of a.0.now)) a.1.0.now r
exchange_named κs a r x h = rw h.0 (exchange_names a.0.now a.1.0.now a.1.1.0)

pub lift_named : (κs : _) (a : _) (r : _) (x : _) → lift.Learnt κs a r x
    → RunNames (across_of a.0.now a.1.0.now) of_table (net_of a.0.now) (begin (net_of a.0.now)) a.1.0.now r
lift_named κs a r x h = rw h.0 (lift_names a.0.now a.1.0.now (length a.1.1.0.now))

pub lift_end_named : (κs : _) (a : _) (r : _) (x : _) → lift_end.Learnt κs a r x
    → RunNames (across_of a.0.now a.1.0.now) of_table (net_of a.0.now) (begin (net_of a.0.now)) a.1.0.now r
lift_end_named κs a r x h = rw h.0 (lift_end_names a.0.now a.1.0.now (length a.1.1.0.now))

-- ---- runs of the unfolded net

pub project_named : (κs : _) (a : _) (r : _) (x : _) → project.Learnt κs a r x
    → RunNames (across_of a.0.now a.1.0.now) of_unfolding (basic (net_of a.0.now)) (begin (basic (net_of a.0.now))) a.1.0.now r
project_named κs a r x h = rw h.0 (project_names a.0.now a.1.0.now (length a.1.1.0.now))

pub unfolded_replay_named : (κs : _) (a : _) (r : _) (x : _) → unfolded-replay.Learnt κs a r x
    → RunNames (across_of a.0.now a.1.0.now) of_unfolding (basic (net_of a.0.now)) (begin (basic (net_of a.0.now))) a.1.0.now r
unfolded_replay_named κs a r x h = rw h.0 (unfolded_replay_names a.0.now a.1.0.now (length a.1.1.0.now))
