-- `replay::replay` meets its contract.
use Rattle.std.proofs.Common.{rules}
use mathlib.Core.Path.{◌≡◌, ◌∙◌, refl, sym, ap}
use lib.ListN.{length}
use Rattle.model.specs.Net.{Marking}
use Rattle.table.specs.Decoded.{net_of}
use Rattle.played.specs.Begun.{begun_at}
use Rattle.refusal.proofs.Chain.{passed_up}
use Rattle.replay.specs.Calls.{played_of, replay_of, end_of}
use Rattle.replay.proofs.Ends.{replay_judged}
use Rattle.replay.proofs.replay.Goals as goal

pub returns-in_err-n : goal.returns-in_err-n
unfolding replay_of end_of
returns-in_err-n c =
    let same : c.from_residual.result ≡ c.judge.result = search rules in
    record {
      answer = same ∙ passed_up _ c.judge.ensures c.in_err-n.was;
      after = simp (sym c.in_err-n.ensures);
    }

pub start_held-requires : goal.start_held-requires
start_held-requires c =
    sym c.in_ok-n.ensures

pub replay_at-requires : goal.replay_at-requires
replay_at-requires c =
    sym c.in_ok-n.ensures

pub returns : goal.returns
unfolding end_of
returns c =
    let s = c.args.table.now in
    let r = c.args.run.now in
    let n = net_of s in
    let j = sym c.in_ok-n.ensures in
    let start = c.start_held.ensures in
    let same = ap (λ (m : Marking). played_of n (begun_at n m) r (length c.args.end.now)) start ∙ sym (replay_judged s r (length c.args.end.now) _ j) in
    let told = c.replay_at.ensures.answer ∙ same in
    record {
      answer = told;
      after = c.replay_at.ensures.after ∙ rw (told, start) refl;
    }
