-- `replay::replay_from` meets its contract.
use Rattle.std.proofs.Common.{rules}
use mathlib.Core.Path.{◌≡◌, ◌∙◌, refl, sym, ap}
use lib.ListN.{length}
use Rattle.std.specs.Prelude.{Err}
use Rattle.refusal.proofs.Chain.{written_refused}
use Rattle.model.specs.Net.{Marking}
use Rattle.table.specs.Decoded.{net_of}
use Rattle.played.specs.Begun.{begun_at}
use Rattle.replay.specs.Calls.{played_of, end_from_of}
use Rattle.replay.proofs.Starting.{lent_judged, lent_gathered}
use Rattle.replay.proofs.Ends.{replay_from_judged, replay_from_refused}
use Rattle.replay.proofs.replay_from.Goals as goal

pub returns-in_err-n : goal.returns-in_err-n
unfolding end_from_of
returns-in_err-n c =
    let told : c.from_residual.result ≡ Err c.in_err-n.field-0.0 = search rules in
    let same = replay_from_refused _ _ _ _ _ (sym c.in_err-n.ensures) in
    record {
      answer = told ∙ same;
      after = written_refused _ _ _ _ (sym same);
    }

pub replay_at-requires : goal.replay_at-requires
replay_at-requires c =
    lent_judged _ _ _ (sym c.in_ok-n.ensures)

pub returns : goal.returns
unfolding end_from_of
returns c =
    let s = c.args.table.now in
    let r = c.args.run.now in
    let n = net_of s in
    let j = sym c.in_ok-n.ensures in
    let start = lent_gathered _ _ _ j _ c.gather.ensures in
    let judged = sym (replay_from_judged s c.args.marking.now r (length c.args.end.now) _ j) in
    let told = c.replay_at.ensures.answer ∙ ap (λ (m : Marking). played_of n (begun_at n m) r (length c.args.end.now)) start ∙ judged in
    record {
      answer = told;
      after = c.replay_at.ensures.after ∙ rw (told, start) refl;
    }
