-- `replay::replay_at` meets its contract.
use Rattle.std.proofs.Common.{rules}
use native.Mathlib.Omega.{arith}
use mathlib.Core.Path.{◌≡◌, ◌∙◌, refl, ap, ap₂}
use mathlib.Core.List.{List}
use Prim.Native.Nat.{ℕ}
use lib.ListN.{length}
use Rattle.std.specs.Prelude.{Err}
use Rattle.model.specs.Lent.{bytes}
use Rattle.refusal.specs.Answer.{fitting, written}
use Rattle.table.specs.Decoded.{net_of}
use Rattle.table.proofs.Walk.{accepted}
use Rattle.replay.proofs.Ends.{tail_refused, tail_whole, tail_fine}
use Rattle.replay.proofs.replay_at.Goals as goal

pub fill-requires : goal.fill-requires
fill-requires c =
    let few = (accepted _ _ c.requires).few in
    (c.requires, omega arith)

pub play-requires : goal.play-requires
play-requires c =
    (c.requires, c.fill.ensures)

pub returns-in_err-ended : goal.returns-in_err-ended
returns-in_err-ended c =
    let told : c.from_residual.result ≡ Err c.in_err-ended.field-0.0 = search rules in
    record {
      answer = told ∙ tail_refused _ _ _ _ c.in_err-ended.ensures _ _ refl;
      after = rw told;
    }

pub returns : goal.returns
returns c =
    let n = net_of c.args.table.now in
    let out = c.args.out.now in
    let whole : c.in_ok-ended.ended.conditions ≡ n.conditions = tail_whole _ _ _ _ c.in_ok-ended.ensures _ refl in
    let reached = ap₂ bytes whole (c.in_ok-ended.ensures.reached _ refl) in
    record {
      answer = c.write_end.ensures.answer ∙ ap (λ (k : ℕ). fitting k (length out)) whole ∙ tail_fine _ _ _ _ c.in_ok-ended.ensures _ refl (length out);
      after = c.write_end.ensures.after ∙ ap (λ (l : List ℕ). written c.write_end.result l out) reached;
    }
