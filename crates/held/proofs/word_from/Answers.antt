-- `held::word_from` meets its contract.
use native.Mathlib.Omega.{arith}
use mathlib.Core.Path.{ap}
use lib.ListN.{length, length-take, drop}
use Rattle.held.proofs.Words.{gather_none, gather_more, gather_over, gather_end}
use Rattle.held.proofs.word_from.Goals as goal
use Rattle.held.proofs.word_from.Goals.{then-byte-eq1, else-byte-eq1}

pub loop-j-init : goal.loop-j-init
loop-j-init c = gather_none _

pub overflow_shl-word : goal.overflow_shl-word
overflow_shl-word c =
    let most = ap length c.bytes_from-byte-items.ensures in
    omega (arith, most, length-take 64 (drop c.args.from c.args.state.now))

pub loop-j-preserved : goal.loop-j-preserved
loop-j-preserved c =
    let most = ap length c.bytes_from-byte-items.ensures in
    let few = length-take 64 (drop c.args.from c.args.state.now) in
    elim c.if-byte-eq1.branch [
      | then-byte-eq1 t ↦ gather_more _ _ _ c.loop-j.invariant (omega (arith, most, few)) t.if-byte-eq1.true _ t.word-is
      | else-byte-eq1 t ↦ gather_over _ _ _ c.loop-j.invariant t.if-byte-eq1.false _ t.word-is
    ]

pub returns : goal.returns
returns c = gather_end _ _ _ _ _ c.bytes_from-byte-items.ensures c.loop-j.invariant c.loop-j-test.false
