-- The steps are stored one after the other: storing what is left gives what storing all of them gives.
use Prim.Native.Nat.{ℕ, ◌+◌, ◌*◌}
use native.Mathlib.Omega.{arith}
use mathlib.Core.Path.{◌≡◌, refl, sym, ap, ◌∙◌}
use lib.ListN.{length}
use lib.Seq.{length-sets}
use Rattle.writing.proofs.Outputs.{store_next_bytes, store_end_bytes}
use Rattle.writing.proofs.put_steps.Goals as goal

pub loop-k-init : goal.loop-k-init
loop-k-init c = (refl, refl)

pub loop-k-preserved : goal.loop-k-preserved
loop-k-preserved c =
    let run = c.args.run.now in
    let loop = c.loop-k in
    let k : ℕ = loop.k in
    let put = c.put_word.ensures in
    let next : 4 + 2 * (k + 1) ≡ 4 + 2 * k + 2 = omega arith in
    let step = store_next_bytes loop.bytes run (4 + 2 * k) k c.loop-k-test.true in
    (ap length put ∙ simp length-sets loop.invariant.0, rw (put, next, ← step) loop.invariant.1)

pub returns : goal.returns
returns c =
    let loop = c.loop-k in
    sym (store_end_bytes _ c.args.run.now (4 + 2 * loop.k) loop.k c.loop-k-test.false) ∙ loop.invariant.1
