-- `outward::colour_of` meets its contract.
use Prim.Native.Nat.{ℕ}
use native.Mathlib.Omega.{arith}
use mathlib.Core.Path.{refl, sym, ◌∙◌}
use lib.ListN.{length-set}
use Rattle.lists.proofs.Stored.{store_next, store_end}
use Rattle.refusal.specs.declared.Marker.TheVariants.{Start}
use Rattle.outward.specs.Words.{picks_for, colour_for}
use Rattle.outward.proofs.Markers.{picks_long, pick_at}
use Rattle.outward.proofs.colour_of.Goals as goal

pub loop-i-init : goal.loop-i-init
unfolding picks_for
loop-i-init c = (refl, refl)

pub loop-i-preserved : goal.loop-i-preserved
loop-i-preserved c =
    let loop = c.loop-i in
    let ws = c.args.words.now in
    let i : ℕ = loop.i in
    let value = pick_at ws i c.loop-i-test.true in
    let step = store_next loop.picks (picks_for ws) i i Start (omega (arith, picks_long ws, c.loop-i-test.true)) in
    (simp length-set loop.invariant.0, rw (c.marker_of-m.ensures, c.word_at.ensures, ← value, ← step) loop.invariant.1)

pub returns : goal.returns
unfolding colour_for
returns c =
    let loop = c.loop-i in
    let ws = c.args.words.now in
    let end = store_end loop.picks (picks_for ws) loop.i loop.i (omega (arith, picks_long ws, c.loop-i-test.false)) in
    let same = sym end ∙ loop.invariant.1 in
    rw same
