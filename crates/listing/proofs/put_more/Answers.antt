-- The text of what is left is put after what is there.
use Prim.Native.Nat.{ℕ, ◌+◌, ◌-◌}
use native.Mathlib.Omega.{arith}
use mathlib.Core.Path.{refl, sym, ◌∙◌, ap}
use mathlib.Core.List.{List}
use lib.ListN.{length}
use lib.Seq.{sets}
use Rattle.model.specs.Lent.{marking}
use Rattle.listing.specs.Text.{commas, holding}
use Rattle.spelling.proofs.Texts.{put_long, goes_on}
use Rattle.listing.proofs.Held.{first_apart}
use Rattle.listing.proofs.Lines.{one_short, no_more}
use Rattle.listing.proofs.put_more.Goals as goal

pub loop-b-init : goal.loop-b-init
loop-b-init c =
    (c.requires.1, refl, refl, refl)

pub put_held-next-requires : goal.put_held-next-requires
put_held-next-requires c =
    (omega (arith, c.requires.0), omega (arith, c.loop-b.invariant.0, c.loop-b-test.true))

pub loop-b-preserved : goal.loop-b-preserved
loop-b-preserved c =
    let m = marking c.args.state.now in
    let b : ℕ = c.loop-b.b in
    let upto : ℕ = c.args.upto in
    let next : ℕ = c.loop-b.next in
    let apart = first_apart m b upto c.loop-b-test.true in
    let (place, stored) = goes_on (commas (holding m (b + 1) (upto - (b + 1)))) c.put_held-next.ensures in
    let kept = c.loop-b.invariant in
    let put = c.put_held-next.ensures in (
      omega (arith, kept.0, put.told, one_short m b (omega arith)),
      put_long put ∙ kept.1,
      place ∙ ap (λ (t : List ℕ). next + length t) (sym apart) ∙ kept.2,
      stored ∙ ap (λ (t : List ℕ). sets c.loop-b.out next t) (sym apart) ∙ kept.3,
    )

pub shape_of-out : goal.shape_of-out
shape_of-out c =
    c.loop-b.invariant.1

pub returns : goal.returns
returns c =
    let none = no_more (marking c.args.state.now) c.loop-b.b c.args.upto c.loop-b-test.false in
    record { told = omega (arith, rw none at c.loop-b.invariant.2); stored = rw none at c.loop-b.invariant.3 }
