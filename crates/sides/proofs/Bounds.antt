-- The numbers of a share are small, and so are those of its sides.
use mathlib.Core.Path.{◌≡◌}
use mathlib.Core.Bool.{Bool, true, false, cond}
use Prim.Native.Nat.{◌+◌, ◌≤◌}
use native.Mathlib.Omega.{arith}
use Rattle.segments.specs.declared.Segment.{Segment}
use Rattle.segments.specs.Ranges.{alone_of, joined_of}
use Rattle.segments.proofs.Spans.{Between, alone_between, joined_between}
use Rattle.sides.specs.Sides.{parted_of}
use Rattle.sides.specs.Shares.{side_of}
use Rattle.sides.specs.declared.Side.{Side}
use Rattle.sides.specs.declared.Side.TheVariants.{Takes, Fills, Puts, Empties}
use Rattle.sides.specs.declared.Share.{Share}
use Rattle.sides.proofs.Without.{parted_between}

-- the numbers of a share are small
pub record Small (g : Share) : Type 0 where
  pub number : g.number ≤ 65536
  pub takes : g.takes ≤ 1
  pub range : g.first + g.size ≤ 65536

-- so are those of a side
side_low : (side : Side) (g : Share) → Small g → ((side_of side g).first ≤ 100000) × ((side_of side g).next ≤ 100000)
side_low side g l = apart (side_of side g) (go side)
  where
    apart : (x : Segment) → Between 0 65537 x → (x.first ≤ 100000) × (x.next ≤ 100000)
    apart x z = (omega (arith, z.then, z.upto), omega (arith, z.upto))

    range : Between 0 65537 (alone_of g.first g.size)
    range = alone_between 0 65537 g.first g.size (omega arith) (omega (arith, l.range))

    filled : (t : Bool) → Between 0 65537 (cond t (parted_of g.number g.first g.size) (alone_of g.first g.size))
    filled true = parted_between g.number g.first g.size 0 65537 (omega arith) (omega (arith, l.range))
    filled false = range

    put : (t : Bool) → Between 0 65537 (cond t (joined_of g.number g.first g.size) (alone_of g.first g.size))
    put true = joined_between g.number g.first g.size 0 65537 (omega arith) (omega (arith, l.number)) (omega arith) (omega (arith, l.range))
    put false = range

    emptied : (t : Bool) → Between 0 65537 (cond t (alone_of g.number 0) (alone_of g.number g.takes))
    emptied true = alone_between 0 65537 g.number 0 (omega arith) (omega (arith, l.number))
    emptied false = alone_between 0 65537 g.number g.takes (omega arith) (omega (arith, l.number, l.takes))

    go : (z : Side) → Between 0 65537 (side_of z g)
    go Takes = alone_between 0 65537 g.number g.takes (omega arith) (omega (arith, l.number, l.takes))
    go Fills = filled g.back
    go Puts = put g.back
    go Empties = emptied g.back

pub share_by : (g h : Share) → g ≡ h → Small h → (g.number ≤ 65536) × (g.takes ≤ 1) × (g.first + g.size ≤ 65536)
share_by g h z l = rw z (l.number, l.takes, l.range)

pub side_by : (side : Side) (g h : Share) (x : Segment) → x ≡ side_of side g → g ≡ h → Small h → (x.first ≤ 100000) × (x.next ≤ 100000)
side_by side g h x y z l = rw (y, z) (side_low side h l)
