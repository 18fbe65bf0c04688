-- The text of what is left, put after what is there, is the whole text.
use Prim.Native.Nat.{◌+◌, ◌-◌, ◌*◌, ◌≤◌}
use mathlib.Core.Path.{◌≡◌}
use lib.ListN.{length}
use lib.Seq.{sets}
use Rattle.model.specs.Lent.{marking}
use Rattle.listing.specs.Text.{commas, holding}
use Rattle.spelling.specs.Puts.{farthest}
use Rattle.listing.proofs.put_more.Given as goal

abbrev pub invariant-loop-b : goal.invariant-loop-b
invariant-loop-b l = (l.next + 21 * (l.upto - l.b) ≤ farthest)
    × (length l.out ≡ length l.initial.out)
    × (l.next + length (commas (holding (marking l.state) l.b (l.upto - l.b))) ≡ l.at + length (commas (holding (marking l.state) l.from (l.upto - l.from))))
    × (sets l.out l.next (commas (holding (marking l.state) l.b (l.upto - l.b))) ≡ sets l.initial.out l.at (commas (holding (marking l.state) l.from (l.upto - l.from))))
