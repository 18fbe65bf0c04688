-- How long the texts are: every element fits into the most bytes.
use Prim.Native.Nat.{ℕ, ◌≤◌}
use native.Mathlib.Omega.{arith}
use lib.ListN.{length, length-append}
use Rattle.spelling.proofs.Decimal.{twenty}
use Rattle.pnml.specs.declared.Element.{Element}
use Rattle.pnml.specs.declared.Element.TheVariants.{Opens, Place, Transition, Arc, Closes}
use Rattle.pnml.specs.Text.{text_of}
use Rattle.pnml.specs.Needs.{most_bytes, Small}
use Rattle.pnml.proofs.Names.{place_short, transition_short, source_short, target_short, end_short}

pub short : (c : ℕ) (x : Element) → Small x → length (text_of c x) ≤ most_bytes
unfolding text_of
short c Opens small = omega arith
short c (Place x held) small = simp length-append (omega (arith, place_short c x small, end_short held))
short c (Transition t) small = simp length-append (omega (arith, transition_short t small))
short c (Arc a l) small =
    simp length-append (omega (arith, twenty a (omega (arith, small.0)), source_short c l small.1, target_short c l small.1))
short c Closes small = omega arith
