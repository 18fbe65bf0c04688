-- A net of two conditions, doubled, by computing: event 0 takes condition 0, puts it back and puts condition 1, which event 1 takes.
use mathlib.Core.Path.{◌≡◌, refl}
use mathlib.Core.Bool.{Bool, true, false, not, ◌&&◌, ◌||◌, cond}
use mathlib.Core.Option.{none, some}
use mathlib.Core.List.{[], ◌∷◌, map}
use Prim.Native.Nat.{◌+◌, ◌≤◌}
use lib.Dec.{T, leb, leb→le}
use native.Mathlib.Omega.{arith}
use Rattle.lists.specs.Lists.{nothing, count}
use Rattle.model.specs.Net.{Net, Marking, begin, can, fire}
use Rattle.model.specs.Runs.{runs}
use Rattle.model.specs.Examples.{◌↝◌, net, under_old, one, two, three, four}
use Rattle.doubled.specs.Plain.{Tokens, initially, enabled, moved, plays, reached}
use Rattle.doubled.specs.Doubling.{doubled}

unfoldable pub back : Net
unfolding net one two
back = net (two 0 0) ((one 0 ↝ two 0 1) ∷ (one 1 ↝ []) ∷ []) (one 0)

-- Condition 0, taken and put back, has an arc each way at its first place and none at its second; condition 1 has its second place taken.
pub arcs_0 : ((doubled back).inputs 0 ≡ two 0 3) × ((doubled back).outputs 0 ≡ two 0 1)
unfolding doubled back net one two
arcs_0 = (refl, refl)

-- Condition 1, taken and not put back, has its second place put.
pub arcs_1 : ((doubled back).inputs 1 ≡ one 1) × ((doubled back).outputs 1 ≡ one 3)
unfolding doubled back net one two
arcs_1 = (refl, refl)

-- At first condition 0 holds and condition 1 does not.
pub tokens_first : map (initially (doubled back)) (count 0 4) ≡ four 1 0 0 1
unfolding initially doubled back net one two four
tokens_first = refl

-- After event 0 both conditions hold.
pub tokens_after : map (reached (doubled back) (initially (doubled back)) (one 0)) (count 0 4) ≡ four 1 1 0 0
unfolding reached moved initially doubled back net one two four
tokens_after = refl

-- Event 0 is then in contact on condition 1, and in the doubled net its second place has no token.
pub contact : (runs back (begin back) (two 0 0) ≡ false) × (plays (doubled back) (initially (doubled back)) (two 0 0) ≡ false)
unfolding runs can fire begin plays enabled moved initially doubled back net one two
contact = (refl, refl)

-- Once event 1 has taken condition 1, event 0 can fire again.
pub again : (runs back (begin back) (three 0 1 0) ≡ true) × (plays (doubled back) (initially (doubled back)) (three 0 1 0) ≡ true)
unfolding runs can fire begin plays enabled moved initially doubled back net one two three
again = (refl, refl)

-- ---- under the old rule

-- Condition 0, taken and put back, has its second place taken and put back as well.
pub arcs_0_old : ((doubled (under_old back)).inputs 0 ≡ three 0 2 3) × ((doubled (under_old back)).outputs 0 ≡ three 0 1 2)
unfolding doubled under_old back net one two three
arcs_0_old = (refl, refl)

-- What is taken or put alone has the arcs that it had.
pub arcs_1_old : ((doubled (under_old back)).inputs 1 ≡ one 1) × ((doubled (under_old back)).outputs 1 ≡ one 3)
unfolding doubled under_old back net one two
arcs_1_old = (refl, refl)

-- Whatever holds, event 0 is in contact on condition 0 or lacks it.
pub dead : (m : Marking) → can (under_old back) m 0 ≡ false
unfolding can under_old back net one two
dead m = go (m 0) (m 1)
  where
    go : (a z : Bool) → (nothing (cond a none (some 0)) && nothing (cond (not a || false) (cond (not z || false) none (some 1)) (some 0))) ≡ false
    go true z = refl
    go false z = refl

-- Where the two places of condition 0 have one token between them, one of them has too few for it.
pub dead_doubled : (k : Tokens) → k 0 + k 2 ≡ 1 → enabled (doubled (under_old back)) k 0 ≡ false
unfolding enabled doubled under_old back net one two
dead_doubled k h = go (leb 1 (k 0)) (leb 1 (k 2)) (leb 1 (k 3)) (leb→le 1 (k 0)) (leb→le 1 (k 2))
  where
    go : (a b c : Bool) → (T a → 1 ≤ k 0) → (T b → 1 ≤ k 2) → (a && (b && (c && true))) ≡ false
    go true true c f g = absurd (omega (arith, f tt, g tt))
    go true false c f g = refl
    go false b c f g = refl
