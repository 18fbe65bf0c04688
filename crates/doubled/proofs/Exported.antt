-- The net that is exported: the unfolded net, doubled, plays as the unfolded net does.
use mathlib.Core.Path.{◌≡◌, refl}
use mathlib.Core.List.{List}
use Prim.Native.Nat.{ℕ, ◌+◌, ◌<◌}
use lib.Dec.{T}
use Rattle.model.specs.Net.{Net}
use Rattle.model.specs.Unfolding.{basic}
use Rattle.model.proofs.Sets.{basic_sound}
use Rattle.doubled.specs.Plain.{initially, plays, reached}
use Rattle.doubled.specs.Doubling.{second, doubled, PlaysAlike}
use Rattle.doubled.proofs.Alike.{plays_alike, one_token}

-- The unfolded net, which is sound whatever net it is of, and its doubled net play alike.
pub exported_alike : (n : Net) → (r : List ℕ) → PlaysAlike (basic n) r
unfolding basic
exported_alike n r = plays_alike (basic n) (basic_sound n) (λ b. refl) r

-- After every list that is played there, an unfolded condition's two places hold one token between them.
pub exported_one_token : (n : Net) → (r : List ℕ) → T (plays (doubled (basic n)) (initially (doubled (basic n))) r)
    → (b : ℕ) → b < (basic n).conditions
    → reached (doubled (basic n)) (initially (doubled (basic n))) r b + reached (doubled (basic n)) (initially (doubled (basic n))) r (second (basic n) b) ≡ 1
unfolding basic
exported_one_token n r t b h = one_token (basic n) (basic_sound n) (λ b. refl) r t b h
