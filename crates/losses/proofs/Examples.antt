-- The examples hold, and the theorem's premises can be met.
use mathlib.Core.Path.{◌≡◌, refl}
use mathlib.Core.Option.{none}
use mathlib.Core.List.{[], ◌∷◌}
use Prim.Native.Nat.{zero, suc}
use native.Mathlib.Omega.{arith}
use Rattle.model.specs.Net.{Sound, begin, can, concession, lacking, contact, free, fire}
use Rattle.model.specs.Runs.{runs}
use Rattle.model.specs.Unfolding.{users}
use Rattle.model.specs.Lent.{bytes}
use Rattle.model.specs.Across.{other, refusal, too_long, unfolding_refused, marks_for_others, lift}
use Rattle.model.specs.Readings.{Reading}
use Rattle.model.specs.Examples.{net, one, two, three, four, net_a, net_b}
use Rattle.model.proofs.Soundness.{sound, sound_of}
use Rattle.model.proofs.Demands.{lift_unread}
use Rattle.losses.specs.Losses.{ordinary_in, steady, putters, spent, spends, recurs, lossy}
use Rattle.losses.specs.Saved.{Lossless, Saved}
use Rattle.losses.specs.Examples.{lossy_bytes, net_hand}
use Rattle.losses.proofs.Saved.{run_saved}

-- Event 0 of the hand's net is lossy.
pub hand_lossy : lossy_bytes net_hand ≡ 1 ∷ 0 ∷ 0 ∷ 0 ∷ []
unfolding lossy_bytes net_hand net one two three lossy recurs steady spends spent putters ordinary_in marks_for_others users bytes
hand_lossy = refl

-- The net's run to condition 5, in which event 0 comes twice, has no reading.
pub hand_unread : Reading net_hand (four 0 1 0 2) → ⊥
unfolding too_long unfolding_refused lift sound net_hand net one two three four
hand_unread = ((lift_unread net_hand (four 0 1 0 2) short unfolds sound_hand).0 (2, again)).1
  where
    short : too_long (four 0 1 0 2) ≡ none
    short = refl

    unfolds : unfolding_refused net_hand ≡ none
    unfolds = refl

    sound_hand : Sound net_hand
    sound_hand = sound_of net_hand tt

    again : lift net_hand (four 0 1 0 2) ≡ refusal (other 15 2)
    again = refl

-- Event 0 of net A marks for event 1 and takes condition 0, which no event puts: it comes once.
pub spending_a : lossy_bytes (net_a (one 0)) ≡ 0 ∷ 0 ∷ 0 ∷ []
unfolding lossy_bytes net_a net one two four lossy recurs steady spends spent putters ordinary_in marks_for_others users bytes
spending_a = refl

-- Event 0 of net B marks for event 1 and gives back what it takes: coming again it changes nothing.
pub steady_b : lossy_bytes net_b ≡ 0 ∷ 0 ∷ []
unfolding lossy_bytes net_b net one two lossy recurs steady spends spent putters ordinary_in marks_for_others users bytes
steady_b = refl

pub lossless_b : Lossless net_b
unfolding net_b net one two lossy recurs steady spends spent putters ordinary_in marks_for_others users
lossless_b zero h = refl
lossless_b (suc zero) h = refl
lossless_b (suc (suc e)) h = absurd (omega arith)

-- So nothing is lost of its run 0, 0, 1, which lift turns away.
pub saved_b : Saved net_b (three 0 0 1)
unfolding net_b net one two three runs begin can concession lacking contact free fire
saved_b = run_saved net_b lossless_b (three 0 0 1) tt
