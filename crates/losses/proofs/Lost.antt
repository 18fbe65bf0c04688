-- A marking that is lost: the hand's net reaches condition 5, and no run of the unfolded net does.
use mathlib.Core.Path.{◌≡◌, refl}
use mathlib.Core.Bool.{Bool, true, false, ◌&&◌, ◌||◌}
use mathlib.Core.Option.{none}
use mathlib.Core.List.{List, [], ◌∷◌}
use Prim.Native.Nat.{ℕ, zero, suc}
use native.Mathlib.Omega.{arith}
use lib.Dec.{T, ltb→lt}
use Rattle.lists.proofs.Bools.{not-true, and_both, or_left}
use Rattle.model.specs.Net.{begin, lacking, contact, free, concession, can, fire}
use Rattle.model.specs.Runs.{runs, end, State, opening, step}
use Rattle.model.specs.Unfolding.{users}
use Rattle.model.specs.Across.{marks_for_others, own_or_earliest, repeated}
use Rattle.model.specs.Readings.{Reading}
use Rattle.model.specs.Examples.{net, one, two, three, four}
use Rattle.model.proofs.Soundness.{sound, sound_of}
use Rattle.model.proofs.Firing.{runs_first, runs_rest, can_event, can_concession, pre_holds}
use Rattle.model.proofs.Repeats.{repeated_cons}
use Rattle.model.proofs.Readings.{reading_runs, reading_keeps}
use Rattle.losses.specs.Examples.{net_hand}

-- The net's run 0, 1, 0, 2 ends where condition 5 holds.
pub hand_arms : T (runs net_hand (begin net_hand) (four 0 1 0 2)) × T (end net_hand (begin net_hand) (four 0 1 0 2) 5)
unfolding runs end begin can concession lacking contact free fire net_hand net one two three four
hand_arms = (tt, tt)

-- along a run in which event 0 comes once, 1 and 4 never hold together, so that event 2 cannot fire
record Unarmed (s : State) : Type 0 where
  pub five : s.marking 5 ≡ false
  pub apart : (s.marking 1 && s.marking 4) ≡ false
  pub before : s.seen 0 ≡ false → (s.marking 1 || s.marking 4) ≡ false

unarmed_opening : Unarmed (opening net_hand)
unfolding opening begin net_hand net one two three
unarmed_opening = record { five = refl; apart = refl; before = λ q. refl }

-- the tests that a step makes of the four conditions that matter
first_apart : (x y : Bool) → (x || y) ≡ false → (true && (y && true)) ≡ false
first_apart true y h = absurd (not-true true h tt)
first_apart false true h = absurd (not-true true h tt)
first_apart false false h = refl

same_apart : (x y : Bool) → (x && y) ≡ false → (x && true && (y && true)) ≡ false
same_apart true true h = h
same_apart true false h = refl
same_apart false y h = refl

same_before : (x y : Bool) → (x || y) ≡ false → (x && true || y && true) ≡ false
same_before true y h = h
same_before false true h = h
same_before false false h = refl

taken_apart : (x : Bool) → (x && false && true) ≡ false
taken_apart true = refl
taken_apart false = refl

-- a step that is no repeat
unarmed_step : (s : State) → Unarmed s → (e : ℕ) → (own_or_earliest net_hand).repeats s e ≡ false → T (can net_hand s.marking e) → Unarmed (step net_hand s e)
unfolding step fire own_or_earliest marks_for_others users net_hand net one two three
unarmed_step s u zero q c =
    record { five = rw u.five; apart = first_apart (s.marking 1) (s.marking 4) (u.before q); before = λ z. absurd (not-true true z tt) }
unarmed_step s u (suc zero) q c =
    let hand : T (s.marking 1) = pre_holds net_hand s.marking 1 (can_concession net_hand s.marking 1 c) 1 tt in
    record {
      five = rw u.five;
      apart = taken_apart (s.marking 1);
      before = λ z. absurd (not-true (s.marking 1 || s.marking 4) (u.before z) (or_left (s.marking 1) (s.marking 4) hand));
    }
unarmed_step s u (suc (suc zero)) q c =
    let hand : T (s.marking 1) = pre_holds net_hand s.marking 2 (can_concession net_hand s.marking 2 c) 1 tt in
    let near : T (s.marking 4) = pre_holds net_hand s.marking 2 (can_concession net_hand s.marking 2 c) 4 tt in
    absurd (not-true (s.marking 1 && s.marking 4) u.apart (and_both (s.marking 1) (s.marking 4) hand near))
unarmed_step s u (suc (suc (suc zero))) q c =
    record {
      five = rw u.five;
      apart = same_apart (s.marking 1) (s.marking 4) u.apart;
      before = λ z. same_before (s.marking 1) (s.marking 4) (u.before z);
    }
unarmed_step s u (suc (suc (suc (suc e)))) q c =
    let below = ltb→lt (suc (suc (suc (suc e)))) 4 (can_event net_hand s.marking (suc (suc (suc (suc e)))) c) in
    absurd (omega arith)

never_armed : (s : State) → Unarmed s → (k : ℕ) (r : List ℕ) → T (runs net_hand s.marking r) → repeated net_hand (own_or_earliest net_hand) k s r ≡ none
    → end net_hand s.marking r 5 ≡ false
unfolding step end
never_armed s u k [] t o = u.five
never_armed s u k (e ∷ r) t o =
    let (once, rest) = repeated_cons net_hand (own_or_earliest net_hand) k s e r o in
    let next = unarmed_step s u e once (runs_first net_hand s.marking e r t) in
    never_armed (step net_hand s e) next (suc k) r (runs_rest net_hand s.marking e r t) rest

-- Whatever a run of the unfolded net reads back as, condition 5 does not hold at its end.
pub hand_lost : (r : List ℕ) → Reading net_hand r → end net_hand (begin net_hand) r 5 ≡ false
unfolding opening sound net_hand net one two three
hand_lost r w =
    let sound_hand = sound_of net_hand tt in
    never_armed (opening net_hand) unarmed_opening 0 r (reading_runs net_hand sound_hand r w) (reading_keeps net_hand sound_hand r w)
