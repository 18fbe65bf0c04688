-- The answer on persistence has the number and the place of its asking, and says what the decoded net says.
use Prim.Native.Nat.{ℕ}
use mathlib.Core.Path.{◌≡◌, refl}
use mathlib.Core.List.{List}
use mathlib.Core.Bool.{Bool, true, false}
use Rattle.refusal.specs.Answer.{Judged, number_of, place_of}
use Rattle.std.specs.Prelude.{Ok, Err}
use Rattle.table.specs.Decoded.{net_of}
use Rattle.parts.specs.Asked.{asked_condition_of, persistence_if, persistence_of, persistence_number, persistence_place, persistence_value}

number_if : (j : Judged) (flag : Bool) → persistence_number (persistence_if j flag) ≡ number_of j
number_if (Ok at) true = refl
number_if (Ok at) false = refl
number_if (Err refusal) flag = refl

place_if : (j : Judged) (flag : Bool) → persistence_place (persistence_if j flag) ≡ place_of j
place_if (Ok at) true = refl
place_if (Ok at) false = refl
place_if (Err refusal) flag = refl

value_if : (at : ℕ) (flag : Bool) → persistence_value (persistence_if (Ok at) flag) ≡ flag
value_if at true = refl
value_if at false = refl

pub persistence_number_lem : (s : List ℕ) (b : ℕ) → persistence_number (persistence_of s b) ≡ number_of (asked_condition_of s b)
unfolding persistence_of
persistence_number_lem s b = number_if (asked_condition_of s b) ((net_of s).persistent b)

pub persistence_place_lem : (s : List ℕ) (b : ℕ) → persistence_place (persistence_of s b) ≡ place_of (asked_condition_of s b)
unfolding persistence_of
persistence_place_lem s b = place_if (asked_condition_of s b) ((net_of s).persistent b)

pub persistence_value_lem : (s : List ℕ) (b at : ℕ) → asked_condition_of s b ≡ Ok at → persistence_value (persistence_of s b) ≡ (net_of s).persistent b
unfolding persistence_of
persistence_value_lem s b at e = rw e (value_if at ((net_of s).persistent b))
