-- The answers on what is behind an unfolded number have the number and the place of their judging: an unfolded condition's in a form of
-- its own, an unfolded event's as it is.
use Prim.Native.Nat.{ℕ}
use mathlib.Core.Path.{◌≡◌, refl}
use mathlib.Core.List.{List}
use mathlib.Core.Bool.{Bool, true, false}
use mathlib.Core.Option.{Option, none, some}
use lib.Dec.{ltb}
use lib.ListN.{length}
use Rattle.model.specs.Across as model
use Rattle.model.specs.Across.{unfolding_refused}
use Rattle.model.specs.Unfolding.{UnfoldedCondition, UnfoldedEvent, origin, basic}
use Rattle.refusal.specs.Answer.{Judged, number_of, place_of, need, and_then}
use Rattle.std.specs.Prelude.{Ok, Err}
use Rattle.table.specs.Walk.{judge_of}
use Rattle.table.specs.Decoded.{net_of}
use Rattle.table.specs.Links.{refused_or}
use Rattle.layout.specs.Unfolds.{unfolding_of}
use Rattle.events.specs.Answers.{origin_judged, origin_if, origin_of, origin_answer}
use Rattle.events.proofs.Calls.{origin_many}
use Rattle.conditions.specs.Origins.{condition_at, condition_judged, told_if, condition_origin_of, origin_number, origin_place}

number_if : (a : Judged) (p : UnfoldedCondition) → origin_number (told_if a p) ≡ number_of a
number_if (Ok k) p = refl
number_if (Err x) p = refl

place_if : (a : Judged) (p : UnfoldedCondition) → origin_place (told_if a p) ≡ place_of a
place_if (Ok k) p = refl
place_if (Err x) p = refl

pub condition_number_lem : (s : List ℕ) (i : ℕ) → origin_number (condition_origin_of s i) ≡ number_of (condition_judged s i)
unfolding condition_origin_of
condition_number_lem s i = number_if (condition_judged s i) (condition_at (net_of s) i)

pub condition_place : (s : List ℕ) (i : ℕ) → origin_place (condition_origin_of s i) ≡ place_of (condition_judged s i)
unfolding condition_origin_of
condition_place s i = place_if (condition_judged s i) (condition_at (net_of s) i)

pub event_answer : (s : List ℕ) (j : ℕ) → origin_answer (origin_of s j) ≡ origin_judged s j
unfolding origin_of origin_judged unfolding_of need
event_answer s j = go (judge_of s) (unfolding_refused (net_of s)) (ltb j (basic (net_of s)).events)
  where
    x : UnfoldedEvent
    x = origin (net_of s) j

    own : Bool → Judged
    own low = need low 10 0 (Ok (length x.colour))

    go : (a : Judged) (o : Option model.Refusal) (low : Bool) → let all = and_then a (λ _. refused_or o (own low)) in origin_answer (origin_if all x) ≡ all
    go (Err r) o low = refl
    go (Ok n) (some r) low = refl
    go (Ok n) none false = refl
    go (Ok n) none true = origin_many x
