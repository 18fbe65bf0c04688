-- The condition, marker and user behind an unfolded condition's number.
use Rattle.std.specs.Prelude.{ℕ, List, ltb, get_or, Result, Ok, Err}
use Rattle.std.proofs.Math.Option.{Option, none, some}
use Rattle.model.specs.Net.{Net}
use Rattle.model.specs.Unfolding.{UnfoldedCondition, ordinary, copy, unfolded_conditions, basic}
use Rattle.refusal.specs.Answer.{Judged, need}
use Rattle.refusal.specs.declared.Refusal.{Refusal}
use Rattle.table.specs.Decoded.{net_of}
use Rattle.layout.specs.Unfolds.{unfolding_of}
use Rattle.unfolding.specs.Markers.{shown, meant}
use Rattle.conditions.specs.declared.ConditionOrigin.{ConditionOrigin}
use Rattle.conditions.specs.declared.ConditionOrigin.TheVariants as show

-- The unfolded condition behind a number; where there is none, one that nobody is told of (01, Runs across).
unfoldable pub condition_at : Net → ℕ → UnfoldedCondition
unfolding unfolded_conditions
condition_at n i = get_or (unfolded_conditions n) i (ordinary 0)

-- Whether a number is that of an unfolded condition, 10 past the last (01, Runs across).
unfoldable pub condition_judged : List ℕ → ℕ → Judged
condition_judged s i = unfolding_of s (need (ltb i (basic (net_of s)).conditions) 10 0 (Ok i))

-- An unfolded condition as an answer tells it (01, Unfolding).
abbrev pub told : UnfoldedCondition → ConditionOrigin
told (ordinary b) = show.Ordinary (record { 0 = b })
told (copy b m u) = show.Copy (record { 0 = b }) (shown m) (record { 0 = u })

-- With a fine answer what is told, else the refusal.
abbrev pub told_if : Judged → UnfoldedCondition → Result ConditionOrigin Refusal
told_if (Ok k) p = Ok (told p)
told_if (Err refusal) p = Err refusal

-- The condition, with marker and user where it is persistent, behind a number (01, Runs across).
unfoldable pub condition_origin_of : List ℕ → ℕ → Result ConditionOrigin Refusal
condition_origin_of s i = told_if (condition_judged s i) (condition_at (net_of s) i)

-- The number of such an answer, 0 where nothing is refused (01, Refusal numbers, first column).
abbrev pub origin_number : Result ConditionOrigin Refusal → ℕ
origin_number (Ok origin) = 0
origin_number (Err refusal) = refusal.number

-- The place of such an answer, 0 where nothing is refused (01, Refusal numbers, last column).
abbrev pub origin_place : Result ConditionOrigin Refusal → ℕ
origin_place (Ok origin) = 0
origin_place (Err refusal) = refusal.place

-- The unfolded condition that such an answer tells, none where it is refused (01, Unfolding).
abbrev pub origin_value : Result ConditionOrigin Refusal → Option UnfoldedCondition
origin_value (Ok (show.Ordinary b)) = some (ordinary b.0)
origin_value (Ok (show.Copy b m u)) = some (copy b.0 (meant m) u.0)
origin_value (Err refusal) = none
