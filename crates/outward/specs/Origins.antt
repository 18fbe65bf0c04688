-- What stands behind an unfolded condition, told outside by single values.
use Rattle.std.specs.Prelude.{ℕ, Bool, true, false, Result, Ok, Err}
use Rattle.refusal.specs.declared.Refusal.{Refusal}
use Rattle.unfolding.specs.Markers.{meant}
use Rattle.conditions.specs.declared.ConditionOrigin.{ConditionOrigin}
use Rattle.conditions.specs.declared.ConditionOrigin.TheVariants as show
use Rattle.outward.specs.Words.{word_of}

-- The condition behind, else what was there (01, Unfolding).
abbrev pub condition_or : Result ConditionOrigin Refusal → ℕ → ℕ
condition_or (Ok (show.Ordinary b)) old = b.0
condition_or (Ok (show.Copy b m u)) old = b.0
condition_or (Err refusal) old = old

-- Whether a copy of a persistent condition is meant, else what was there (01, Unfolding).
abbrev pub copy_or : Result ConditionOrigin Refusal → Bool → Bool
copy_or (Ok (show.Ordinary b)) old = false
copy_or (Ok (show.Copy b m u)) old = true
copy_or (Err refusal) old = old

-- The marker of a copy as a number, else what was there (01, Unfolding).
abbrev pub marker_or : Result ConditionOrigin Refusal → ℕ → ℕ
marker_or (Ok (show.Ordinary b)) old = old
marker_or (Ok (show.Copy b m u)) old = word_of (meant m)
marker_or (Err refusal) old = old

-- The user of a copy, else what was there (01, Unfolding).
abbrev pub user_or : Result ConditionOrigin Refusal → ℕ → ℕ
user_or (Ok (show.Ordinary b)) old = old
user_or (Ok (show.Copy b m u)) old = u.0
user_or (Err refusal) old = old
