-- A refusal in words, as a line of it says.
use Rattle.std.specs.Prelude.{ℕ, List, [], ◌++◌, None, Some, codes, decimal}
use Rattle.refusal.specs.declared.Refusal.{Refusal}
use Rattle.refusal.specs.Answer.{By, condition_number}

-- The words for the condition that stopped a step, none where there is none.
abbrev pub by_words : By → List ℕ
by_words None = []
by_words (Some condition) = codes " by " ++ decimal (condition_number condition)

-- The number of a refusal, its place, and the condition that stopped a step, if one did.
abbrev pub refusal_words : Refusal → List ℕ
refusal_words refusal = codes "refused " ++ decimal refusal.number ++ codes " at " ++ decimal refusal.place ++ by_words refusal.by
