-- A refusal of the model as a link of a chain of answers.
use Rattle.std.specs.Prelude.{ℕ, None, Some}
use Rattle.std.proofs.Math.Option.{Option, none, some}
use Rattle.model.specs.Across.{Whose, of_table, of_unfolding, Refusal, stopped, other, number_of, place_of, by_of}
use Rattle.refusal.specs.Answer.{By, Judged, refused_by}
use Rattle.refusal.specs.declared.Condition.TheVariants.{Table, Unfolded}

-- The condition that stopped a step in its numbering, if one did (02, No. 2).
abbrev pub by_in : Whose → Option ℕ → By
by_in w none = None
by_in of_table (some b) = Some (Table (record { 0 = b }))
by_in of_unfolding (some b) = Some (Unfolded (record { 0 = b }))

-- What stopped a step, by a refusal of the model (02, No. 2).
abbrev pub refusal_by : Refusal → By
refusal_by (stopped w v k) = by_in w (by_of (stopped w v k))
refusal_by (other x k) = None

-- A refusal of the model as an answer: its number, its place and the condition (01, Refusal numbers; 02, No. 2).
abbrev pub refusing : Refusal → Judged
refusing x = refused_by (number_of x) (place_of x) (refusal_by x)

-- A refusal of the model as an answer, or what follows where nothing is refused (01, Refusal numbers).
abbrev pub refused_or : Option Refusal → Judged → Judged
refused_or none rest = rest
refused_or (some x) rest = refusing x
