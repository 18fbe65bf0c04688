-- What is judged before an event is tested, and what the judge of a lent marking needs.
use Rattle.std.specs.Prelude.{List, ℕ, ◌≤◌, ◌<◌, ltb, length, get_or, Ok}
use Rattle.refusal.specs.Answer.{Judged, need}
use Rattle.table.specs.Walk.{offset_of}
use Rattle.game.specs.Calls.{on_marking}

-- No byte is above a number.
abbrev pub NoneAbove : List ℕ → ℕ → Type 0
NoneAbove l x = (i : ℕ) → i < length l → get_or l i 0 ≤ x

-- An event asked for at a lent marking, before it is tested: 1 to 9, 18, 10; fine: the offset of its record (01, Refusal numbers).
unfoldable pub ready_of : List ℕ → List ℕ → ℕ → Judged
ready_of s m e = on_marking s m (λ n. need (ltb e n) 10 0 (Ok (offset_of s e)))
