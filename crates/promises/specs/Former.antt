-- The former rule of lifting, so that it can be told what the present one changed: what that lifted is lifted alike, and what is turned
-- away now it turned away too.
use Rattle.std.specs.Prelude.{◌≡◌, Bool, ◌&&◌, List, ℕ, length}
use Rattle.lists.specs.Lists.{any}
use Rattle.model.specs.Net.{Net, begin}
use Rattle.model.specs.Runs.{end, opening}
use Rattle.model.specs.Lent.{bytes}
use Rattle.model.specs.Unfolding.{basic}
use Rattle.model.specs.Across.{Answer, unless, too_long, unfolding_refused, Lifting, or_start, lifting}
use Rattle.refusal.specs.Answer.{Judged, and_then, written}
use Rattle.table.specs.Walk.{judge_of}
use Rattle.table.specs.Decoded.{net_of}
use Rattle.across.specs.Calls.{fitted, ended, numbers_of}
use Rattle.lift.specs.Calls.{lift_of, lifted_of}
use Rattle.ends.specs.Calls.{lift_end_of, lift_ended_of}

-- An event marks if it has a persistent postcondition (01, Runs across).
unfoldable pub marks : Net → ℕ → Bool
marks n e = any n.persistent (n.postconditions e)

-- The rule picked the earliest marker always, and a later occurrence of an event that marks was a repeat (01, Runs across).
unfoldable pub earliest : Net → Lifting
unfolding marks
earliest n = record { pick = λ s e b. or_start (s.first b); repeats = λ s e. marks n e && s.seen e }

-- The lift of a run by that rule (01, Runs across and Refusal numbers).
unfoldable pub former_lift : Net → List ℕ → Answer
unfolding too_long unfolding_refused lifting earliest opening
former_lift n r = unless (too_long r) (unless (unfolding_refused n) (lifting n (earliest n) 0 (opening n) r))

-- The call lift by that rule, and its lent output (01, Runs across and Refusal numbers).
unfoldable pub former_lift_of : List ℕ → List ℕ → ℕ → Judged
former_lift_of s r room = and_then (judge_of s) (λ _. fitted (former_lift (net_of s) r) room)

unfoldable pub former_lifted_of : List ℕ → List ℕ → List ℕ → List ℕ
former_lifted_of s r out = written (former_lift_of s r (length out)) (numbers_of (former_lift (net_of s) r)) out

-- The call for the end of a lift by that rule, and its lent output (01, Runs across and Refusal numbers).
unfoldable pub former_lift_end_of : List ℕ → List ℕ → ℕ → Judged
former_lift_end_of s r room = and_then (judge_of s) (λ _. ended (former_lift (net_of s) r) (basic (net_of s)).conditions room)

unfoldable pub former_lift_ended_of : List ℕ → List ℕ → List ℕ → List ℕ
former_lift_ended_of s r out =
    written (former_lift_end_of s r (length out))
    (bytes (basic (net_of s)).conditions (end (basic (net_of s)) (begin (basic (net_of s))) (numbers_of (former_lift (net_of s) r)))) out

-- Both calls answer and write as by the former rule (02, No. 3).
pub record AsFormer (s r out end_out : List ℕ) : Type 0 where
  pub answer : lift_of s r (length out) ≡ former_lift_of s r (length out)
  pub lifted : lifted_of s r out ≡ former_lifted_of s r out
  pub end_answer : lift_end_of s r (length end_out) ≡ former_lift_end_of s r (length end_out)
  pub end : lift_ended_of s r end_out ≡ former_lift_ended_of s r end_out
