-- Which condition a refused call names: the one that stopped the step, and the lowest of those that do.
use Rattle.std.specs.Prelude.{◌≡◌, ◌↔◌, List, ℕ, T, Ok, Err}
use Rattle.std.proofs.Math.Option.{some}
use Rattle.lists.specs.Lists.{mem}
use Rattle.model.specs.Net.{Net, Marking, lacks, meets}
use Rattle.model.specs.Unfolding.{basic}
use Rattle.model.specs.Across.{Whose, too_long}
use Rattle.model.specs.Stopped.{StoppedBy, StoppedAt}
use Rattle.refusal.specs.declared.Refusal.{Refusal}
use Rattle.refusal.specs.Answer.{Judged, refused_by, and_then}
use Rattle.table.specs.Walk.{judge_of}
use Rattle.table.specs.Decoded.{net_of}
use Rattle.table.specs.Links.{by_in, refused_or}
use Rattle.game.specs.Lent.{lent}
use Rattle.game.specs.Calls.{on_marking}
use Rattle.layout.specs.Unfolds.{unfolding_of}
use Rattle.promises.specs.Refused.{by_condition}

-- ---- what is judged before a step is tried

-- Before the firing of an event: the table and the lent marking (01, Refusal numbers).
abbrev pub before_firing : List ℕ → List ℕ → Judged → Judged
before_firing s m rest = on_marking s m (λ n. rest)

-- Before the firing of an unfolded event: the table, its unfolding and the lent marking (01, Refusal numbers).
abbrev pub before_unfolded : List ℕ → List ℕ → Judged → Judged
before_unfolded s m rest = unfolding_of s (lent (basic (net_of s)).conditions m rest)

-- Before the steps of a run of the table: the table and the length of the run (01, Refusal numbers).
abbrev pub before_run : List ℕ → List ℕ → Judged → Judged
before_run s r rest = and_then (judge_of s) (λ n. refused_or (too_long r) rest)

-- Before those of a run from a lent marking: that marking too (01, Refusal numbers).
abbrev pub before_run_from : List ℕ → List ℕ → List ℕ → Judged → Judged
before_run_from s m r rest = on_marking s m (λ n. refused_or (too_long r) rest)

-- All that is judged before is accepted (01, Refusal numbers).
abbrev pub Passes : (Judged → Judged) → Type 0
Passes before = before (Ok 0) ≡ Ok 0

-- ---- what is told

-- A firing is refused with 11 at b, and names b, exactly if all before is accepted and b is the lowest precondition that does not hold;
-- with 12 likewise, if all hold and b is the lowest ordinary condition in contact; and no other condition is named (02, No. 2).
pub record FiringNames (before : Judged → Judged) (w : Whose) (n : Net) (m : Marking) (e : ℕ) (answer : Judged) : Type 0 where
  pub eleven : (b : ℕ) → (answer ≡ refused_by 11 b (by_in w (some b))) ↔ (Passes before × StoppedBy n m e (lacks b))
  pub twelve : (b : ℕ) → (answer ≡ refused_by 12 b (by_in w (some b))) ↔ (Passes before × StoppedBy n m e (meets b))
  pub only : (x : Refusal) → answer ≡ Err x → T (mem x.number by_condition) → x.by ≡ by_in w (some x.place)

-- A run is refused with 11 at step i, and names b, exactly if all before is accepted, the steps before i are a run, and b is the lowest
-- precondition that does not hold where they end; with 12 likewise; and no other condition is named (02, No. 2).
pub record RunNames (before : Judged → Judged) (w : Whose) (n : Net) (m : Marking) (r : List ℕ) (answer : Judged) : Type 0 where
  pub eleven : (i b : ℕ) → (answer ≡ refused_by 11 i (by_in w (some b))) ↔ (Passes before × StoppedAt n 0 m r (lacks b) i)
  pub twelve : (i b : ℕ) → (answer ≡ refused_by 12 i (by_in w (some b))) ↔ (Passes before × StoppedAt n 0 m r (meets b) i)
  pub only : (x : Refusal) → answer ≡ Err x → T (mem x.number by_condition) → (b : ℕ) × (x.by ≡ by_in w (some b))
