-- What a rule for lifting must keep so that demands 2 and 3 hold for it, and what is true of every state that a run reaches.
use mathlib.Core.Path.{◌≡◌}
use mathlib.Core.Bool.{Bool, true, false, ◌&&◌}
use mathlib.Core.Option.{Option, none, some}
use Prim.Native.Nat.{ℕ, ◌<◌}
use lib.Dec.{T}
use Rattle.lists.specs.Lists.{mem, ◌∈◌}
use Rattle.model.specs.Net.{Net, can}
use Rattle.model.specs.Runs.{Marker, at_start, by_event, State}
use Rattle.model.specs.Unfolding.{users, reads}
use Rattle.model.specs.Across.{Lifting}

-- a marker has marked a condition
unfoldable pub marked : Net → State → Marker → ℕ → Bool
marked n s at_start b = mem b n.start
marked n s (by_event e) b = s.seen e && mem b (n.postconditions e)

-- a first marker is there exactly where the condition holds, and has marked it
abbrev pub First : Net → State → ℕ → Option Marker → Type 0
First n s b none = s.marking b ≡ false
First n s b (some k) = T (s.marking b) × T (marked n s k b)

-- What is true of every state that a run has reached: of each persistent condition's first marker, that what has been marked
-- holds, and that only events of the net have occurred.
pub record Reached (n : Net) (s : State) : Type 0 where
  pub first : (b : ℕ) → n.persistent b ≡ true → First n s b (s.first b)
  pub held : (b : ℕ) → n.persistent b ≡ true → (k : Marker) → T (marked n s k b) → T (s.marking b)
  pub seen : (e : ℕ) → T (s.seen e) → e < n.events

-- for demand 2
pub record Lawful (n : Net) (l : Lifting) : Type 0 where
  -- the picked marker has marked its condition
  pub picks_marked : (s : State) → Reached n s → (e : ℕ) → T (can n s.marking e) → (b : ℕ) → b ∈ reads n e
      → T (marked n s (l.pick s e b) b)
  -- an event that occurs again without a repeat has for its persistent postconditions no user but itself, and picks itself
  pub own_user : (s : State) (e : ℕ) → l.repeats s e ≡ false → T (s.seen e) → (b : ℕ) → n.persistent b ≡ true
      → T (mem b (n.postconditions e)) → (v : ℕ) → v ∈ users n b → (v ≡ e) × (l.pick s e b ≡ by_event e)

-- for demand 3: what an event picks depends on the condition's first marker and on whether the event has occurred, a repeat on
-- the latter alone
pub record Plain (n : Net) (l : Lifting) : Type 0 where
  pub pick_from : (s t : State) (e b : ℕ) → s.first b ≡ t.first b → s.seen e ≡ t.seen e → l.pick s e b ≡ l.pick t e b
  pub repeats_from : (s t : State) (e : ℕ) → s.seen e ≡ t.seen e → l.repeats s e ≡ l.repeats t e
