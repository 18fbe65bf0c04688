-- A step of the unfolded net on bytes is the model's: what stops it, and what the bytes set in turn come to.
use mathlib.Core.Path.{◌≡◌, refl, sym, ◌∙◌, ap}
use mathlib.Core.Bool.{Bool, true, false, not, ◌&&◌, ◌||◌, cond}
use mathlib.Core.Option.{Option, none, some}
use mathlib.Core.List.{List, []}
use Prim.Native.Nat.{ℕ, ◌<◌}
use lib.Dec.{T, ltb}
use lib.ListN.{length}
use native.Mathlib.Omega.{arith}
use Rattle.lists.specs.Lists.{mem}
use Rattle.model.specs.Net.{Net, Marking, free, lacking, contact, fire, Stop, unknown, lacks, meets, stopping}
use Rattle.lists.proofs.Places.{at_lt}
use Rattle.model.specs.Unfolding.{unfolded_conditions, basic}
use Rattle.model.specs.Across.{of_unfolding}
use Rattle.model.specs.Numbering.{condition_count}
use Rattle.model.proofs.Unfolded.{in_pre, in_post}
use Rattle.model.proofs.Counts.{count_conditions}
use Rattle.table.specs.Decoded.{net_of}
use Rattle.table.specs.Links.{refused_or}
use Rattle.tally.specs.Having.{list_of}
use Rattle.table.proofs.InOrder.{judged}
use Rattle.segments.specs.Ranges.{Owned}
use Rattle.model.specs.Lent.{bit, bytes, marking}
use Rattle.model.proofs.Lent.{bytes_are}
use Rattle.std.specs.Prelude.{Ok, Err}
use Rattle.step.specs.Lent.{Lent}
use Rattle.step.specs.Steps.{set_all, stepped}
use Rattle.game.specs.Calls.{firing_stopped, leaves}
use Rattle.step.proofs.Bytes.{lent_at}
use Rattle.step.proofs.Firing.{length_all, all_at}
use Rattle.stopping.specs.Unfolded.{Cause, Step, step_of, answered_of}
use Rattle.stopping.specs.Causes.{goes}
use Rattle.walking.specs.Steps.{stops, Summed}

-- ---- the unfolded net

module _ (n : Net) (j : ℕ) where
  stops_basic : (m : Marking) → ltb j (basic n).events ≡ true → stops m ((basic n).preconditions j) ((basic n).postconditions j) (basic n).old ≡ stopping (basic n) m j
  unfolding stopping lacking contact free basic
  stops_basic m low = rw low

  pub stops_past : (m : Marking) → ltb j (basic n).events ≡ false → stopping (basic n) m j ≡ some unknown
  unfolding stopping
  stops_past m high = rw high

  fired_at : (z a m : Bool) → cond (z && true) 1 (cond (a && true) 0 (bit m)) ≡ bit (z || m && (false || not a))
  fired_at true a m = refl
  fired_at false true true = refl
  fired_at false true false = refl
  fired_at false false true = refl
  fired_at false false false = refl

  fired : (l : List ℕ) → Lent l → set_all [] 1 ((basic n).postconditions j) (set_all [] 0 ((basic n).preconditions j) l) ≡ bytes (length l) (fire (basic n) (marking l) j)
  unfolding fire basic
  fired l lent =
      let pre = (basic n).preconditions j in
      let post = (basic n).postconditions j in
      let taken = set_all [] 0 pre l in
      bytes_are _ (length l) _ (length_all [] 1 post taken ∙ length_all [] 0 pre l)
      (λ i h.
      all_at [] 1 post taken i (rw length_all h)
      ∙ ap (cond (mem i post && true) 1) (all_at [] 0 pre l i h ∙ ap (cond (mem i pre && true) 0) (lent_at l lent i h))
      ∙ fired_at (mem i post) (mem i pre) (marking l i))

  module _ (l pre post : List ℕ) (low : ltb j (basic n).events ≡ true) (ip : pre ≡ (basic n).preconditions j) (iq : post ≡ (basic n).postconditions j) where
    same : stops (marking l) pre post (basic n).old ≡ stopping (basic n) (marking l) j
    same = rw (ip, iq) (stops_basic (marking l) low)

    pub step_told : (r : Step) → r ≡ step_of (stops (marking l) pre post (basic n).old) → r ≡ step_of (stopping (basic n) (marking l) j)
    step_told r told = told ∙ ap step_of same

    pub step_after : Lent l → (c : ℕ) → length l ≡ c → (new : List ℕ) → new ≡ stepped (stops (marking l) pre post (basic n).old) (set_all [] 1 post (set_all [] 0 pre l)) l
        → new ≡ stepped (stopping (basic n) (marking l) j) (bytes c (fire (basic n) (marking l) j)) l
    step_after lent c long new told =
        let written : set_all [] 1 post (set_all [] 0 pre l) ≡ bytes c (fire (basic n) (marking l) j)
        = rw (ip, iq) (fired l lent) ∙ ap (λ (k : ℕ). bytes k (fire (basic n) (marking l) j)) long in
        told ∙ ap (λ (o : Option Stop). stepped o (set_all [] 1 post (set_all [] 0 pre l)) l) same
        ∙ ap (λ (x : List ℕ). stepped (stopping (basic n) (marking l) j) x l) written

-- ---- a step over lists

module _ (l pre post : List ℕ) (old : ℕ → Bool) (r : Step) (told : r ≡ step_of (stops (marking l) pre post old)) where
  pub over_kept : (x : Cause) → r ≡ Err x → l ≡ stepped (stops (marking l) pre post old) (set_all [] 1 post (set_all [] 0 pre l)) l
  over_kept x h = go (stops (marking l) pre post old) (sym told ∙ h)
    where
      go : (o : Option Stop) → step_of o ≡ Err x → l ≡ stepped o (set_all [] 1 post (set_all [] 0 pre l)) l
      go none e = absurd (let z : ◌≡◌ {A = ℕ} 0 1 = cc in omega arith)
      go (some v) e = refl

  pub over_written : r ≡ goes → set_all [] 1 post (set_all [] 0 pre l) ≡ stepped (stops (marking l) pre post old) (set_all [] 1 post (set_all [] 0 pre l)) l
  over_written h = go (stops (marking l) pre post old) (sym told ∙ h)
    where
      go : (o : Option Stop) → step_of o ≡ goes → set_all [] 1 post (set_all [] 0 pre l) ≡ stepped o (set_all [] 1 post (set_all [] 0 pre l)) l
      go none e = refl
      go (some v) e = absurd (let z : ◌≡◌ {A = ℕ} 0 1 = cc in omega arith)

-- ---- the numbers of its lists

all_conditions : (n : Net) → (basic n).conditions ≡ condition_count n
unfolding basic
all_conditions n = count_conditions n

pub summed : {s ms us bs : List ℕ} {e at weight rest : ℕ} → Owned s ms us bs e at weight rest → Summed s bs
summed {s} {ms} {us} {bs} {e} o =
    record { judged = judged s e o.event; sums = o.laid.sums; few = omega (arith, all_conditions (net_of s), o.laid.few_conditions) }

pub list_inside : (n : Net) (j : ℕ) (post : Bool) (b : ℕ) → T (mem b (list_of (basic n) post j)) → b < (basic n).conditions
unfolding basic
list_inside n j true b t = at_lt (unfolded_conditions n) b (in_post n j b t).1
list_inside n j false b t = at_lt (unfolded_conditions n) b (in_pre n j b t).1

-- ---- the call

pub answers : (o : Option Stop) (c : ℕ) → answered_of (step_of o) c ≡ refused_or (firing_stopped of_unfolding o) (Ok c)
answers none c = refl
answers (some unknown) c = refl
answers (some (lacks b)) c = refl
answers (some (meets b)) c = refl

pub leaves_so : (o : Option Stop) (c : ℕ) (new old : List ℕ) → stepped o new old ≡ leaves (refused_or (firing_stopped of_unfolding o) (Ok c)) new old
leaves_so none c new old = refl
leaves_so (some v) c new old = refl
