-- A piece written, a step fired, and what stays so from place to place.
use Prim.Native.Nat.{ℕ, ◌+◌, ◌-◌, ◌≤◌, ◌<◌}
use native.Mathlib.Omega.{arith}
use mathlib.Core.Path.{◌≡◌, refl, sym, ap, ◌∙◌, subst}
use mathlib.Core.Bool.{Bool, true, false, cond}
use mathlib.Core.Option.{Option, none, some}
use mathlib.Core.List.{List, [], ◌∷◌}
use borrow.Author.Tests.{lt-ltb, le-ltb, ltb-true}
use lib.Dec.{ltb}
use lib.ListN.{length, get_or, set}
use Rattle.model.specs.Net.{Net, Stop, stopping, fire}
use Rattle.model.specs.Lent.{bytes, marking}
use Rattle.model.specs.Across.{most_unfolded}
use Rattle.model.proofs.Lent.{length_bytes}
use Rattle.refusal.specs.Answer.{Judged, value_of, written}
use Rattle.table.specs.Decoded.{net_of}
use Rattle.table.proofs.Walk.{accepted}
use Rattle.step.specs.Lent.{Lent}
use Rattle.step.specs.Steps.{stepped}
use Rattle.step.proofs.Bytes.{lent_bytes}
use Rattle.listing.specs.declared.Piece.{Piece}
use Rattle.listing.specs.Text.{newline, step_line}
use Rattle.listing.specs.Calls.{held_in, first_in, next_of, text_of, piece_of}
use Rattle.listing.proofs.Answers.{piece_fits}
use Rattle.lines.specs.declared.Place.{Place}
use Rattle.lines.specs.declared.Place.TheVariants.{Start, Step, End, More, Last, Over}
use Rattle.lines.specs.declared.Written.{Written}
use Rattle.lines.specs.Places.{step_from, more_from, next_at, goes_on, fired, shown_at, step_text, text_at, written_at, left_at}
use Rattle.spelling.specs.Puts.{Puts}
use Rattle.lines.specs.Needs.{InRun, Steady, Ready}

-- ---- a piece written

-- A piece that has room is written, and its bytes are counted.
pub piece_put : (p : Piece) (l out : List ℕ) (answer : Judged) (count : ℕ) (after : List ℕ) → length l ≤ most_unfolded → length (text_of p l) ≤ length out
    → answer ≡ piece_of p l (length out) → after ≡ written answer (text_of p l) out → count ≡ value_of answer → Puts (text_of p l) out count after
piece_put p l out answer count after few room told left counted =
    let fine = told ∙ piece_fits p l (length out) (length (text_of p l)) refl few room in
    record { told = counted ∙ ap value_of fine; stored = left ∙ ap (λ (x : Judged). written x (text_of p l) out) fine }

pub newline_put : (out : List ℕ) → 0 < length out → Puts (newline ∷ []) out 1 (set out 0 newline)
newline_put [] h = absurd (omega arith)
newline_put (x ∷ out) h = record { told = refl; stored = refl }

pub nothing_put : (out : List ℕ) → Puts [] out 0 out
nothing_put out = record { told = refl; stored = refl }

-- ---- a step fired

pub fired_is : (n : Net) (l : List ℕ) (e : ℕ) → fired n l e ≡ stepped (stopping n (marking l) e) (bytes (length l) (fire n (marking l) e)) l
unfolding fired
fired_is n l e = refl

pub fired_long : (n : Net) (l : List ℕ) (e : ℕ) → length (fired n l e) ≡ length l
unfolding fired
fired_long n l e = go (stopping n (marking l) e)
  where
    go : (o : Option Stop) → length (stepped o (bytes (length l) (fire n (marking l) e)) l) ≡ length l
    go none = length_bytes (length l) (fire n (marking l) e)
    go (some v) = refl

fired_lent : (n : Net) (l : List ℕ) (e : ℕ) → Lent l → Lent (fired n l e)
unfolding fired
fired_lent n l e h = go (stopping n (marking l) e)
  where
    go : (o : Option Stop) → Lent (stepped o (bytes (length l) (fire n (marking l) e)) l)
    go none = lent_bytes (length l) (fire n (marking l) e)
    go (some v) = h

-- ---- what was written at a place

pub same_text : {x y out : List ℕ} {count : ℕ} {after : List ℕ} → x ≡ y → Puts x out count after → Puts y out count after
same_text {x} {y} {out} {count} {after} e p = subst (λ (t : List ℕ). Puts t out count after) e p

-- The line of a step, by the numbers that the run and its lift have there.
pub step_put : (r w l : List ℕ) (k : ℕ) {e u : ℕ} {out : List ℕ} {count : ℕ} {after : List ℕ} → e ≡ get_or r k 0 → u ≡ get_or w k 0
    → Puts (step_line k e u (held_in l)) out count after → Puts (step_text r w l k) out count after
step_put r w l k {e} a b p =
    same_text (ap (λ (x : ℕ). step_line k e x (held_in l)) b ∙ ap (λ (x : ℕ). step_line k x (get_or w k 0) (held_in l)) a) p

-- What holds of the place that was found holds of the place that was asked for.
pub at_place : (n : Net) (r w end l : List ℕ) {new out : List ℕ} {count : ℕ} {after : List ℕ} {p q : Place} → p ≡ q
    → (new ≡ shown_at n r l q) × Puts (text_at r w end new q) out count after → (new ≡ shown_at n r l p) × Puts (text_at r w end new p) out count after
at_place n r w end l {new} {out} {count} {after} e h =
    subst (λ (x : Place). (new ≡ shown_at n r l x) × Puts (text_at r w end new x) out count after) (sym e) h

pub written_is : (r w end l : List ℕ) (p : Place) (count : ℕ) (next : Place) → count ≡ length (text_at r w end l p) → next ≡ next_at (length r) end p
    → ◌≡◌ {A = Written} (record { count = count; next = next }) (written_at r w end l p)
unfolding written_at
written_is r w end l p count next a b = rw (a, b)

-- ---- from place to place

pub at_step : (steps k : ℕ) → k < steps → step_from steps k ≡ Step k
unfolding step_from
at_step steps k h = rw (lt-ltb k steps h)

pub past_steps : (steps k : ℕ) → steps ≤ k → step_from steps k ≡ End
unfolding step_from
past_steps steps k h = rw (le-ltb k steps h)

pub at_more : (conditions from : ℕ) → from < conditions → more_from conditions from ≡ More from
unfolding more_from
at_more conditions from h = rw (lt-ltb from conditions h)

pub past_more : (conditions from : ℕ) → conditions ≤ from → more_from conditions from ≡ Last
unfolding more_from
past_more conditions from h = rw (le-ltb from conditions h)

step_in : (steps k : ℕ) → InRun steps (step_from steps k)
unfolding step_from
step_in steps k = go (ltb k steps) refl
  where
    go : (b : Bool) → ltb k steps ≡ b → InRun steps (cond b (Step k) End)
    go true e j h = let same : k ≡ j = cc in let below = ltb-true k steps e in omega (arith, same, below)
    go false e j h = absurd (let z : ◌≡◌ {A = ℕ} 0 1 = cc in omega arith)

more_in : (steps conditions from : ℕ) → InRun steps (more_from conditions from)
unfolding more_from
more_in steps conditions from = go (ltb from conditions)
  where
    go : (b : Bool) → InRun steps (cond b (More from) Last)
    go true j h = absurd (let z : ◌≡◌ {A = ℕ} 0 1 = cc in omega arith)
    go false j h = absurd (let z : ◌≡◌ {A = ℕ} 0 1 = cc in omega arith)

over_in : (steps : ℕ) → InRun steps Over
over_in steps j h = absurd (let z : ◌≡◌ {A = ℕ} 0 1 = cc in omega arith)

next_in : (steps : ℕ) (end : List ℕ) (p : Place) → InRun steps (next_at steps end p)
next_in steps end Start = step_in steps 0
next_in steps end (Step k) = step_in steps (k + 1)
next_in steps end End = more_in steps (length end) (first_in end + 1)
next_in steps end (More from) = more_in steps (length end) (next_of end from)
next_in steps end Last = over_in steps
next_in steps end Over = over_in steps

-- A table has at most 256 conditions.
pub steady_few : {s : List ℕ} {n : ℕ} {offsets r w l : List ℕ} → Steady s n offsets r w l → length l ≤ 256
steady_few {s} {n} h =
    let most = (accepted s n h.playable.judged).conditions_fine.most in
    omega (arith, h.long, most)

module _ (s : List ℕ) (n : ℕ) (offsets r w l : List ℕ) where
  steady_fired : (e : ℕ) → Steady s n offsets r w l → Steady s n offsets r w (fired (net_of s) l e)
  steady_fired e h =
      let long = fired_long (net_of s) l e in
      record {
        playable = record {
          judged = h.playable.judged;
          indexed = h.playable.indexed;
          lents = fired_lent (net_of s) l e h.playable.lents;
          room = omega (arith, long, h.playable.room);
        };
        long = long ∙ h.long;
        beside = h.beside;
        short = h.short;
      }

  steady_shown : (p : Place) → Steady s n offsets r w l → Steady s n offsets r w (shown_at (net_of s) r l p)
  steady_shown Start h = h
  steady_shown (Step k) h = steady_fired (get_or r k 0) h
  steady_shown End h = h
  steady_shown (More from) h = h
  steady_shown Last h = h
  steady_shown Over h = h

  -- What is needed at a place is there at the next.
  ready_next : (end : List ℕ) (p : Place) → Ready s n offsets r w end l p → Ready s n offsets r w end (shown_at (net_of s) r l p) (next_at (length r) end p)
  ready_next end p h = record { steady = steady_shown p h.steady; few = h.few; here = next_in (length r) end p }

-- ---- fewer pieces are left

step_left : (steps : ℕ) (end : List ℕ) (k d : ℕ) → (k < steps → (steps - k) + length end + 4 < d) → length end + 3 < d → left_at steps end (step_from steps k) < d
unfolding step_from
step_left steps end k d more less = go (ltb k steps) refl
  where
    go : (b : Bool) → ltb k steps ≡ b → left_at steps end (cond b (Step k) End) < d
    go true e = more (ltb-true k steps e)
    go false e = less

more_left : (steps : ℕ) (end : List ℕ) (from d : ℕ) → (from < length end → (length end - from) + 2 < d) → 1 < d → left_at steps end (more_from (length end) from) < d
unfolding more_from
more_left steps end from d more less = go (ltb from (length end)) refl
  where
    go : (b : Bool) → ltb from (length end) ≡ b → left_at steps end (cond b (More from) Last) < d
    go true e = more (ltb-true from (length end) e)
    go false e = less

pub fewer_left : (steps : ℕ) (end : List ℕ) (p : Place) → goes_on p ≡ true → left_at steps end (next_at steps end p) < left_at steps end p
fewer_left steps end Start g = step_left steps end 0 (steps + length end + 5) (λ h. omega arith) (omega arith)
fewer_left steps end (Step k) g = step_left steps end (k + 1) ((steps - k) + length end + 4) (λ h. omega arith) (omega arith)
fewer_left steps end End g = more_left steps end (first_in end + 1) (length end + 3) (λ h. omega arith) (omega arith)
fewer_left steps end (More from) g = more_left steps end (next_of end from) ((length end - from) + 2) (λ h. omega arith) (omega arith)
fewer_left steps end Last g = omega arith
fewer_left steps end Over g = absurd (let z : ◌≡◌ {A = ℕ} 0 1 = cc in omega arith)

-- ---- what writing at a place answers

module _ (s : List ℕ) (n : ℕ) (offsets r w end l new : List ℕ) (p : Place) (o : Written) (answered : o ≡ written_at r w end new p) where
  next_is_lem : o.next ≡ next_at (length r) end p
  unfolding written_at
  next_is_lem = ap (λ (x : Written). x.next) answered

  -- The next place can be written at.
  pub written_ready : Ready s n offsets r w end l p → new ≡ shown_at (net_of s) r l p → Ready s n offsets r w end new o.next
  written_ready h shown =
      subst (λ (q : Place). Ready s n offsets r w end new q) (sym next_is_lem)
      (subst (λ (m : List ℕ). Ready s n offsets r w end m (next_at (length r) end p)) (sym shown) (ready_next s n offsets r w l end p h))

  -- Fewer pieces are left there.
  pub written_fewer : goes_on p ≡ true → left_at (length r) end o.next < left_at (length r) end p
  written_fewer g = subst (λ (q : Place). left_at (length r) end q < left_at (length r) end p) (sym next_is_lem) (fewer_left (length r) end p g)
