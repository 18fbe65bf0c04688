-- An event of a judged table: where its record stands, where the next one does, and the walk that passes it.
use Prim.Native.Nat.{ℕ, suc, ◌+◌, ◌≤◌, ◌<◌}
use native.Mathlib.Omega.{arith}
use mathlib.Core.Path.{◌≡◌, refl, sym, ap, ◌∙◌}
use mathlib.Core.List.{List}
use lib.ListN.{length}
use Rattle.std.specs.Prelude.{Ok, Err}
use Rattle.words.specs.Words.{word_at}
use Rattle.refusal.specs.Answer.{Judged}
use Rattle.event_rules.proofs.Fine.{EventFine}
use Rattle.table.specs.Walk.{judge_of, offset_of}
use Rattle.table.specs.Decoded.{net_if, net_of}
use Rattle.table.specs.declared.in_order.Event.{Event}
use Rattle.table.specs.declared.in_order.Events.{Events}
use Rattle.table.specs.InOrder.{Turned}
use Rattle.table.proofs.Walk.{accepted}

-- a table that has an event was accepted
judged_if : (s : List ℕ) (j : Judged) (e : ℕ) → e < (net_if j s).events → j ≡ Ok (net_if j s).events
judged_if s (Ok n) e h = refl
judged_if s (Err refusal) e h = absurd (omega arith)

module _ (s : List ℕ) (e : ℕ) (h : e < (net_of s).events) where
  pub judged : judge_of s ≡ Ok (net_of s).events
  unfolding net_of
  judged = judged_if s (judge_of s) e h

  pub event_fine : EventFine s (offset_of s e) (offset_of s (suc e))
  event_fine = (accepted s (net_of s).events judged).event e h

  pub next_offset : offset_of s (e + 1) ≡ offset_of s e + 4 + word_at s (offset_of s e)
  next_offset =
      let f = event_fine in
      let q : e + 1 ≡ suc e = omega arith in
      ap (λ (x : ℕ). offset_of s x) q ∙ f.next_is

  pub next_within : offset_of s e + 4 + word_at s (offset_of s e) ≤ length s
  next_within = event_fine.within

-- a walk over the events that is at event i
module _ (s : List ℕ) (i at : ℕ) (h : i < (net_of s).events) (q : at ≡ offset_of s i) where
  pub walk_next : (w : ℕ) → w ≡ word_at s at → at + 4 + w ≡ offset_of s (i + 1)
  walk_next w e = rw (e, q) (sym (next_offset s i h))

  pub walk_within : at + 4 + word_at s at ≤ length s
  walk_within = rw q (next_within s i h)

-- a walk over the first events of a table
pub record Over (s : List ℕ) (upto : ℕ) (walk : Events) : Type 0 where
  pub same_table : walk.table.now ≡ s
  pub same_end : walk.end ≡ upto

-- the event that such a walk gave, and the walk after it
pub record Passed (s : List ℕ) (upto : ℕ) (walk : Events) (event : Event) (next : Events) : Type 0 where
  pub number_is : event.number ≡ walk.number
  pub at_is : event.at ≡ offset_of s walk.number
  pub before : walk.number < upto
  pub inside : walk.number < (net_of s).events
  pub next_number : next.number ≡ walk.number + 1
  pub over : Over s upto next

module _ (s : List ℕ) (upto : ℕ) (walk next : Events) (event : Event) (o : Over s upto walk) (t : Turned walk event next) where
  upto_inside : upto ≤ (net_of s).events
  upto_inside = rw (← o.same_table, ← o.same_end) walk.inside

  pub passed : Passed s upto walk event next
  passed =
      record {
        number_is = t.number_is;
        at_is = t.at_is ∙ walk.at_is ∙ rw o.same_table;
        before = omega (arith, o.same_end);
        inside = omega (arith, o.same_end, upto_inside);
        next_number = t.next_number;
        over = record { same_table = t.same_table ∙ o.same_table; same_end = t.same_end ∙ o.same_end };
      }
