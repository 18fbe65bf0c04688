-- Which part of a table is shown for an asking, and where it lies: one law for every list.
use Prim.Native.Nat.{ℕ, ◌+◌, ◌*◌, ◌≤◌}
use native.Mathlib.Omega.{arith}
use mathlib.Core.Path.{◌≡◌, sym, ◌∙◌}
use mathlib.Core.List.{List, []}
use lib.ListN.{length}
use Rattle.refusal.specs.declared.Refusal.{Refusal}
use Rattle.refusal.specs.Answer.{Judged}
use Rattle.std.specs.Prelude.{Ok, Err}
use Rattle.records.specs.Records.{pre_count, post_count}
use Rattle.records.specs.Parts.{place_in}
use Rattle.records.proofs.Parts.{place_in_lem}
use Rattle.table.specs.Walk.{judge_of, offset_of}
use Rattle.parts.specs.Asked.{asked_of, asked_marking_of, shown_for, place_for}
use Rattle.table.proofs.Walk.{accepted}
use Rattle.parts.proofs.Asking.{asked_fine}

-- an asking's answer r, refused
module _ {x r : Judged} {refusal : Refusal} (asked : r ≡ x) (t : r ≡ Err refusal) where
  pub shown_none : (bytes : ℕ → List ℕ) → [] ≡ shown_for x bytes
  shown_none bytes = simp (sym asked ∙ t)

  pub place_none : (place : ℕ → ℕ) → 0 ≡ place_for x place
  place_none place = simp (sym asked ∙ t)

-- an asking's answer r, fine, with a list that begins inside the table
module _ {x r : Judged} {at : ℕ} (asked : r ≡ x) (t : r ≡ Ok at) where
  pub shown_at_lem : (bytes : ℕ → List ℕ) → bytes at ≡ shown_for x bytes
  shown_at_lem bytes = simp (sym asked ∙ t)

  pub place_at : (s : List ℕ) (place : ℕ → ℕ) → place at ≤ length s → place_in s (place at) ≡ place_for x place
  place_at s place h = sym (place_in_lem s (place at) h) ∙ simp (sym asked ∙ t)

-- an event that was found has its lists inside the table
pub asked_room : (s : List ℕ) (e at : ℕ) → asked_of s e ≡ Ok at → at + 8 + 2 * pre_count s at + 2 * post_count s at ≤ length s
asked_room s e at t = let f = (asked_fine s e at t).event in omega arith

-- so has the Marking record of an accepted table
pub marking_room : (s : List ℕ) (n : ℕ) → judge_of s ≡ Ok n → offset_of s n + 4 ≤ length s
marking_room s n j = let m = (accepted s n j).marking in omega arith

pub marking_asked : (s : List ℕ) (n : ℕ) → judge_of s ≡ Ok n → Ok (offset_of s n) ≡ asked_marking_of s
unfolding asked_marking_of
marking_asked s n j = simp j

pub marking_refused : (s : List ℕ) (refusal : Refusal) → judge_of s ≡ Err refusal → Err refusal ≡ asked_marking_of s
unfolding asked_marking_of
marking_refused s refusal j = simp j
