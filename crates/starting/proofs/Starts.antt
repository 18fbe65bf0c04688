-- The start of the unfolding: what the writer of copies leaves at the start, and how the call answers.
use Prim.Native.Nat.{ℕ, ◌≤◌, ◌<◌}
use native.Mathlib.Omega.{arith}
use mathlib.Core.Path.{◌≡◌, refl, sym, ap, ap₂, ◌∙◌}
use mathlib.Core.Bool.{Bool}
use mathlib.Core.List.{List, [], ◌++◌}
use lib.ListN.{length, get_or, drop}
use Rattle.model.specs.Net.{Net, Marking, begin}
use Rattle.model.specs.Lent.{bytes, marking}
use Rattle.model.specs.Unfolding.{basic}
use Rattle.model.proofs.Lent.{length_bytes, zeros_say}
use Rattle.model.proofs.Counts.{count_conditions}
use Rattle.refusal.specs.declared.Refusal.{Refusal}
use Rattle.refusal.specs.Answer.{Judged, refused_at, written}
use Rattle.std.specs.Prelude.{Ok, Err}
use Rattle.refusal.proofs.Chain.{fitting_room, fitting_short}
use Rattle.records.specs.Records.{conditions}
use Rattle.table.specs.Walk.{judge_of}
use Rattle.table.specs.Decoded.{net_of}
use Rattle.table.proofs.Decoded.{events_are_all}
use Rattle.layout.specs.Laid.{Laid}
use Rattle.layout.specs.Unfolds.{unfolding_of}
use Rattle.layout.proofs.Limits.{count_read, unfolds_on, unfolds_judged}
use Rattle.copies.specs.Copies.{copies_of}
use Rattle.copies.proofs.Ends.{copies_begin}
use Rattle.starting.specs.Calls.{unfolded_start_of, unfolded_started_of}

-- ---- what holds is what held at the start, and no event has occurred

pub start_written : (n : Net) (m : Marking) → m ≡ begin n → (out after : List ℕ) → after ≡ copies_of n m (marking []) ++ drop (basic n).conditions out
    → after ≡ bytes (basic n).conditions (begin (basic n)) ++ drop (basic n).conditions out
start_written n m e out after w =
    w ∙ ap (λ (l : List ℕ). l ++ drop (basic n).conditions out) (ap₂ (λ (m : Marking) (f : ℕ → Bool). copies_of n m f) e (zeros_say [] 0 refl) ∙ copies_begin n)

-- ---- how the call answers

-- a table that was laid out was judged, with as many events
pub laid_judged : (s : List ℕ) {r : Judged} → r ≡ unfolding_of s (Ok (net_of s).events) → {m : ℕ} → r ≡ Ok m → judge_of s ≡ Ok m
laid_judged s e {m} t =
    let j = unfolds_judged s (Ok 0) (net_of s).events e t in
    j.1 ∙ ap Ok (events_are_all s j.0 j.1 ∙ sym (unfolds_on s (Ok 0) (net_of s).events e t).1)

-- the sum after the last condition counts the unfolded conditions
pub count_is : (s ms us bases : List ℕ) (k : ℕ) → judge_of s ≡ Ok k → Laid s ms us bases → (w : ℕ) → w ≡ conditions s → get_or bases w 0 ≡ (basic (net_of s)).conditions
unfolding basic
count_is s ms us bases k j l w e = ap (λ (x : ℕ). get_or bases x 0) e ∙ count_read s k j bases l.sums ∙ sym (count_conditions (net_of s))

module _ (s out : List ℕ) where
  pub start_refused : {r : Judged} {x : Refusal} → r ≡ unfolded_start_of s (length out) → r ≡ Err x → out ≡ unfolded_started_of s out
  unfolding unfolded_started_of
  start_refused e t = sym (ap (λ (a : Judged). written a (bytes (basic (net_of s)).conditions (begin (basic (net_of s)))) out) (sym e ∙ t))

  pub start_fine : {r : Judged} {k : ℕ} → r ≡ unfolded_start_of s (length out) → r ≡ Ok k → (after : List ℕ)
      → after ≡ bytes (basic (net_of s)).conditions (begin (basic (net_of s))) ++ drop (basic (net_of s)).conditions out → after ≡ unfolded_started_of s out
  unfolding unfolded_started_of
  start_fine e t after w =
      w ∙ ap (λ (c : ℕ). bytes (basic (net_of s)).conditions (begin (basic (net_of s))) ++ drop c out) (sym (length_bytes (basic (net_of s)).conditions (begin (basic (net_of s)))))
      ∙ sym (ap (λ (a : Judged). written a (bytes (basic (net_of s)).conditions (begin (basic (net_of s)))) out) (sym e ∙ t))

  module _ (u : (own : Judged) → unfolding_of s own ≡ own) (count : ℕ) (c : count ≡ (basic (net_of s)).conditions) where
    pub start_short : length out < count → refused_at 16 count ≡ unfolded_start_of s (length out)
    unfolding unfolded_start_of
    start_short h =
        ap (refused_at 16) c ∙ sym (u _ ∙ fitting_short (basic (net_of s)).conditions (length out) (omega arith))

    pub start_room : count ≤ length out → Ok count ≡ unfolded_start_of s (length out)
    unfolding unfolded_start_of
    start_room h = ap Ok c ∙ sym (u _ ∙ fitting_room (basic (net_of s)).conditions (length out) (omega arith))
