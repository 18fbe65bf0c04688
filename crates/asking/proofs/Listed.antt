-- A list asked for: what is answered and left where the asking is refused and where it is fine, and the lists of a table.
use Prim.Native.Nat.{ℕ}
use mathlib.Core.Path.{◌≡◌, sym, ap, ap₂, ◌∙◌}
use mathlib.Core.List.{List}
use lib.ListN.{length}
use Rattle.words.specs.Words.{words}
use Rattle.model.specs.Net.{begin}
use Rattle.model.specs.Lent.{bytes}
use Rattle.refusal.specs.declared.Refusal.{Refusal}
use Rattle.refusal.specs.Answer.{Judged, and_then, fitting, written}
use Rattle.std.specs.Prelude.{Ok, Err}
use Rattle.records.specs.Records.{conditions, pre_part, post_part}
use Rattle.table.specs.Walk.{judge_of}
use Rattle.parts.specs.Asked.{asked_of}
use Rattle.table.specs.Decoded.{net_of}
use Rattle.parts.proofs.Asking.{asked_fine}
use Rattle.table.proofs.Decoded.{conditions_are_all}
use Rattle.held.specs.Held.{held_in}
use Rattle.asking.specs.Calls.{start_of, start_into}

-- An asking x for a list of which so many fit.
module _ (x : Judged) (list out : List ℕ) (needed : ℕ) where
  abbrev whole : Judged
  whole = and_then x (λ at. fitting needed (length out))

  pub listed_refused : (r : Judged) (refusal : Refusal) → r ≡ x → r ≡ Err refusal → (r ≡ whole) × (out ≡ written whole list out)
  listed_refused r refusal e t =
      let told : x ≡ Err refusal = sym e ∙ t in
      (t ∙ sym (ap (λ (y : Judged). and_then y (λ at. fitting needed (length out))) told), rw told)

  pub listed_fine : (at : ℕ) → x ≡ Ok at → (r : Judged) (l after : List ℕ) (count : ℕ) → l ≡ list → count ≡ needed → r ≡ fitting count (length out) → after ≡ written r l out
      → (r ≡ whole) × (after ≡ written whole list out)
  listed_fine at t r l after count e k f g =
      let same : r ≡ whole = f ∙ ap (λ (y : ℕ). fitting y (length out)) k ∙ sym (ap (λ (y : Judged). and_then y (λ at. fitting needed (length out))) t) in
      (same, g ∙ ap (λ (y : List ℕ). written r y out) e ∙ ap (λ (y : Judged). written y list out) same)

-- The lists of an event that was found.
module _ (s : List ℕ) (e at : ℕ) (t : asked_of s e ≡ Ok at) where
  pub pre_read : (l : List ℕ) → l ≡ pre_part s at → words l ≡ (net_of s).preconditions e
  unfolding net_of
  pre_read l p = let a = asked_fine s e at t in simp a.judged (ap words p ∙ ap (λ (x : ℕ). words (pre_part s x)) a.at_is)

  pub post_read : (l : List ℕ) → l ≡ post_part s at → words l ≡ (net_of s).postconditions e
  unfolding net_of
  post_read l p = let a = asked_fine s e at t in simp a.judged (ap words p ∙ ap (λ (x : ℕ). words (post_part s x)) a.at_is)

-- The start of a judged table, once its marking is there as words.
pub start_fine : (s : List ℕ) (n : ℕ) → judge_of s ≡ Ok n → (held : List ℕ) → held_in held ≡ begin (net_of s) → (count : ℕ) → count ≡ conditions s
    → (out after : List ℕ) (r : Judged) → r ≡ fitting count (length out) → after ≡ written r (bytes count (held_in held)) out
    → (r ≡ start_of s (length out)) × (after ≡ start_into s out)
unfolding start_of start_into
start_fine s n j held b count k out after r f g =
    let same : count ≡ (net_of s).conditions = k ∙ conditions_are_all s n j in
    listed_fine (judge_of s) (bytes (net_of s).conditions (begin (net_of s))) out (net_of s).conditions n j r (bytes count (held_in held)) after count
    (ap₂ bytes same b) same f g
