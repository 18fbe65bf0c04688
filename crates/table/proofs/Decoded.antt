-- The decoded net of a table, from how the table and an asking were judged.
use Prim.Native.Nat.{ℕ}
use mathlib.Core.Path.{◌≡◌, refl, sym, ap}
use mathlib.Core.List.{List, []}
use Rattle.model.specs.Net.{Net}
use Rattle.words.specs.Words.{words}
use Rattle.refusal.specs.declared.Refusal.{Refusal}
use Rattle.refusal.specs.Answer.{Judged, and_then}
use Rattle.std.specs.Prelude.{Ok, Err}
use Rattle.records.specs.Records.{conditions, marking_part}
use Rattle.table.specs.Walk.{judge_of, offset_of}
use Rattle.table.specs.Decoded.{net_if, net_of}

pub net_judged : (s : List ℕ) (j : Judged) → judge_of s ≡ j → net_of s ≡ net_if j s
unfolding net_of
net_judged s j e = ap (λ (x : Judged). net_if x s) e

-- an accepted table has the events that were judged, and the conditions that its first record counts
module _ (s : List ℕ) (k : ℕ) (j : judge_of s ≡ Ok k) where
  pub events_are_all : k ≡ (net_of s).events
  events_are_all = sym (ap (λ (n : Net). n.events) (net_judged s (Ok k) j))

  pub conditions_are_all : conditions s ≡ (net_of s).conditions
  conditions_are_all = sym (ap (λ (n : Net). n.conditions) (net_judged s (Ok k) j))

-- the judge's answer counts the net's events
count_if : (s : List ℕ) (j : Judged) → j ≡ and_then j (λ _. Ok (net_if j s).events)
count_if s (Ok n) = refl
count_if s (Err refusal) = refl

pub events_counted : (s : List ℕ) → judge_of s ≡ and_then (judge_of s) (λ _. Ok (net_of s).events)
unfolding net_of
events_counted s = count_if s (judge_of s)

-- the start's conditions, by the judge's answer
pub start_none : (s : List ℕ) (refusal : Refusal) → judge_of s ≡ Err refusal → words [] ≡ (net_of s).start
unfolding net_of words
start_none s refusal j = simp j

pub start_read : (s : List ℕ) (n : ℕ) → judge_of s ≡ Ok n → words (marking_part s (offset_of s n)) ≡ (net_of s).start
unfolding net_of
start_read s n j = simp j
