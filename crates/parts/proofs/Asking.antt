-- What a fine or a refused asking tells of the decoded net: its lists, and which conditions are persistent.
use Prim.Native.Nat.{ℕ, suc, ◌+◌, ◌<◌}
use native.Mathlib.Omega.{arith}
use mathlib.Core.Path.{◌≡◌, refl, ap}
use mathlib.Core.List.{List, []}
use mathlib.Core.Bool.{Bool, true, false, cond}
use lib.Dec.{ltb, eqb}
use lib.ListN.{get_or}
use lib.Seq.{get_or-take, get_or-drop}
use borrow.Author.Tests.{ltb-true, lt-ltb, le-ltb}
use Rattle.words.specs.Words.{words}
use Rattle.refusal.specs.declared.Refusal.{Refusal}
use Rattle.refusal.specs.Answer.{Judged, need, and_then}
use Rattle.std.specs.Prelude.{Ok, Err}
use Rattle.refusal.proofs.Chain.{never_both, need_fine, then_fine}
use Rattle.records.specs.Records.{front, conditions, pre_part, post_part}
use Rattle.event_rules.proofs.Fine.{EventFine}
use Rattle.table.specs.Walk.{judge_of, offset_of}
use Rattle.table.specs.Decoded.{net_if, net_of, list_of}
use Rattle.parts.specs.Asked.{asked_of, asked_condition_of}
use Rattle.table.proofs.Walk.{accepted}

-- What a fine asking for an event tells.
pub record AskedFine (s : List ℕ) (e at : ℕ) : Type 0 where
  pub count : ℕ
  pub judged : judge_of s ≡ Ok count
  pub below : e < count
  pub at_is : at ≡ offset_of s e
  pub event : EventFine s at (offset_of s (suc e))

pub asked_fine : (s : List ℕ) (e at : ℕ) → asked_of s e ≡ Ok at → AskedFine s e at
unfolding asked_of
asked_fine s e at t =
    let (n, j, r) = then_fine (judge_of s) _ at t in
    let (b, f) = need_fine (ltb e n) 10 0 at (Ok (offset_of s e)) r in
    let h = ltb-true e n b in
    let q : at ≡ offset_of s e = cc f in
    record { count = n; judged = j; below = h; at_is = q; event = rw q ((accepted s n j).event e h) }

-- the lists of an event that was found
module _ (s : List ℕ) (e at : ℕ) (t : asked_of s e ≡ Ok at) where
  pub list_pre : words (pre_part s at) ≡ list_of (net_of s) (net_of s).preconditions e
  unfolding net_of
  list_pre =
      let a = asked_fine s e at t in
      simp (a.judged, lt-ltb e a.count a.below) (ap (λ (x : ℕ). words (pre_part s x)) a.at_is)

  pub list_post : words (post_part s at) ≡ list_of (net_of s) (net_of s).postconditions e
  unfolding net_of
  list_post =
      let a = asked_fine s e at t in
      simp (a.judged, lt-ltb e a.count a.below) (ap (λ (x : ℕ). words (post_part s x)) a.at_is)

-- and of one that was not
none_below : (s : List ℕ) (e n : ℕ) (b : Bool) (refusal : Refusal) (l : List ℕ) → need b 10 0 (Ok (offset_of s e)) ≡ Err refusal → [] ≡ cond b l []
unfolding need
none_below s e n true refusal l t = never_both t
none_below s e n false refusal l t = refl

none_if : (s : List ℕ) (e : ℕ) (j : Judged) (refusal : Refusal) (lists : ℕ → List ℕ) → and_then j (λ n. need (ltb e n) 10 0 (Ok (offset_of s e))) ≡ Err refusal
    → [] ≡ list_of (net_if j s) lists e
none_if s e (Ok n) refusal lists t = none_below s e n (ltb e n) refusal (lists e) t
none_if s e (Err x) refusal lists t = rw (le-ltb e 0 (omega arith))

pub list_none : (s : List ℕ) (e : ℕ) (refusal : Refusal) (lists : ℕ → List ℕ) → asked_of s e ≡ Err refusal → words [] ≡ list_of (net_of s) lists e
unfolding net_of asked_of words
list_none s e refusal lists t = none_if s e (judge_of s) refusal lists t

-- the flag of a condition that was found
pub flag_read : (s : List ℕ) (b at : ℕ) → asked_condition_of s b ≡ Ok at → eqb (get_or s at 0) 1 ≡ (net_of s).persistent b
unfolding asked_condition_of net_of
flag_read s b at t =
    let (n, j, r) = then_fine (judge_of s) _ at t in
    let (l, f) = need_fine (ltb b (conditions s)) 10 0 at (Ok (front s + 4 + b)) r in
    let h : b < conditions s = ltb-true b (conditions s) l in
    let q : at ≡ front s + 4 + b = cc f in
    simp j (rw (q, get_or-take, get_or-drop))
