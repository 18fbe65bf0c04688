-- What a fine Rule, Conditions or Marking record is: each answer taken back to the tests that led to it.
use Prim.Native.Nat.{ℕ, ◌+◌, ◌%◌, ◌≤◌}
use native.Mathlib.Omega.{arith}
use mathlib.Core.Path.{◌≡◌, sym, ap, ◌∙◌}
use mathlib.Core.List.{List}
use mathlib.Core.Bool.{Bool, true, false, cond}
use lib.Dec.{leb, eqb}
use lib.ListN.{length, get_or}
use borrow.Author.Tests.{leb-true, eqb-true}
use Rattle.lists.specs.Lists.{fits}
use Rattle.words.specs.Words.{word_at, words, bits}
use Rattle.std.specs.Prelude.{Ok}
use Rattle.refusal.specs.Answer.{need}
use Rattle.refusal.proofs.Chain.{need_fine}
use Rattle.records.specs.Records.{part, header_of, when_whole, ruled, front, conditions, marking_part}
use Rattle.rules.specs.Rules.{rule_of, conditions_of, marking_of}
use Rattle.records.proofs.Headers.{known, whole_fine}

-- after the first record, if it is a Rule record, stands the Conditions record
pub rule_fine : (s : List ℕ) (next : ℕ) → rule_of s ≡ Ok next → next ≡ front s
unfolding rule_of front
rule_fine s next e = go (ruled s) e
  where
    go : (b : Bool) → cond b (when_whole (header_of s 0) 0 (λ kind len. need (eqb len 1) 3 0 (need (leb (get_or s 4 0) 1) 4 0 (Ok 5)))) (Ok 0) ≡ Ok next
        → next ≡ cond b 5 0
    go true e =
        let (kind, len, w, e0) = whole_fine (header_of s 0) 0 _ next e in
        let (t1, e1) = need_fine _ 3 0 next _ e0 in
        let (t2, e2) = need_fine _ 4 0 next _ e1 in
        cc e2
    go false e = cc e

pub record ConditionsFine (s : List ℕ) (at next : ℕ) : Type 0 where
  pub next_is : next ≡ at + 4 + word_at s at
  pub within : at + 4 + word_at s at ≤ length s
  pub least : 1 ≤ word_at s at
  pub most : word_at s at ≤ 256
  pub zero_or_one : bits (part s (at + 4) (word_at s at)) ≡ true

pub conditions_fine_lem : (s : List ℕ) (at next : ℕ) → conditions_of s at ≡ Ok next → ConditionsFine s at next
unfolding conditions_of
conditions_fine_lem s at next e =
    let (kind, len, w, e0) = whole_fine (header_of s at) at _ next e in
    let k = known s at kind len w in
    let (t1, e1) = need_fine _ 2 at next _ e0 in
    let (t2, e2) = need_fine _ 3 at next _ e1 in
    let (t3, e3) = need_fine _ 3 at next _ e2 in
    let (t4, e4) = need_fine _ 4 at next _ e3 in
    let n : at + 4 + len ≡ next = cc e4 in
    let low = leb-true 1 len t2 in
    let high = leb-true len 256 t3 in
    record {
      next_is = omega arith;
      within = omega arith;
      least = omega arith;
      most = omega arith;
      zero_or_one = rw (← k.len_is) t4;
    }

pub record MarkingFine (s : List ℕ) (at next : ℕ) : Type 0 where
  pub next_is : next ≡ at + 4 + word_at s at
  pub ends : next ≡ length s
  pub even : word_at s at % 2 ≡ 0
  pub ascends : fits (conditions s) (words (marking_part s at)) ≡ true

pub marking_fine : (s : List ℕ) (at next : ℕ) → marking_of s at ≡ Ok next → MarkingFine s at next
unfolding marking_of
marking_fine s at next e =
    let (kind, len, w, e0) = whole_fine (header_of s at) at _ next e in
    let k = known s at kind len w in
    let (t1, e1) = need_fine _ 2 at next _ e0 in
    let (t2, e2) = need_fine _ 3 at next _ e1 in
    let (t3, e3) = need_fine _ 5 at next _ e2 in
    let (t4, e4) = need_fine _ 9 (at + 4 + len) next _ e3 in
    let n : at + 4 + len ≡ next = cc e4 in
    let l = leb-true (length s) (at + 4 + len) t4 in
    let d : len % 2 ≡ 0 = eqb-true (len % 2) 0 t2 in
    record {
      next_is = omega arith;
      ends = omega arith;
      even = ap (λ (x : ℕ). x % 2) (sym k.len_is) ∙ d;
      ascends = rw (← k.len_is) t3;
    }
