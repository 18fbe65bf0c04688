-- What a fine Event record is: the answer taken back to the tests that led to it.
use Prim.Native.Nat.{ℕ, ◌+◌, ◌*◌, ◌≤◌}
use native.Mathlib.Omega.{arith}
use mathlib.Core.Path.{◌≡◌}
use mathlib.Core.List.{List}
use mathlib.Core.Bool.{true}
use lib.ListN.{length}
use borrow.Author.Tests.{leb-true, eqb-true}
use Rattle.lists.specs.Lists.{fits}
use Rattle.words.specs.Words.{word_at, words, count_in}
use Rattle.std.specs.Prelude.{Ok}
use Rattle.refusal.proofs.Chain.{need_fine}
use Rattle.records.specs.Records.{header_of, conditions, flags, pre_count, post_count, pre_part, post_part}
use Rattle.records.proofs.Headers.{known, whole_fine}
use Rattle.event_rules.specs.EventRules.{lists_of, event_of}

pub record EventFine (s : List ℕ) (at next : ℕ) : Type 0 where
  pub next_is : next ≡ at + 4 + word_at s at
  pub len_is : word_at s at ≡ 4 + 2 * (pre_count s at + post_count s at)
  pub within : at + 4 + word_at s at ≤ length s
  pub pre_ascends : fits (conditions s) (words (pre_part s at)) ≡ true
  pub post_ascends : fits (conditions s) (words (post_part s at)) ≡ true
  pub touches : 1 ≤ pre_count s at + post_count s at
  pub few : count_in (flags s) (words (pre_part s at)) ≤ 16

pub event_fine : (s : List ℕ) (at next : ℕ) → event_of s at ≡ Ok next → EventFine s at next
unfolding event_of lists_of
event_fine s at next e =
    let (kind, len, w, e0) = whole_fine (header_of s at) at _ next e in
    let k = known s at kind len w in
    let (t1, e1) = need_fine _ 2 at next _ e0 in
    let (t2, e2) = need_fine _ 3 at next _ e1 in
    let (t3, e3) = need_fine _ 3 at next _ e2 in
    let (t4, e4) = need_fine _ 5 at next _ e3 in
    let (t5, e5) = need_fine _ 5 at next _ e4 in
    let (t6, e6) = need_fine _ 7 at next _ e5 in
    let (t7, e7) = need_fine _ 8 at next _ e6 in
    let n : at + 4 + len ≡ next = cc e7 in
    let l : len ≡ 4 + 2 * (pre_count s at + post_count s at) = eqb-true len _ t3 in
    record {
      next_is = omega arith;
      len_is = omega arith;
      within = omega arith;
      pre_ascends = t4;
      post_ascends = t5;
      touches = leb-true _ _ t6;
      few = leb-true _ _ t7;
    }
