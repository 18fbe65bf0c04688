-- An accepted table is a sound net within the limits.
use Prim.Native.Nat.{ℕ, zero, suc, ◌+◌, ◌*◌, ◌≤◌, ◌<◌}
use native.Mathlib.Omega.{arith}
use mathlib.Core.Path.{◌≡◌, refl, ap}
use mathlib.Core.List.{List, [], ◌∷◌}
use lib.Dec.{T}
use lib.ListN.{length, drop, length-drop}
use lib.Seq.{length-take-le}
use Rattle.lists.specs.Lists.{fits}
use Rattle.lists.proofs.Bools.{T_of}
use Rattle.lists.proofs.Tests.{fits_ascends, fits_in}
use Rattle.model.specs.Net.{Sound}
use Rattle.model.specs.Unfolding.{reads}
use Rattle.words.specs.Words.{words, count_in}
use Rattle.std.specs.Prelude.{Ok}
use Rattle.records.specs.Records.{part, conditions, pre_count, post_count, pre_part, post_part, marking_part}
use Rattle.event_rules.proofs.Fine.{EventFine}
use Rattle.table.specs.Walk.{judge_of, offset_of}
use Rattle.table.specs.Decoded.{net_if, net_of}
use Rattle.table.specs.Tabled.{Tabled}
use Rattle.table.proofs.Walk.{Accepted, accepted}
use Rattle.table.proofs.Decoded.{net_judged}

-- an even number of bytes is half as many numbers
words_length : (l : List ℕ) (k : ℕ) → length l ≡ 2 * k → length (words l) ≡ k
unfolding words
words_length [] k h = omega arith
words_length (a ∷ []) k h = absurd (omega arith)
words_length (a ∷ b ∷ r) zero h = absurd (omega arith)
words_length (a ∷ b ∷ r) (suc k) h = ap suc (words_length r k (omega arith))

-- a part that lies inside has its length
pub part_length : (s : List ℕ) (a k : ℕ) → a + k ≤ length s → length (part s a k) ≡ k
part_length s a k h = length-take-le k (drop a s) (rw length-drop (omega arith))

-- the lists of a fine event have as many conditions as it counts
module _ (s : List ℕ) (at next : ℕ) (f : EventFine s at next) where
  pub pre_length : length (words (pre_part s at)) ≡ pre_count s at
  pre_length = words_length (pre_part s at) (pre_count s at) (part_length s (at + 8) (2 * pre_count s at) (omega arith))

  pub post_length : length (words (post_part s at)) ≡ post_count s at
  post_length = words_length (post_part s at) (post_count s at) (part_length s (at + 8 + 2 * pre_count s at) (2 * post_count s at) (omega arith))

tabled_read : (s : List ℕ) (n : ℕ) → Accepted s n → Tabled (net_if (Ok n) s)
unfolding reads count_in
tabled_read s n a =
    record {
      sound = record {
        pre_in = λ e b h. fits_in (conditions s) (words (pre_part s (offset_of s e))) (pre e h) b;
        post_in = λ e b h. fits_in (conditions s) (words (post_part s (offset_of s e))) (post e h) b;
        start_in = fits_in (conditions s) (words (marking_part s (offset_of s n))) start;
        pre_ascends_lem = λ e h. fits_ascends (conditions s) (words (pre_part s (offset_of s e))) (pre e h);
        post_ascends_lem = λ e h. fits_ascends (conditions s) (words (post_part s (offset_of s e))) (post e h);
        start_ascends = fits_ascends (conditions s) (words (marking_part s (offset_of s n))) start;
      };
      some_condition = a.conditions_fine.least;
      few_conditions = a.conditions_fine.most;
      few_events = a.few;
      touches = λ e h.
          let f = a.event e h in
          omega (arith, f.touches, pre_length s (offset_of s e) _ f, post_length s (offset_of s e) _ f);
      one_rule = λ b. refl;
      few_persistent = λ e h. (a.event e h).few;
    }
  where
    pre : (e : ℕ) → e < n → T (fits (conditions s) (words (pre_part s (offset_of s e))))
    pre e h = T_of (fits (conditions s) (words (pre_part s (offset_of s e)))) (a.event e h).pre_ascends

    post : (e : ℕ) → e < n → T (fits (conditions s) (words (post_part s (offset_of s e))))
    post e h = T_of (fits (conditions s) (words (post_part s (offset_of s e)))) (a.event e h).post_ascends

    start : T (fits (conditions s) (words (marking_part s (offset_of s n))))
    start = T_of (fits (conditions s) (words (marking_part s (offset_of s n)))) a.marking.ascends

-- An accepted table is a net within the limits.
pub tabled : (s : List ℕ) (n : ℕ) → judge_of s ≡ Ok n → Tabled (net_of s)
tabled s n j = rw (net_judged s (Ok n) j) (tabled_read s n (accepted s n j))

pub accepted_sound : (s : List ℕ) (n : ℕ) → judge_of s ≡ Ok n → Sound (net_of s)
accepted_sound s n j = (tabled s n j).sound
