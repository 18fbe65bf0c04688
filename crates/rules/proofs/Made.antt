-- A Rule, Conditions or Marking record that meets the rules of its kind is found fine.
use Prim.Native.Nat.{ℕ, ◌+◌, ◌%◌, ◌≤◌}
use mathlib.Core.Path.{◌≡◌, sym}
use mathlib.Core.List.{List}
use mathlib.Core.Bool.{true}
use lib.ListN.{length, get_or}
use borrow.Author.Tests.{le-leb, eq-eqb, ne_eqb}
use Rattle.lists.specs.Lists.{fits}
use Rattle.words.specs.Words.{word_at, words, bits}
use Rattle.std.specs.Prelude.{Ok}
use Rattle.refusal.specs.Answer.{need}
use Rattle.records.specs.Records.{whole, part, header_of, conditions}
use Rattle.records.proofs.Headers.{known}
use Rattle.rules.specs.Rules.{rule_of, conditions_of, marking_of}

pub rule_made : (s : List ℕ) → header_of s 0 ≡ whole 6 1 → get_or s 4 0 ≤ 1 → rule_of s ≡ Ok 5
unfolding rule_of need
rule_made s h low = simp (eq-eqb (word_at s 2) 6 (sym (known s 0 6 1 h).kind_is), h, le-leb (get_or s 4 0) 1 low)

pub rule_none : (s : List ℕ) → (word_at s 2 ≡ 6 → ⊥) → rule_of s ≡ Ok 0
unfolding rule_of
rule_none s h = simp (ne_eqb (word_at s 2) 6 h)

pub conditions_made : (s : List ℕ) (at len : ℕ) → header_of s at ≡ whole 1 len → 1 ≤ len → len ≤ 256 → bits (part s (at + 4) len) ≡ true
    → conditions_of s at ≡ Ok (at + 4 + len)
unfolding conditions_of need
conditions_made s at len h low high b = simp (h, le-leb 1 len low, le-leb len 256 high, b)

pub marking_made : (s : List ℕ) (at len : ℕ) → header_of s at ≡ whole 3 len → len % 2 ≡ 0 → fits (conditions s) (words (part s (at + 4) len)) ≡ true
    → length s ≤ at + 4 + len → marking_of s at ≡ Ok (at + 4 + len)
unfolding marking_of need
marking_made s at len h even a last = simp (h, eq-eqb (len % 2) 0 even, a, le-leb (length s) (at + 4 + len) last)
