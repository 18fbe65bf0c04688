-- An Event record that meets its rules is found fine.
use Prim.Native.Nat.{ℕ, ◌+◌, ◌*◌, ◌≤◌}
use mathlib.Core.Path.{◌≡◌}
use mathlib.Core.List.{List}
use mathlib.Core.Bool.{true}
use borrow.Author.Tests.{le-leb, eq-eqb}
use Rattle.lists.specs.Lists.{fits}
use Rattle.words.specs.Words.{words, count_in}
use Rattle.std.specs.Prelude.{Ok}
use Rattle.refusal.specs.Answer.{need}
use Rattle.records.specs.Records.{whole, header_of, conditions, flags, pre_count, post_count, pre_part, post_part}
use Rattle.event_rules.specs.EventRules.{lists_of, event_of}

pub event_made : (s : List ℕ) (at len : ℕ) → header_of s at ≡ whole 2 len → 4 ≤ len → len ≡ 4 + 2 * (pre_count s at + post_count s at)
    → fits (conditions s) (words (pre_part s at)) ≡ true → fits (conditions s) (words (post_part s at)) ≡ true
    → 1 ≤ pre_count s at + post_count s at → count_in (flags s) (words (pre_part s at)) ≤ 16 → event_of s at ≡ Ok (at + 4 + len)
unfolding event_of lists_of need
event_made s at len h low l pre post one few =
    simp (h, le-leb 4 len low, eq-eqb len _ l, pre, post, le-leb 1 _ one, le-leb _ 16 few)
