-- The events of a net that have a condition in one of their two lists, and how many such events each condition has.
use Rattle.std.specs.Prelude.{ℕ, ◌+◌, ◌≤◌, ◌<◌, ◌≡◌, List, [], ◌∷◌, Bool, true, false, T, eqb, length, get_or, set}
use Rattle.lists.specs.Lists.{mem, ascending, keep, count}
use Rattle.model.specs.Net.{Net}
use Rattle.words.specs.Words.{words}
use Rattle.records.specs.Records.{pre_part, post_part}

-- One of the two lists of an event: the postconditions, or the preconditions (01, Table records).
abbrev pub list_of : Net → Bool → ℕ → List ℕ
list_of n true e = n.postconditions e
list_of n false e = n.preconditions e

-- The same list as bytes of the Event record at an offset (01, Table records).
abbrev pub list_part : Bool → List ℕ → ℕ → List ℕ
list_part true s at = post_part s at
list_part false s at = pre_part s at

-- Of k events from event i on, those that have b in a list: by postconditions its markers but the start, by preconditions its
-- users (01, Unfolding).
abbrev pub having_from : Net → Bool → ℕ → ℕ → ℕ → List ℕ
having_from n post b i k = keep (λ e. mem b (list_of n post e)) (count i k)

-- The same of the first k events (01, Unfolding).
abbrev pub having : Net → Bool → ℕ → ℕ → List ℕ
having n post b k = having_from n post b 0 k

-- Numbers, one for each condition, with one more for each member of a list.
unfoldable pub raised : List ℕ → List ℕ → List ℕ
raised counts [] = counts
raised counts (b ∷ l) = raised (set counts b (get_or counts b 0 + 1)) l

-- There is a number for each member of a list of at most 256, and room above each.
pub record Room (counts list : List ℕ) : Type 0 where
  pub inside : (b : ℕ) → T (mem b (words list)) → b < length counts
  pub low : (b : ℕ) → get_or counts b 0 ≤ 1000
  pub few : length list ≤ 513

-- A list of conditions that ascends, each of which can have a number (01, Table records).
pub record Listed (list : List ℕ) : Type 0 where
  pub ascends : T (ascending (words list))
  pub inside : (b : ℕ) → T (mem b (words list)) → b < 256

-- The number that stands for b is 1.
abbrev pub one_at : List ℕ → ℕ → Bool
one_at counts b = eqb (get_or counts b 0) 1

-- The numbers that are 1 are those of the members of a list.
abbrev pub Members : List ℕ → List ℕ → Type 0
Members l counts = (b : ℕ) → one_at counts b ≡ mem b l

-- Each of 256 numbers counts, from a first number on, the events of the first k that have its condition in a list.
pub record Tally (n : Net) (post : Bool) (first k : ℕ) (counts : List ℕ) : Type 0 where
  pub size : length counts ≡ 256
  pub at : (b : ℕ) → b < 256 → get_or counts b 0 ≡ first + length (having n post b k)
