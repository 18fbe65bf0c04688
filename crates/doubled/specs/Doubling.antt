-- A net of ordinary conditions doubled to a plain one, in which no capacity is needed to keep contact out.
use Rattle.std.specs.Prelude.{◌≡◌, Bool, not, cond, List, ◌++◌, map, ℕ, ◌+◌, ◌≤◌, ◌<◌, T}
use Rattle.lists.specs.Lists.{mem, keep, count}
use Rattle.model.specs.Net.{Net, Marking, begin, can, fire}
use Rattle.model.specs.Runs.{runs, end}
use Rattle.doubled.specs.Plain.{Plain, Tokens, initially, enabled, moved, plays, reached}

-- The members of one list that are not in another.
unfoldable pub without : List ℕ → List ℕ → List ℕ
without l other = keep (λ b. not (mem b other)) l

-- The members of a list that follow the paper's rule (02, No. 4).
unfoldable pub excusing : Net → List ℕ → List ℕ
excusing n l = keep (λ b. not (n.old b)) l

-- The second place of a condition: all of them come after the first places (02, No. 1).
abbrev pub second : Net → ℕ → ℕ
second n b = n.conditions + b

-- The doubled net: a transition takes the second place of each postcondition that is no precondition, and puts that of each precondition
-- that is no postcondition; of what is both it takes and puts back the second place under the old rule; a second place holds a token at
-- first where the condition does not hold (02, No. 1 and No. 4).
unfoldable pub doubled : Net → Plain
unfolding without excusing
doubled n =
    record {
      places = n.conditions + n.conditions;
      transitions = n.events;
      inputs = λ e. n.preconditions e ++ map (second n) (without (n.postconditions e) (excusing n (n.preconditions e)));
      outputs = λ e. n.postconditions e ++ map (second n) (without (n.preconditions e) (excusing n (n.postconditions e)));
      initial = n.start ++ map (second n) (without (count 0 n.conditions) n.start);
    }

-- ---- what is promised

-- One token or none.
abbrev pub token : Bool → ℕ
token holds = cond holds 1 0

-- Tokens mirror a marking: the first place of a condition has one where it holds, the second where it does not (02, No. 1).
pub record Mirrors (n : Net) (m : Marking) (k : Tokens) : Type 0 where
  pub first_place : (b : ℕ) → b < n.conditions → k b ≡ token (m b)
  pub second_place : (b : ℕ) → b < n.conditions → k (second n b) ≡ token (not (m b))

-- A step of the one game is a step of the other, and what mirrored goes on to mirror (02, No. 1).
pub record StepsAlike (n : Net) (m : Marking) (k : Tokens) (e : ℕ) : Type 0 where
  pub both : enabled (doubled n) k e ≡ can n m e
  pub after : T (can n m e) → Mirrors n (fire n m e) (moved (doubled n) k e)

-- The doubled net has exactly the runs of its net, every run ends in tokens that mirror the marking it ends in, and no place ever holds more
-- than one (02, No. 1).
pub record PlaysAlike (n : Net) (r : List ℕ) : Type 0 where
  pub both : plays (doubled n) (initially (doubled n)) r ≡ runs n (begin n) r
  pub ends : T (runs n (begin n) r) → Mirrors n (end n (begin n) r) (reached (doubled n) (initially (doubled n)) r)
  pub safe : T (runs n (begin n) r) → (x : ℕ) → x < (doubled n).places → reached (doubled n) (initially (doubled n)) r x ≤ 1
