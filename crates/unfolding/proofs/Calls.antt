-- The counts once the table is laid out, in the words of the model.
use Prim.Native.Nat.{ℕ}
use native.Mathlib.Omega.{arith}
use mathlib.Core.Path.{◌≡◌, sym, ap, ◌∙◌}
use mathlib.Core.List.{List}
use lib.ListN.{get_or}
use Rattle.lists.specs.Lists.{sum}
use Rattle.model.specs.Net.{Net}
use Rattle.model.specs.Unfolding.{basic}
use Rattle.model.specs.Numbering.{size, condition_count, event_count}
use Rattle.model.proofs.Counts.{count_conditions}
use Rattle.std.specs.Prelude.{Ok}
use Rattle.records.specs.Records.{conditions}
use Rattle.table.specs.Walk.{judge_of}
use Rattle.table.specs.Decoded.{net_of}
use Rattle.table.proofs.Decoded.{conditions_are_all}
use Rattle.layout.specs.Laid.{Laid}
use Rattle.unfolding.proofs.Numbered.{events_basic}

pub conditions_count : (s ms us bases : List ℕ) (k : ℕ) → Laid s ms us bases → judge_of s ≡ Ok k → get_or bases (conditions s) 0 ≡ (basic (net_of s)).conditions
unfolding basic condition_count
conditions_count s ms us bases k l j = rw (conditions_are_all s k j) (l.sums.at (net_of s).conditions (omega arith) ∙ sym (count_conditions (net_of s)))

pub events_count : (n : Net) (k : ℕ) → k ≡ n.events → sum (size n) k ≡ (basic n).events
unfolding event_count
events_count n k q = ap (λ (x : ℕ). sum (size n) x) q ∙ sym (events_basic n)
