-- `layout::within_limits` meets its contract.
use Rattle.std.proofs.Common.{rules}
use native.Mathlib.Omega.{arith}
use mathlib.Core.Path.{◌≡◌, ◌∙◌, sym, ap}
use Prim.Native.Nat.{ℕ, ◌≤◌}
use Rattle.std.specs.Prelude.{Ok}
use Rattle.refusal.proofs.Chain.{never_both}
use Rattle.model.specs.Across.{most_unfolded}
use Rattle.model.specs.Numbering.{condition_count, event_count}
use Rattle.table.specs.Decoded.{net_of}
use Rattle.table.proofs.Decoded.{events_are_all}
use lib.ListN.{get_or}
use Rattle.layout.specs.Counts.{capped_count}
use Rattle.layout.proofs.Limits.{idle_refused, all_touch, conditions_over, events_over, goes_on, count_whole, count_read}
use Rattle.layout.proofs.within_limits.Goals as goal

pub events_judged-requires : goal.events_judged-requires
events_judged-requires c =
    record {
      counted = c.requires.counted;
      events_value = events_are_all c.args.table.now c.args.events c.requires.table_value;
    }

pub returns-in_err-total : goal.returns-in_err-total
returns-in_err-total c =
    let same : c.from_residual.result ≡ c.events_judged.result = search rules in
    let s = c.args.table.now in
    let j = c.requires.table_value in
    let k = c.args.events in
    record { answer = same ∙ idle_refused s (Ok (net_of s).events) k j c.events_judged.ensures c.in_err-total.was; laid = λ k e. never_both (sym e ∙ same ∙ c.in_err-total.was) }

pub returns-then-number-gt-MOST_UNFOLDED : goal.returns-then-number-gt-MOST_UNFOLDED
returns-then-number-gt-MOST_UNFOLDED c =
    let s = c.args.table.now in
    let j = c.requires.table_value in
    let k = c.args.events in
    let t = all_touch s (Ok (net_of s).events) k j c.events_judged.ensures c.in_ok-total.was in
    let n : c.number.result ≡ condition_count (net_of s) = c.number.ensures ∙ ap (λ (x : ℕ). get_or c.args.bases.now x 0) c.conditions.ensures ∙ count_read s k j c.args.bases.now c.requires.sums in
    record { answer = c.refused.ensures ∙ conditions_over s (Ok (net_of s).events) k j t.0 (omega (arith, n)); laid = λ k e. never_both (sym e ∙ c.refused.ensures) }

pub returns-then-total : goal.returns-then-total
returns-then-total c =
    let s = c.args.table.now in
    let j = c.requires.table_value in
    let k = c.args.events in
    let t = all_touch s (Ok (net_of s).events) k j c.events_judged.ensures c.in_ok-total.was in
    let n : c.number.result ≡ condition_count (net_of s) = c.number.ensures ∙ ap (λ (x : ℕ). get_or c.args.bases.now x 0) c.conditions.ensures ∙ count_read s k j c.args.bases.now c.requires.sums in
    record { answer = c.refused-then-total.ensures ∙ events_over s (Ok (net_of s).events) k j t.0 (omega (arith, n)) (omega (arith, t.1)); laid = λ k e. never_both (sym e ∙ c.refused-then-total.ensures) }

pub returns : goal.returns
returns c =
    let s = c.args.table.now in
    let j = c.requires.table_value in
    let k = c.args.events in
    let t = all_touch s (Ok (net_of s).events) k j c.events_judged.ensures c.in_ok-total.was in
    let n : c.number.result ≡ condition_count (net_of s) = c.number.ensures ∙ ap (λ (x : ℕ). get_or c.args.bases.now x 0) c.conditions.ensures ∙ count_read s k j c.args.bases.now c.requires.sums in
    let low : capped_count (net_of s) ≤ most_unfolded = omega (arith, t.1) in
    let few : event_count (net_of s) ≤ most_unfolded = omega (arith, count_whole (net_of s) low) in
    let some : condition_count (net_of s) ≤ most_unfolded = omega (arith, n) in
    record { answer = ap Ok (events_are_all s k j) ∙ sym (goes_on s (Ok (net_of s).events) k j t.0 some few); laid = λ _ e. record { counted = c.requires.counted; sums = c.requires.sums; few_events = few; few_conditions = some } }
