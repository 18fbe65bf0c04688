-- `condition_numbers::copy_number` meets its contract.
use Rattle.std.proofs.Common.{rules}
use Rattle.condition_numbers.proofs.Numbered.{copy_there, copy_ordinary, copy_no_marker, copy_no_user, flagged_below}
use Rattle.model.specs.Numbering.{width}
use Rattle.lists.specs.Lists.{sum, index}
use native.Mathlib.Omega.{arith}
use mathlib.Core.Path.{◌≡◌, ◌∙◌, sym}
use Prim.Native.Nat.{◌≤◌, ◌<◌}
use lib.ListN.{length}
use lib.Dec.{eqb}
use native.Mathlib.Nat.{mul-le-mul}
use Rattle.model.specs.Unfolding.{copy, same_marker, markers, users}
use Rattle.table.specs.Decoded.{net_of}
use Rattle.table.proofs.Decoded.{conditions_are_all}
use Rattle.layout.proofs.Counts.{user_place, marks_at, uses_at, counted_low}
use Rattle.layout.proofs.Limits.{unfolds_passed, unfolds_on, unfolds_judged}
use Rattle.unfolding.specs.Markers.{meant}
use Rattle.condition_numbers.specs.Answers.{numbered}
use Rattle.condition_numbers.proofs.copy_number.Goals as goal

pub returns-in_err-events : goal.returns-in_err-events
returns-in_err-events c =
    let same : c.from_residual.result ≡ c.lay_out.result = search rules in
    same ∙ unfolds_passed c.args.table.now (numbered (net_of c.args.table.now) (copy c.args.b.0 (meant c.args.marker) c.args.user.0)) (net_of c.args.table.now).events c.lay_out.ensures.answer c.in_err-events.was

pub marker_place-m-requires : goal.marker_place-m-requires
marker_place-m-requires c =
    let few = (c.lay_out.ensures.laid c.in_ok-events.events c.in_ok-events.was).counted.marked.limits.few_events in
    record {
      events_value = (unfolds_on c.args.table.now (numbered (net_of c.args.table.now) (copy c.args.b.0 (meant c.args.marker) c.args.user.0)) (net_of c.args.table.now).events c.lay_out.ensures.answer c.in_ok-events.was).1;
      events_bound = omega (arith, (unfolds_on c.args.table.now (numbered (net_of c.args.table.now) (copy c.args.b.0 (meant c.args.marker) c.args.user.0)) (net_of c.args.table.now).events c.lay_out.ensures.answer c.in_ok-events.was).1);
    }

pub returns-then-number-m : goal.returns-then-number-m
returns-then-number-m c =
    let j = unfolds_judged c.args.table.now (numbered (net_of c.args.table.now) (copy c.args.b.0 (meant c.args.marker) c.args.user.0)) (net_of c.args.table.now).events c.lay_out.ensures.answer c.in_ok-events.was in
    let most = (c.lay_out.ensures.laid c.in_ok-events.events c.in_ok-events.was).counted.marked.limits.few_conditions in
    let h : c.args.b.0 < (net_of c.args.table.now).conditions = omega (arith, conditions_are_all c.args.table.now j.0 j.1, flagged_below c.args.table.now c.args.b.0 (sym c.is_persistent.ensures ∙ c.if-is_persistent.true)) in
    let low : c.args.b.0 < 256 = omega arith in
    c.refused.ensures ∙ copy_no_marker (net_of c.args.table.now) c.args.b.0 (meant c.args.marker) c.args.user.0 (omega (arith, c.number.ensures, marks_at c.args.table.now c.lay_out.new.markers (c.lay_out.ensures.laid c.in_ok-events.events c.in_ok-events.was).counted.marked c.args.b.0 low, c.marker_place-m.ensures, c.if-number-m.true)) ∙ sym (unfolds_on c.args.table.now (numbered (net_of c.args.table.now) (copy c.args.b.0 (meant c.args.marker) c.args.user.0)) (net_of c.args.table.now).events c.lay_out.ensures.answer c.in_ok-events.was).0

pub place-u-requires : goal.place-u-requires
place-u-requires c =
    omega (arith, (unfolds_on c.args.table.now (numbered (net_of c.args.table.now) (copy c.args.b.0 (meant c.args.marker) c.args.user.0)) (net_of c.args.table.now).events c.lay_out.ensures.answer c.in_ok-events.was).1)

pub returns-then-width-u : goal.returns-then-width-u
returns-then-width-u c =
    let j = unfolds_judged c.args.table.now (numbered (net_of c.args.table.now) (copy c.args.b.0 (meant c.args.marker) c.args.user.0)) (net_of c.args.table.now).events c.lay_out.ensures.answer c.in_ok-events.was in
    let most = (c.lay_out.ensures.laid c.in_ok-events.events c.in_ok-events.was).counted.marked.limits.few_conditions in
    let h : c.args.b.0 < (net_of c.args.table.now).conditions = omega (arith, conditions_are_all c.args.table.now j.0 j.1, flagged_below c.args.table.now c.args.b.0 (sym c.is_persistent.ensures ∙ c.if-is_persistent.true)) in
    let low : c.args.b.0 < 256 = omega arith in
    let z : c.place-u.result ≡ index (eqb c.args.user.0) (users (net_of c.args.table.now) c.args.b.0) = c.place-u.ensures ∙ user_place (net_of c.args.table.now) c.args.b.0 c.args.user.0 c.in_ok-events.events (unfolds_on c.args.table.now (numbered (net_of c.args.table.now) (copy c.args.b.0 (meant c.args.marker) c.args.user.0)) (net_of c.args.table.now).events c.lay_out.ensures.answer c.in_ok-events.was).1 in
    c.refused-then-width-u.ensures ∙ copy_no_user (net_of c.args.table.now) c.args.b.0 (meant c.args.marker) c.args.user.0 (omega (arith, c.number-width.ensures, uses_at c.args.table.now c.lay_out.new.markers c.lay_out.new.users (c.lay_out.ensures.laid c.in_ok-events.events c.in_ok-events.was).counted c.args.b.0 low, c.if-width-u.true)) ∙ sym (unfolds_on c.args.table.now (numbered (net_of c.args.table.now) (copy c.args.b.0 (meant c.args.marker) c.args.user.0)) (net_of c.args.table.now).events c.lay_out.ensures.answer c.in_ok-events.was).0

pub overflow_mul-result : goal.overflow_mul-result
overflow_mul-result c =
    let lm = (counted_low c.args.table.now c.lay_out.new.markers c.lay_out.new.users (c.lay_out.ensures.laid c.in_ok-events.events c.in_ok-events.was).counted).0 c.args.b.0 in
    let lu = (counted_low c.args.table.now c.lay_out.new.markers c.lay_out.new.users (c.lay_out.ensures.laid c.in_ok-events.events c.in_ok-events.was).counted).1 c.args.b.0 in
    let pm : c.marker_place-m.result ≤ 1000 = omega (arith, c.number.ensures, c.if-number-m.false) in
    let pu : c.number-width.result ≤ 1000 = omega (arith, c.number-width.ensures) in
    let all = mul-le-mul {n₂ = 1000} {m₂ = 1000} pm pu in
    omega arith

pub overflow_add-result : goal.overflow_add-result
overflow_add-result c =
    let lm = (counted_low c.args.table.now c.lay_out.new.markers c.lay_out.new.users (c.lay_out.ensures.laid c.in_ok-events.events c.in_ok-events.was).counted).0 c.args.b.0 in
    let lu = (counted_low c.args.table.now c.lay_out.new.markers c.lay_out.new.users (c.lay_out.ensures.laid c.in_ok-events.events c.in_ok-events.was).counted).1 c.args.b.0 in
    let pm : c.marker_place-m.result ≤ 1000 = omega (arith, c.number.ensures, c.if-number-m.false) in
    let pu : c.number-width.result ≤ 1000 = omega (arith, c.number-width.ensures) in
    let all = mul-le-mul {n₂ = 1000} {m₂ = 1000} pm pu in
    omega (arith, c.if-width-u.false)

pub overflow_add-result-then-is_persistent : goal.overflow_add-result-then-is_persistent
overflow_add-result-then-is_persistent c =
    let lm = (counted_low c.args.table.now c.lay_out.new.markers c.lay_out.new.users (c.lay_out.ensures.laid c.in_ok-events.events c.in_ok-events.was).counted).0 c.args.b.0 in
    let lu = (counted_low c.args.table.now c.lay_out.new.markers c.lay_out.new.users (c.lay_out.ensures.laid c.in_ok-events.events c.in_ok-events.was).counted).1 c.args.b.0 in
    let pm : c.marker_place-m.result ≤ 1000 = omega (arith, c.number.ensures, c.if-number-m.false) in
    let pu : c.number-width.result ≤ 1000 = omega (arith, c.number-width.ensures) in
    let all = mul-le-mul {n₂ = 1000} {m₂ = 1000} pm pu in
    omega (arith, c.if-width-u.false)

pub returns-then-is_persistent : goal.returns-then-is_persistent
returns-then-is_persistent c =
    let j = unfolds_judged c.args.table.now (numbered (net_of c.args.table.now) (copy c.args.b.0 (meant c.args.marker) c.args.user.0)) (net_of c.args.table.now).events c.lay_out.ensures.answer c.in_ok-events.was in
    let most = (c.lay_out.ensures.laid c.in_ok-events.events c.in_ok-events.was).counted.marked.limits.few_conditions in
    let h : c.args.b.0 < (net_of c.args.table.now).conditions = omega (arith, conditions_are_all c.args.table.now j.0 j.1, flagged_below c.args.table.now c.args.b.0 (sym c.is_persistent.ensures ∙ c.if-is_persistent.true)) in
    let low : c.args.b.0 < 256 = omega arith in
    let n = net_of c.args.table.now in
    let z : c.place-u.result ≡ index (eqb c.args.user.0) (users n c.args.b.0) = c.place-u.ensures ∙ user_place (net_of c.args.table.now) c.args.b.0 c.args.user.0 c.in_ok-events.events (unfolds_on c.args.table.now (numbered (net_of c.args.table.now) (copy c.args.b.0 (meant c.args.marker) c.args.user.0)) (net_of c.args.table.now).events c.lay_out.ensures.answer c.in_ok-events.was).1 in
    let y : c.marker_place-m.result ≡ index (same_marker (meant c.args.marker)) (markers n c.args.b.0) = c.marker_place-m.ensures in
    let x : c.number-width.result ≡ length (users n c.args.b.0) = c.number-width.ensures ∙ uses_at c.args.table.now c.lay_out.new.markers c.lay_out.new.users (c.lay_out.ensures.laid c.in_ok-events.events c.in_ok-events.was).counted c.args.b.0 low in
    let w : c.number-then-is_persistent.result ≡ sum (width n) c.args.b.0 = c.number-then-is_persistent.ensures ∙ (c.lay_out.ensures.laid c.in_ok-events.events c.in_ok-events.was).sums.at c.args.b.0 (omega arith) in
    let i : index (same_marker (meant c.args.marker)) (markers n c.args.b.0) < length (markers n c.args.b.0) = omega (arith, c.number.ensures, marks_at c.args.table.now c.lay_out.new.markers (c.lay_out.ensures.laid c.in_ok-events.events c.in_ok-events.was).counted.marked c.args.b.0 low, c.if-number-m.false) in
    let k : index (eqb c.args.user.0) (users n c.args.b.0) < length (users n c.args.b.0) = omega (arith, c.if-width-u.false) in
    rw (w, y, x, z) (copy_there n c.args.b.0 (meant c.args.marker) c.args.user.0 h (sym ((c.lay_out.ensures.laid c.in_ok-events.events c.in_ok-events.was).counted.marked.flags c.args.b.0) ∙ (sym c.is_persistent.ensures ∙ c.if-is_persistent.true)) i k ∙ sym (unfolds_on c.args.table.now (numbered (net_of c.args.table.now) (copy c.args.b.0 (meant c.args.marker) c.args.user.0)) (net_of c.args.table.now).events c.lay_out.ensures.answer c.in_ok-events.was).0)

pub returns : goal.returns
returns c =
    c.refused-2.ensures ∙ copy_ordinary (net_of c.args.table.now) c.args.b.0 (meant c.args.marker) c.args.user.0 (sym ((c.lay_out.ensures.laid c.in_ok-events.events c.in_ok-events.was).counted.marked.flags c.args.b.0) ∙ sym c.is_persistent.ensures ∙ c.if-is_persistent.false) ∙ sym (unfolds_on c.args.table.now (numbered (net_of c.args.table.now) (copy c.args.b.0 (meant c.args.marker) c.args.user.0)) (net_of c.args.table.now).events c.lay_out.ensures.answer c.in_ok-events.was).0
