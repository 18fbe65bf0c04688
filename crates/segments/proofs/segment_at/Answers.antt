-- `segments::segment_at` meets its contract.
use native.Mathlib.Omega.{arith}
use mathlib.Core.Path.{refl, ◌∙◌, sym, ap}
use Rattle.tally.specs.Having.{one_at}
use Rattle.segments.specs.declared.Segment.{Segment}
use Rattle.segments.specs.Ranges.{within, size_if}
use Rattle.segments.proofs.Segmented.{first_fits, unread_segment, taken_fits, read_segment, ordinary_fits, ordinary_segment}
use Rattle.segments.proofs.segment_at.Goals as goal

pub overflow_mul-first : goal.overflow_mul-first
overflow_mul-first c =
    omega (arith, first_fits c.requires.known c.args.b c.requires.b_bound (sym c.is_persistent.ensures ∙ c.if-is_persistent.true) c.number-base.result c.number-width.result c.number.result (size_if c.args.post (one_at c.args.members.now c.args.b) c.number-width.result) c.number-base.ensures c.number-width.ensures c.number.ensures refl)

pub overflow_add-first : goal.overflow_add-first
overflow_add-first c =
    omega (arith, first_fits c.requires.known c.args.b c.requires.b_bound (sym c.is_persistent.ensures ∙ c.if-is_persistent.true) c.number-base.result c.number-width.result c.number.result (size_if c.args.post (one_at c.args.members.now c.args.b) c.number-width.result) c.number-base.ensures c.number-width.ensures c.number.ensures refl)

pub overflow_mul-taken : goal.overflow_mul-taken
overflow_mul-taken c =
    omega (arith, taken_fits c.requires.known c.args.b c.requires.b_bound (sym c.is_persistent.ensures ∙ c.if-is_persistent.true) c.number-base.result c.number-width.result c.number.result c.size_if-size.result c.number-base.ensures c.number-width.ensures c.number.ensures c.size_if-size.ensures (sym c.has.ensures ∙ c.if-has.true) c.number-then-has.result _ c.number-then-has.ensures refl)

pub overflow_add-taken : goal.overflow_add-taken
overflow_add-taken c =
    omega (arith, taken_fits c.requires.known c.args.b c.requires.b_bound (sym c.is_persistent.ensures ∙ c.if-is_persistent.true) c.number-base.result c.number-width.result c.number.result c.size_if-size.result c.number-base.ensures c.number-width.ensures c.number.ensures c.size_if-size.ensures (sym c.has.ensures ∙ c.if-has.true) c.number-then-has.result _ c.number-then-has.ensures refl)

pub overflow_add-taken-then-has : goal.overflow_add-taken-then-has
overflow_add-taken-then-has c =
    omega (arith, taken_fits c.requires.known c.args.b c.requires.b_bound (sym c.is_persistent.ensures ∙ c.if-is_persistent.true) c.number-base.result c.number-width.result c.number.result c.size_if-size.result c.number-base.ensures c.number-width.ensures c.number.ensures c.size_if-size.ensures (sym c.has.ensures ∙ c.if-has.true) c.number-then-has.result c.number-then-has-2.result c.number-then-has.ensures c.number-then-has-2.ensures)

pub joined-requires : goal.joined-requires
joined-requires c =
    omega (arith, first_fits c.requires.known c.args.b c.requires.b_bound (sym c.is_persistent.ensures ∙ c.if-is_persistent.true) c.number-base.result c.number-width.result c.number.result c.size_if-size.result c.number-base.ensures c.number-width.ensures c.number.ensures c.size_if-size.ensures)

pub returns-then-has : goal.returns-then-has
returns-then-has c =
    ap (λ (g : Segment). within g) c.joined.ensures ∙ read_segment c.requires.known c.args.b c.requires.b_bound (sym c.is_persistent.ensures ∙ c.if-is_persistent.true) c.number-base.result c.number-width.result c.number.result c.size_if-size.result c.number-base.ensures c.number-width.ensures c.number.ensures c.size_if-size.ensures (sym c.has.ensures ∙ c.if-has.true) c.number-then-has.result c.number-then-has-2.result c.number-then-has.ensures c.number-then-has-2.ensures

pub alone-requires : goal.alone-requires
alone-requires c =
    omega (arith, first_fits c.requires.known c.args.b c.requires.b_bound (sym c.is_persistent.ensures ∙ c.if-is_persistent.true) c.number-base.result c.number-width.result c.number.result c.size_if-size.result c.number-base.ensures c.number-width.ensures c.number.ensures c.size_if-size.ensures)

pub returns-then-is_persistent : goal.returns-then-is_persistent
returns-then-is_persistent c =
    ap (λ (g : Segment). within g) c.alone.ensures ∙ unread_segment c.requires.known c.args.b c.requires.b_bound (sym c.is_persistent.ensures ∙ c.if-is_persistent.true) c.number-base.result c.number-width.result c.number.result c.size_if-size.result c.number-base.ensures c.number-width.ensures c.number.ensures c.size_if-size.ensures (sym c.has.ensures ∙ c.if-has.false)

pub alone-requires-2 : goal.alone-requires-2
alone-requires-2 c =
    omega (arith, ordinary_fits c.requires.known c.args.b c.requires.b_bound (sym c.is_persistent.ensures ∙ c.if-is_persistent.false) c.number-base.result c.size_if.result c.number-base.ensures c.size_if.ensures)

pub returns : goal.returns
returns c =
    ap (λ (g : Segment). within g) c.alone-2.ensures ∙ ordinary_segment c.requires.known c.args.b c.requires.b_bound (sym c.is_persistent.ensures ∙ c.if-is_persistent.false) c.number-base.result c.size_if.result c.number-base.ensures c.size_if.ensures
