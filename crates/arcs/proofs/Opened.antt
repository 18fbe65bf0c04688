-- What is known of an unfolded event when its transition is opened, and when its sides are laid.
use mathlib.Core.Path.{◌≡◌, sym, ◌∙◌, subst}
use mathlib.Core.Bool.{true, false}
use mathlib.Core.List.{List}
use Prim.Native.Nat.{ℕ, ◌+◌, ◌*◌, ◌≤◌, ◌<◌}
use native.Mathlib.Omega.{arith}
use lib.ListN.{length, get_or}
use Rattle.lists.proofs.Products.{place_most}
use Rattle.words.specs.Words.{words}
use Rattle.records.specs.Records.{conditions}
use Rattle.model.specs.Unfolding.{basic}
use Rattle.model.specs.Numbering.{size, condition_count}
use Rattle.table.specs.Decoded.{net_of}
use Rattle.table.proofs.Decoded.{conditions_are_all}
use Rattle.tally.specs.Having.{list_part, Members}
use Rattle.table.proofs.InOrder.{judged}
use Rattle.segments.specs.Ranges.{chosen_from, Owned}
use Rattle.segments.proofs.Listed.{known, all_conditions}
use Rattle.sides.specs.declared.Side.{Side}
use Rattle.sides.specs.declared.Side.TheVariants.{Takes, Fills, Puts, Empties}
use Rattle.sides.specs.Sides.{Sided}
use Rattle.arcs.specs.Arcs.{Shared, shift_of}
use Rattle.arcs.proofs.Exported.{conditions_basic}

-- ---- the unfolded event

module _ {s ms us bs : List ℕ} {e at weight rest : ℕ} (o : Owned s ms us bs e at weight rest) where
  pub rest_below : rest < size (net_of s) e
  rest_below = omega (arith, o.whole, o.below)

  pub ranges_few : (k : ℕ) → k ≡ conditions s → 8 * k ≤ 2048
  ranges_few k q = omega (arith, q, all_conditions o, o.laid.counted.marked.limits.few_conditions)

  pub both_known : (pre post before after mk uz ch zs : List ℕ) → pre ≡ list_part false s at → post ≡ list_part true s at → Members (words pre) before
      → Members (words post) after → Shared s e mk uz → ch ≡ chosen_from s (words pre) rest zs → length zs ≡ 256 → Sided s us bs mk uz ch (list_part false s at) before after e rest
  both_known pre post before after mk uz ch zs p q b a h c z =
      subst (λ (l : List ℕ). Sided s us bs mk uz ch l before after e rest) p (record {
        taking = known o pre pre before mk uz ch zs false p p b h.marks_are h.uses_are c z;
        putting = known o pre post after mk uz ch zs true p q a h.marks_are h.uses_are c z;
      })

-- ---- room and shifts

shift_low : (firsts most : ℕ) (side : Side) → firsts ≤ most → shift_of firsts side ≤ most
shift_low firsts most Takes h = omega arith
shift_low firsts most Fills h = h
shift_low firsts most Puts h = omega arith
shift_low firsts most Empties h = h

module _ {s us bs mk uz ch pre bf af : List ℕ} {e rest : ℕ} (d : Sided s us bs mk uz ch pre bf af e rest) (k : ℕ) (q : k ≡ conditions s) where
  pub conditions_all : conditions s ≡ (net_of s).conditions
  conditions_all = conditions_are_all s (net_of s).events (judged s e d.taking.event)

  pub side_room : (i : ℕ) → i < 4 → i * (2 * k) + 2 * k ≤ 2048
  side_room i h = omega (arith, q, conditions_all, d.taking.limits.few_conditions, place_most i 4 (2 * k) h)

  pub firsts_are : (f : ℕ) → f ≡ get_or bs k 0 → f ≡ (basic (net_of s)).conditions
  unfolding condition_count
  firsts_are f z = z ∙ rw (q, conditions_all) (d.taking.sums.at (net_of s).conditions (omega arith)) ∙ sym (conditions_basic (net_of s))

  pub shift_few : (f : ℕ) → f ≡ get_or bs k 0 → (side : Side) (r : ℕ) → r ≡ shift_of f side → r ≤ 65535
  shift_few f z side r w = omega (arith, w, shift_low f 65535 side (omega (arith, firsts_are f z, conditions_basic (net_of s), d.taking.few)))
