-- What was opened can be written from the start on.
use Prim.Native.Nat.{ℕ, ◌-◌, ◌≤◌}
use native.Mathlib.Omega.{arith}
use mathlib.Core.Path.{◌≡◌, sym, ap, ◌∙◌, subst}
use mathlib.Core.List.{List}
use lib.ListN.{length, take}
use lib.Seq.{length-take-le}
use Rattle.model.specs.Net.{begin}
use Rattle.model.specs.Across.{most_steps, most_unfolded}
use Rattle.model.proofs.Lent.{length_bytes}
use Rattle.records.specs.Records.{conditions}
use Rattle.table.specs.Decoded.{net_of}
use Rattle.table.proofs.Sound.{tabled}
use Rattle.step.specs.Lent.{Lent}
use Rattle.step.proofs.Bytes.{lent_bytes}
use Rattle.table.proofs.Decoded.{conditions_are_all}
use Rattle.opening.specs.Opening.{start_bytes, Holds}
use Rattle.lines.specs.declared.Place.TheVariants.{Start}
use Rattle.lines.specs.Needs.{Ready}

module _ (s r : List ℕ) (count events c unfolded : ℕ) (steps lifted offsets marking end : List ℕ) (h : Holds s r count events c unfolded steps lifted offsets marking end) where
  start_shown : take (c - 0) marking ≡ start_bytes s
  start_shown = let e : c - 0 ≡ c = omega arith in ap (λ (k : ℕ). take k marking) e ∙ h.begun

  start_long : length (take (c - 0) marking) ≡ conditions s
  unfolding start_bytes
  start_long = ap length start_shown ∙ length_bytes (net_of s).conditions (begin (net_of s)) ∙ sym (conditions_are_all s events h.judged)

  start_lent : Lent (take (c - 0) marking)
  unfolding start_bytes
  start_lent = subst (λ (l : List ℕ). Lent l) (sym start_shown) (lent_bytes (net_of s).conditions (begin (net_of s)))

  pub few_shown : length marking ≡ 256 → c ≤ length marking
  few_shown size = omega (arith, size, h.are, (tabled s events h.judged).few_conditions)

  pub opened_ready : length steps ≡ most_steps → length lifted ≡ most_steps → length end ≡ most_unfolded
      → Ready s events offsets (take (count - 0) steps) (take (count - 0) lifted) (take (unfolded - 0) end) (take (c - 0) marking) Start
  opened_ready many beside roomy =
      let of_steps = length-take-le (count - 0) steps (omega (arith, h.short, many)) in
      let of-lifted = length-take-le (count - 0) lifted (omega (arith, h.short, beside)) in
      let of_end = length-take-le (unfolded - 0) end (omega (arith, h.few, roomy)) in
      record {
        steady = record {
          playable = record { judged = h.judged; indexed = h.indexed; lents = start_lent; room = omega (arith, start_long, conditions_are_all s events h.judged, (tabled s events h.judged).few_conditions) };
          long = start_long;
          beside = of-lifted ∙ sym of_steps;
          short = omega (arith, of_steps, h.short);
        };
        few = omega (arith, of_end, h.few);
        here = λ k e. absurd (let z : ◌≡◌ {A = ℕ} 0 1 = cc in omega arith);
      }
