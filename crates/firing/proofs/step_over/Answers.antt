-- `firing::step_over` meets its contract.
use Prim.Native.Nat.{ℕ}
use native.Mathlib.Omega.{arith}
use Rattle.std.proofs.Common.{rules}
use mathlib.Core.Path.{◌≡◌, ◌∙◌, sym, ap, subst}
use mathlib.Core.List.{List, []}
use lib.ListN.{length}
use Rattle.model.specs.Unfolding.{basic}
use Rattle.table.specs.Decoded.{net_of}
use Rattle.segments.specs.Ranges.{ranged}
use Rattle.step.specs.Steps.{set_all}
use Rattle.step.proofs.Firing.{length_all}
use Rattle.walking.specs.Steps.{Below}
use Rattle.firing.proofs.Fired.{over_kept, over_written}
use Rattle.firing.proofs.step_over.Goals as goal

pub test-requires : goal.test-requires
test-requires c =
    record {
      summed = c.requires.summed;
      below = subst (λ (x : ℕ). Below c.args.starts.now c.args.sizes.now c.args.taken x) c.requires.state_len c.requires.below;
      below_2 = subst (λ (x : ℕ). Below c.args.firsts.now c.args.widths.now c.args.put x) c.requires.state_len c.requires.below_2;
    }

pub returns-in_err-test : goal.returns-in_err-test
returns-in_err-test c =
    let same : c.from_residual.result ≡ c.test.result = search rules in
    record {
      answer = same ∙ c.test.ensures;
      after = over_kept c.args.state.now (ranged c.args.starts.now c.args.sizes.now c.args.taken) (ranged c.args.firsts.now c.args.widths.now c.args.put) (basic (net_of c.args.table.now)).old _ c.test.ensures _ c.in_err-test.was;
    }

pub set_ranges-requires : goal.set_ranges-requires
set_ranges-requires c =
    record {
      below = c.requires.below;
      state_len_bound = omega (arith, c.requires.summed.few, c.requires.state_len);
    }

pub set_ranges-requires-2 : goal.set_ranges-requires-2
set_ranges-requires-2 c =
    let same : length c.set_ranges.new.state ≡ length c.args.state.now = ap (λ (l : List ℕ). length l) c.set_ranges.ensures ∙ length_all [] 0 (ranged c.args.starts.now c.args.sizes.now c.args.taken) c.args.state.now in
    record {
      below = record { kept = c.requires.below_2.kept; each = λ b t. omega (arith, same, c.requires.below_2.each b t) };
      state_len_bound = omega (arith, same, c.requires.summed.few, c.requires.state_len);
    }

pub returns : goal.returns
returns c =
    record {
      answer = sym c.in_ok-test.was ∙ c.test.ensures;
      after = c.set_ranges-2.ensures ∙ ap (λ (l : List ℕ). set_all [] 1 (ranged c.args.firsts.now c.args.widths.now c.args.put) l) c.set_ranges.ensures ∙ over_written c.args.state.now (ranged c.args.starts.now c.args.sizes.now c.args.taken) (ranged c.args.firsts.now c.args.widths.now c.args.put) (basic (net_of c.args.table.now)).old _ c.test.ensures c.in_ok-test.was;
    }
