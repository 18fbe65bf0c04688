-- What the test of an event finds: the first condition that it lacks, else the first in contact.
use mathlib.Core.Path.{◌≡◌, refl, sym, ◌∙◌, ap}
use mathlib.Core.Bool.{Bool, true, false}
use mathlib.Core.Option.{Option, none, some}
use mathlib.Core.List.{List}
use Prim.Native.Nat.{ℕ}
use native.Mathlib.Omega.{arith}
use Rattle.lists.specs.Lists.{failing}
use Rattle.model.specs.Net.{Marking, first_stop}
use Rattle.refusal.specs.declared.UnfoldedCondition.{UnfoldedCondition}
use Rattle.stopping.specs.declared.Cause.TheVariants.{Lacks, Meets}
use Rattle.std.specs.Prelude.{Err, None, Some}
use Rattle.stopping.specs.Causes.{goes}
use Rattle.stopping.specs.Unfolded.{step_of}
use Rattle.walking.specs.Steps.{Failing, passes_of, failing_of, stops}

found_lacks : (o p : Option ℕ) (b : UnfoldedCondition) → failing_of o ≡ Some b → Err (Lacks b) ≡ step_of (first_stop true o p)
found_lacks none p b e = absurd (let z : ◌≡◌ {A = ℕ} 0 1 = cc in omega arith)
found_lacks (some x) p b e = let z : record { 0 = x } ≡ b = cc in ap (λ (y : UnfoldedCondition). Err (Lacks y)) (sym z)

found_meets : (o p : Option ℕ) (b : UnfoldedCondition) → failing_of o ≡ None → failing_of p ≡ Some b → Err (Meets b) ≡ step_of (first_stop true o p)
found_meets none none b d e = absurd (let z : ◌≡◌ {A = ℕ} 0 1 = cc in omega arith)
found_meets none (some x) b d e = let z : record { 0 = x } ≡ b = cc in ap (λ (y : UnfoldedCondition). Err (Meets y)) (sym z)
found_meets (some x) p b d e = absurd (let z : ◌≡◌ {A = ℕ} 0 1 = cc in omega arith)

found_nothing : (o p : Option ℕ) → failing_of o ≡ None → failing_of p ≡ None → goes ≡ step_of (first_stop true o p)
found_nothing none none d e = refl
found_nothing none (some x) d e = absurd (let z : ◌≡◌ {A = ℕ} 0 1 = cc in omega arith)
found_nothing (some x) p d e = absurd (let z : ◌≡◌ {A = ℕ} 0 1 = cc in omega arith)

module _ (m : Marking) (pre post : List ℕ) (old : ℕ → Bool) (x : Failing) (is_x : x ≡ failing_of (failing (passes_of false m pre old) pre)) where
  pub test_lacks : (b : UnfoldedCondition) → x ≡ Some b → Err (Lacks b) ≡ step_of (stops m pre post old)
  test_lacks b e = found_lacks (failing (passes_of false m pre old) pre) (failing (passes_of true m pre old) post) b (sym is_x ∙ e)

  module _ (none-lacks : x ≡ None) (y : Failing) (is_y : y ≡ failing_of (failing (passes_of true m pre old) post)) where
    pub test_meets : (b : UnfoldedCondition) → y ≡ Some b → Err (Meets b) ≡ step_of (stops m pre post old)
    test_meets b e = found_meets (failing (passes_of false m pre old) pre) (failing (passes_of true m pre old) post) b (sym is_x ∙ none-lacks) (sym is_y ∙ e)

    pub test_goes : y ≡ None → goes ≡ step_of (stops m pre post old)
    test_goes e = found_nothing (failing (passes_of false m pre old) pre) (failing (passes_of true m pre old) post) (sym is_x ∙ none-lacks) (sym is_y ∙ e)
