-- Soundness as a test, so that it is computed of a net that is given.
use mathlib.Core.Bool.{Bool, ◌&&◌}
use mathlib.Core.List.{List}
use Prim.Native.Nat.{ℕ, ◌<◌, zero-le}
use lib.Dec.{T}
use native.Mathlib.Omega.{arith}
use Rattle.lists.specs.Lists.{all, fits, count}
use Rattle.lists.proofs.Bools.{and_left, and_right}
use Rattle.lists.proofs.Members.{in_mem, count_in_lem}
use Rattle.lists.proofs.Tests.{all_at, fits_ascends, fits_in}
use Rattle.model.specs.Net.{Net, Sound}

unfoldable pub sound : Net → Bool
unfolding fits
sound n =
    all (λ e. fits n.conditions (n.preconditions e)) (count 0 n.events)
    && (all (λ e. fits n.conditions (n.postconditions e)) (count 0 n.events) && fits n.conditions n.start)

pub sound_of : (n : Net) → T (sound n) → Sound n
unfolding sound
sound_of n t =
    let pres = all (λ e. fits n.conditions (n.preconditions e)) (count 0 n.events) in
    let posts = all (λ e. fits n.conditions (n.postconditions e)) (count 0 n.events) in
    let starts = fits n.conditions n.start in
    let rest = and_right pres (posts && starts) t in
    let pre = each n.preconditions (and_left pres (posts && starts) t) in
    let post = each n.postconditions (and_left posts starts rest) in
    let start = and_right posts starts rest in
    record {
      pre_in = λ e b h i. fits_in n.conditions (n.preconditions e) (pre e h) b i;
      post_in = λ e b h i. fits_in n.conditions (n.postconditions e) (post e h) b i;
      start_in = λ b i. fits_in n.conditions n.start start b i;
      pre_ascends_lem = λ e h. fits_ascends n.conditions (n.preconditions e) (pre e h);
      post_ascends_lem = λ e h. fits_ascends n.conditions (n.postconditions e) (post e h);
      start_ascends = fits_ascends n.conditions n.start start;
    }
  where
    each : (f : ℕ → List ℕ) → T (all (λ e. fits n.conditions (f e)) (count 0 n.events)) → (e : ℕ) → e < n.events → T (fits n.conditions (f e))
    each f t e h = all_at (λ e. fits n.conditions (f e)) (count 0 n.events) t e (in_mem (count_in_lem e 0 n.events zero-le (omega arith)))
