-- What a fine answer tells of the prefix that all calls on the unfolding share.
use Prim.Native.Nat.{ℕ}
use mathlib.Core.Path.{◌≡◌, refl, sym}
use mathlib.Core.List.{List}
use mathlib.Core.Option.{Option, none, some}
use Rattle.model.specs.Across.{Refusal, unfolding_refused}
use Rattle.refusal.specs.Answer.{Judged, and_then}
use Rattle.std.specs.Prelude.{Ok, Err}
use Rattle.refusal.proofs.Chain.{never_both}
use Rattle.table.specs.Walk.{judge_of}
use Rattle.table.specs.Decoded.{net_of}
use Rattle.table.specs.Links.{refused_or}
use Rattle.layout.specs.Unfolds.{unfolding_of}

opened : (j : Judged) (o : Option Refusal) (own : Judged) (k : ℕ) → and_then j (λ _. refused_or o own) ≡ Ok k
    → ((other : Judged) → and_then j (λ _. refused_or o other) ≡ other) × (own ≡ Ok k)
opened (Err x) o own k e = never_both (sym e)
opened (Ok n) none own k e = (λ other. refl, e)
opened (Ok n) (some x) own k e = never_both (sym e)

-- Where one call on a table was fine, the prefix passes every call on it, and the call's own answer is the fine one.
pub prefix_passed : (s : List ℕ) (own : Judged) (k : ℕ) → unfolding_of s own ≡ Ok k → ((other : Judged) → unfolding_of s other ≡ other) × (own ≡ Ok k)
unfolding unfolding_of
prefix_passed s own k e = opened (judge_of s) (unfolding_refused (net_of s)) own k e
