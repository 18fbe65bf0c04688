-- How a call on a run across goes on after its table was laid out.
use Prim.Native.Nat.{ℕ, ◌≤◌, ◌<◌}
use mathlib.Core.Path.{◌≡◌, refl, sym, ap, ◌∙◌}
use mathlib.Core.List.{List}
use mathlib.Core.Bool.{Bool, true, false}
use mathlib.Core.Option.{Option, none, some}
use lib.Dec.{leb}
use lib.ListN.{length}
use borrow.Author.Tests.{le-leb, lt-leb}
use Rattle.model.specs.Across.{Refusal, Answer, run, refusal, unless, most_steps, too_long, unfolding_refused}
use Rattle.refusal.specs.declared.Refusal as declared
use Rattle.refusal.specs.Answer.{Judged, refused_at, need, and_then}
use Rattle.std.specs.Prelude.{Ok, Err}
use Rattle.refusal.proofs.Chain.{never_both, then_fine, need_passes, need_refuses, fitting_fine}
use Rattle.table.specs.Walk.{judge_of}
use Rattle.table.specs.Decoded.{net_of}
use Rattle.table.specs.Links.{refused_or}
use Rattle.layout.specs.Unfolds.{unfolding_of}
use Rattle.across.specs.Calls.{fitted, ended, across_of}
use Rattle.across.specs.Prepared.{prepared_of}

-- ---- the prefix, by what is known of the run

pub prepared_refused : (s : List ℕ) (steps : ℕ) (own : Judged) {r : Judged} {x : declared.Refusal} → r ≡ judge_of s → r ≡ Err x → r ≡ prepared_of s steps own
unfolding prepared_of
prepared_refused s steps own e t = t ∙ simp (sym e ∙ t)

pub prepared_long : (s : List ℕ) (steps : ℕ) (own : Judged) (k : ℕ) → judge_of s ≡ Ok k → most_steps < steps → refused_at 3 0 ≡ prepared_of s steps own
unfolding prepared_of
prepared_long s steps own k j h = sym (simp j (need_refuses 3 0 (refused_or (unfolding_refused (net_of s)) own) (lt-leb steps most_steps h)))

pub prepared_short : (s : List ℕ) (steps : ℕ) (own : Judged) → steps ≤ most_steps → unfolding_of s own ≡ prepared_of s steps own
unfolding prepared_of unfolding_of
prepared_short s steps own h = go (judge_of s)
  where
    go : (j : Judged) → and_then j (λ _. refused_or (unfolding_refused (net_of s)) own) ≡ and_then j (λ _. need (leb steps most_steps) 3 0 (refused_or (unfolding_refused (net_of s)) own))
    go (Ok k) = sym (need_passes 3 0 (le-leb steps most_steps h))
    go (Err x) = refl

-- ---- the same prefix over a run

long_link : (r : List ℕ) (own : Judged) → refused_or (too_long r) own ≡ need (leb (length r) most_steps) 3 0 own
unfolding too_long need
long_link r own = go (leb (length r) most_steps)
  where
    go : (b : Bool) → refused_or (mathlib.Core.Bool.cond b none (some (Rattle.model.specs.Across.other 3 0))) own ≡ need b 3 0 own
    go true = refl
    go false = refl

pub across_is : (s r : List ℕ) (own : Judged) → across_of s r own ≡ prepared_of s (length r) own
unfolding across_of prepared_of
across_is s r own = go (judge_of s)
  where
    go : (j : Judged) → and_then j (λ _. refused_or (too_long r) (refused_or (unfolding_refused (net_of s)) own)) ≡ and_then j (λ _. need (leb (length r) most_steps) 3 0 (refused_or (unfolding_refused (net_of s)) own))
    go (Ok k) = long_link r (refused_or (unfolding_refused (net_of s)) own)
    go (Err x) = refl

-- ---- the prefix, then the call's own

chain_passed : (j : Judged) (b : Bool) (o : Option Refusal) (own : Judged) (k : ℕ) {x : declared.Refusal} → and_then j (λ _. need b 3 0 (refused_or o (Ok k))) ≡ Err x
    → and_then j (λ _. need b 3 0 (refused_or o (Ok k))) ≡ and_then j (λ _. need b 3 0 (refused_or o own))
unfolding need
chain_passed (Err y) b o own k e = refl
chain_passed (Ok n) false o own k e = refl
chain_passed (Ok n) true none own k e = never_both e
chain_passed (Ok n) true (some y) own k e = refl

chain_went : (j : Judged) (b : Bool) (o : Option Refusal) (own : Judged) (k m : ℕ) → and_then j (λ _. need b 3 0 (refused_or o (Ok k))) ≡ Ok m → (and_then j (λ _. need b 3 0 (refused_or o own)) ≡ own) × (m ≡ k)
unfolding need
chain_went (Err y) b o own k m e = never_both (sym e)
chain_went (Ok n) false o own k m e = never_both (sym e)
chain_went (Ok n) true none own k m e = (refl, cc)
chain_went (Ok n) true (some y) own k m e = never_both (sym e)

module _ (s : List ℕ) (steps k : ℕ) {a : Judged} (e : a ≡ prepared_of s steps (Ok k)) where
  -- a refused answer is that of the call, whatever its own would be
  pub across_passed : (r : List ℕ) → length r ≡ steps → (own : Judged) {x : declared.Refusal} → a ≡ Err x → a ≡ across_of s r own
  unfolding prepared_of
  across_passed r q own t =
      e ∙ chain_passed (judge_of s) (leb steps most_steps) (unfolding_refused (net_of s)) own k (sym e ∙ t) ∙ sym (across_is s r own ∙ ap (λ (x : ℕ). prepared_of s x own) q)

  -- a fine one leaves the call's own, and tells the number of events
  pub across_on : (r : List ℕ) → length r ≡ steps → (own : Judged) {m : ℕ} → a ≡ Ok m → (across_of s r own ≡ own) × (m ≡ k)
  unfolding prepared_of
  across_on r q own {m} t =
      let z = chain_went (judge_of s) (leb steps most_steps) (unfolding_refused (net_of s)) own k m (sym e ∙ t) in
      (across_is s r own ∙ ap (λ (x : ℕ). prepared_of s x own) q ∙ z.0, z.1)

  -- the table was judged
  pub across_judged : {m : ℕ} → a ≡ Ok m → (j : ℕ) × (judge_of s ≡ Ok j)
  unfolding prepared_of
  across_judged {m} t =
      let q = then_fine (judge_of s) (λ _. need (leb steps most_steps) 3 0 (refused_or (unfolding_refused (net_of s)) (Ok k))) m (sym e ∙ t) in (q.0, q.1)

-- ---- the model's answers

pub fitted_link : (o : Option Refusal) (a : Answer) (room : ℕ) → fitted (unless o a) room ≡ refused_or o (fitted a room)
unfolding fitted
fitted_link none a room = refl
fitted_link (some x) a room = refl

ended_link : (o : Option Refusal) (a : Answer) (c room : ℕ) → ended (unless o a) c room ≡ refused_or o (ended a c room)
unfolding ended
ended_link none a c room = refl
ended_link (some x) a c room = refl

-- a fine answer is a run that has room
pub fitted_fine : (a : Answer) (room c : ℕ) → fitted a room ≡ Ok c → (w : List ℕ) × (a ≡ run w) × (c ≡ length w) × (length w ≤ room)
unfolding fitted
fitted_fine (run w) room c e = let x = fitting_fine (length w) room c e in (w, refl, x.0, x.1)
fitted_fine (refusal x) room c e = never_both (sym e)

pub ended_fine : (a : Answer) (count room c : ℕ) → ended a count room ≡ Ok c → (w : List ℕ) × (a ≡ run w) × (c ≡ count) × (count ≤ room)
unfolding ended
ended_fine (run w) count room c e = let x = fitting_fine count room c e in (w, refl, x.0, x.1)
ended_fine (refusal x) count room c e = never_both (sym e)

-- what the model refuses first is the prefix
pub fitted_across : (s r : List ℕ) (a : Answer) (room : ℕ)
    → and_then (judge_of s) (λ _. fitted (unless (too_long r) (unless (unfolding_refused (net_of s)) a)) room) ≡ across_of s r (fitted a room)
unfolding across_of
fitted_across s r a room = go (judge_of s)
  where
    links : fitted (unless (too_long r) (unless (unfolding_refused (net_of s)) a)) room ≡ refused_or (too_long r) (refused_or (unfolding_refused (net_of s)) (fitted a room))
    links = fitted_link (too_long r) (unless (unfolding_refused (net_of s)) a) room ∙ ap (λ (x : Judged). refused_or (too_long r) x) (fitted_link (unfolding_refused (net_of s)) a room)

    go : (j : Judged) → and_then j (λ _. fitted (unless (too_long r) (unless (unfolding_refused (net_of s)) a)) room) ≡ and_then j (λ _. refused_or (too_long r) (refused_or (unfolding_refused (net_of s)) (fitted a room)))
    go (Ok k) = links
    go (Err x) = refl

pub ended_across : (s r : List ℕ) (a : Answer) (c room : ℕ)
    → and_then (judge_of s) (λ _. ended (unless (too_long r) (unless (unfolding_refused (net_of s)) a)) c room) ≡ across_of s r (ended a c room)
unfolding across_of
ended_across s r a c room = go (judge_of s)
  where
    links : ended (unless (too_long r) (unless (unfolding_refused (net_of s)) a)) c room ≡ refused_or (too_long r) (refused_or (unfolding_refused (net_of s)) (ended a c room))
    links = ended_link (too_long r) (unless (unfolding_refused (net_of s)) a) c room ∙ ap (λ (x : Judged). refused_or (too_long r) x) (ended_link (unfolding_refused (net_of s)) a c room)

    go : (j : Judged) → and_then j (λ _. ended (unless (too_long r) (unless (unfolding_refused (net_of s)) a)) c room) ≡ and_then j (λ _. refused_or (too_long r) (refused_or (unfolding_refused (net_of s)) (ended a c room)))
    go (Ok k) = links
    go (Err x) = refl
