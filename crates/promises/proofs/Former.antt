-- What the rule of lifting changed from the former one: nothing but refusals with 15, of which none is new.
use mathlib.Core.Path.{◌≡◌, refl, sym, ◌∙◌, ap, ap₂}
use mathlib.Core.Bool.{Bool, true, false, ◌&&◌, cond}
use mathlib.Core.Logic.{◌⊎◌, inl, inr}
use mathlib.Core.Option.{Option, none, some}
use mathlib.Core.List.{List, [], ◌∷◌}
use Prim.Native.Nat.{ℕ, suc, ◌≤◌}
use native.Mathlib.Omega.{arith}
use lib.Dec.{T}
use lib.ListN.{length}
use Rattle.lists.specs.Lists.{mem}
use Rattle.lists.proofs.Bools.{T_of, is_true, is_false, not-true, and_left, and_right, and_both}
use Rattle.lists.proofs.Members.{keep_out, map_same}
use Rattle.lists.proofs.Tests.{any_in}
use Rattle.model.specs.Net.{Net}
use Rattle.model.specs.Runs.{by_event, State, opening, step, replay}
use Rattle.model.specs.Unfolding.{UnfoldedEvent, reads}
use Rattle.model.specs.Numbering.{number}
use Rattle.model.specs.Across.{of_table, Refusal, other, Answer, run, refusal, unless, stuck, too_long, unfolding_refused, or_start, marks_for_others, own_or_earliest, coloured, lifted, repeated, again, lifting, lift}
use Rattle.model.proofs.Own.{for_another}
use Rattle.model.proofs.Repeats.{repeated_cons, repeated_build, repeated_first}
use Rattle.model.proofs.Answers.{lifting_again}
use Rattle.refusal.specs.declared.Refusal as declared
use Rattle.refusal.specs.Answer.{Judged, refused_at}
use Rattle.std.specs.Prelude.{Ok, Err}
use Rattle.table.specs.Walk.{judge_of}
use Rattle.table.specs.Decoded.{net_of}
use Rattle.across.specs.Calls.{fitted}
use Rattle.lift.specs.Calls.{lift_of, lifted_of}
use Rattle.ends.specs.Calls.{lift_end_of, lift_ended_of}
use Rattle.promises.specs.Former.{marks, earliest, former_lift, former_lift_of, former_lifted_of, former_lift_end_of, former_lift_ended_of, AsFormer}

-- an event that marks for others marks
marks_for : (n : Net) (e : ℕ) → T (marks_for_others n e) → T (marks n e)
unfolding marks
marks_for n e t = let f = for_another n e t in any_in n.persistent (n.postconditions e) f.condition f.marks f.persists

-- ---- one step

module _ (n : Net) (s : State) (e : ℕ) where
  -- what is a repeat now was one
  was_repeat : (own_or_earliest n).repeats s e ≡ true → (earliest n).repeats s e ≡ true
  unfolding own_or_earliest earliest
  was_repeat h =
      let t = T_of (marks_for_others n e && s.seen e) h in
      is_true (marks n e && s.seen e) (and_both (marks n e) (s.seen e) (marks_for n e (and_left (marks_for_others n e) (s.seen e) t)) (and_right (marks_for_others n e) (s.seen e) t))

  module _ (o : (earliest n).repeats s e ≡ false) where
    -- what was no repeat is none now
    no_repeat : (own_or_earliest n).repeats s e ≡ false
    no_repeat = go ((own_or_earliest n).repeats s e) refl
      where
        go : (x : Bool) → (own_or_earliest n).repeats s e ≡ x → x ≡ false
        go false q = refl
        go true q = sym (was_repeat q) ∙ o

    -- and picks as it did
    same_colour_lem : coloured n (own_or_earliest n) s e ≡ coloured n (earliest n) s e
    unfolding coloured own_or_earliest earliest marks reads
    same_colour_lem =
        ap {B = UnfoldedEvent} (λ z. record { event = e; colour = z })
        (map_same (λ b. cond (s.seen e && mem b (n.postconditions e)) (by_event e) (or_start (s.first b))) (λ b. or_start (s.first b)) (reads n e)
        (λ b i. rw (is_false (s.seen e && mem b (n.postconditions e)) (λ t.
        not-true (marks n e && s.seen e) o
        (and_both (marks n e) (s.seen e)
        (any_in n.persistent (n.postconditions e) b (and_right (s.seen e) (mem b (n.postconditions e)) t) (keep_out n.persistent (n.preconditions e) i).1)
        (and_left (s.seen e) (mem b (n.postconditions e)) t))))))

-- ---- a run

-- a run without a repeat by the former rule has none now and lifts to the same numbers
same_lift : (n : Net) (k : ℕ) (s : State) (r : List ℕ) → repeated n (earliest n) k s r ≡ none
    → (repeated n (own_or_earliest n) k s r ≡ none) × (lifted n (own_or_earliest n) s r ≡ lifted n (earliest n) s r)
unfolding repeated lifted
same_lift n k s [] o = (refl, refl)
same_lift n k s (e ∷ r) o =
    let a = repeated_cons n (earliest n) k s e r o in
    let i = same_lift n (suc k) (step n s e) r a.1 in (
      repeated_build n (own_or_earliest n) k s e r (no_repeat n s e a.0) i.0,
      ap₂ {C = List ℕ} (λ x y. x ∷ y) (ap (number n) (same_colour_lem n s e a.0)) i.1,
    )

-- where a run has a repeat now, it had one there or sooner
sooner_repeat : (n : Net) (k : ℕ) (s : State) (r : List ℕ) (i : ℕ) → repeated n (own_or_earliest n) k s r ≡ some i
    → (j : ℕ) × (j ≤ i) × (repeated n (earliest n) k s r ≡ some j)
unfolding repeated
sooner_repeat n k s [] i h = absurd (let z : ◌≡◌ {A = ℕ} 0 1 = cc in omega arith)
sooner_repeat n k s (e ∷ r) i h =
    go ((earliest n).repeats s e) ((own_or_earliest n).repeats s e) refl refl h (omega (arith, (repeated_first n (own_or_earliest n) k s (e ∷ r) i h).place))
    (λ q. sooner_repeat n (suc k) (step n s e) r i q)
  where
    go : (x y : Bool) → (earliest n).repeats s e ≡ x → (own_or_earliest n).repeats s e ≡ y
        → ◌≡◌ {A = Option ℕ} (elim y [ true ↦ some k | false ↦ repeated n (own_or_earliest n) (suc k) (step n s e) r ]) (some i)
        → k ≤ i
        → (repeated n (own_or_earliest n) (suc k) (step n s e) r ≡ some i → (j : ℕ) × (j ≤ i) × (repeated n (earliest n) (suc k) (step n s e) r ≡ some j))
        → (j : ℕ) × (j ≤ i) × (◌≡◌ {A = Option ℕ} (elim x [ true ↦ some k | false ↦ repeated n (earliest n) (suc k) (step n s e) r ]) (some j))
    go true y p q h few ih = (k, few, refl)
    go false true p q h few ih = absurd (not-true ((earliest n).repeats s e) p (T_of ((earliest n).repeats s e) (was_repeat n s e q)))
    go false false p q h few ih = ih h

-- ---- the answers

module _ (n : Net) (r : List ℕ) where
  abbrev now : Answer
  now = lifting n (own_or_earliest n) 0 (opening n) r

  abbrev then : Answer
  then = lifting n (earliest n) 0 (opening n) r

  -- the steps of a run by both rules
  steps_alike : ((i : ℕ) × (then ≡ refusal (other 15 i))) ⊎ (now ≡ then)
  unfolding lifting
  steps_alike = go (stuck of_table (replay n 0 (opening n) r)) (repeated n (earliest n) 0 (opening n) r) refl
    where
      go : (x : Option Refusal) (o : Option ℕ) → repeated n (earliest n) 0 (opening n) r ≡ o
          → ((i : ℕ) × (unless x (unless (again o) (run (lifted n (earliest n) (opening n) r))) ≡ refusal (other 15 i)))
          ⊎ (unless x (unless (again (repeated n (own_or_earliest n) 0 (opening n) r)) (run (lifted n (own_or_earliest n) (opening n) r)))
          ≡ unless x (unless (again o) (run (lifted n (earliest n) (opening n) r))))
      go (some x) o q = inr refl
      go none (some i) q = inl (i, refl)
      go none none q = let a = same_lift n 0 (opening n) r q in inr (rw (a.0, a.1))

  -- Either the former rule turned a run away with 15, or the answer is what it was.
  pub lift_as_before : ((i : ℕ) × (former_lift n r ≡ refusal (other 15 i))) ⊎ (lift n r ≡ former_lift n r)
  unfolding former_lift lift
  lift_as_before = go (too_long r) (unfolding_refused n) steps_alike
    where
      go : (x y : Option Refusal) → ((i : ℕ) × (then ≡ refusal (other 15 i))) ⊎ (now ≡ then)
          → ((i : ℕ) × (unless x (unless y then) ≡ refusal (other 15 i))) ⊎ (unless x (unless y now) ≡ unless x (unless y then))
      go (some x) y a = inr refl
      go none (some y) a = inr refl
      go none none a = a

  module _ (short : too_long r ≡ none) (unfolds : unfolding_refused n ≡ none) where
    opened : (a : Answer) → unless (too_long r) (unless (unfolding_refused n) a) ≡ a
    opened a = rw (short, unfolds)

    -- What is turned away with 15 was so by the former rule, at that step or a sooner one.
    pub none_new : (i : ℕ) → lift n r ≡ refusal (other 15 i) → (k : ℕ) × (k ≤ i) × (former_lift n r ≡ refusal (other 15 k))
    unfolding former_lift lift
    none_new i h =
        let z = (lifting_again n (own_or_earliest n) 0 (opening n) r i).0 (sym (opened now) ∙ h) in
        let q = sooner_repeat n 0 (opening n) r i z.1 in
        (q.0, q.1, opened then ∙ (lifting_again n (earliest n) 0 (opening n) r q.0).1 (z.0, q.2))

-- ---- the calls

module _ (s r out end_out : List ℕ) where
  same_model : lift (net_of s) r ≡ former_lift (net_of s) r → AsFormer s r out end_out
  unfolding lift_of lifted_of lift_end_of lift_ended_of former_lift_of former_lifted_of former_lift_end_of former_lift_ended_of
  same_model q = record { answer = rw q; lifted = rw q; end_answer = rw q; end = rw q }

  no_table : (x : declared.Refusal) → judge_of s ≡ Err x → AsFormer s r out end_out
  unfolding lift_of lifted_of lift_end_of lift_ended_of former_lift_of former_lifted_of former_lift_end_of former_lift_ended_of
  no_table x j = record { answer = rw j; lifted = rw j; end_answer = rw j; end = rw j }

  fifteen : (c i : ℕ) → judge_of s ≡ Ok c → former_lift (net_of s) r ≡ refusal (other 15 i) → former_lift_of s r (length out) ≡ refused_at 15 i
  unfolding former_lift_of fitted
  fifteen c i j q = rw (j, q)

  -- Either the former rule turned the run away with 15, or both calls answer and write as by it.
  pub as_former : ((i : ℕ) × (former_lift_of s r (length out) ≡ refused_at 15 i)) ⊎ AsFormer s r out end_out
  as_former = go (judge_of s) refl (lift_as_before (net_of s) r)
    where
      go : (a : Judged) → judge_of s ≡ a → ((i : ℕ) × (former_lift (net_of s) r ≡ refusal (other 15 i))) ⊎ (lift (net_of s) r ≡ former_lift (net_of s) r)
          → ((i : ℕ) × (former_lift_of s r (length out) ≡ refused_at 15 i)) ⊎ AsFormer s r out end_out
      go a j (inr q) = inr (same_model q)
      go (Ok c) j (inl (i, q)) = inl (i, fifteen c i j q)
      go (Err x) j (inl q) = inr (no_table x j)
