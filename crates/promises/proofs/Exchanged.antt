-- Demand 3 both ways: the test on two steps is exactly the premises, and exchange answers exactly by them.
use mathlib.Core.Path.{◌≡◌, refl, sym, ap, ◌∙◌}
use mathlib.Core.Bool.{Bool, true, false, cond}
use mathlib.Core.Logic.{inl, inr, ◌↔◌}
use mathlib.Core.Option.{none, some}
use mathlib.Core.List.{List}
use Prim.Native.Nat.{ℕ, suc, ◌≤◌, ◌<◌}
use native.Mathlib.Omega.{arith}
use native.Mathlib.Decide.{dec_le}
use lib.Dec.{T, ltb, ltb→lt, lt→ltb}
use lib.ListN.{length, get_or, take}
use Rattle.lists.specs.Lists.{mem}
use Rattle.lists.proofs.Bools.{not_not, or_left, or_right, or_cases}
use Rattle.lists.proofs.Members.{mem_in, in_mem, mem_append}
use Rattle.model.specs.Net.{Net, Marking, begin, unknown, lacks, meets}
use Rattle.model.specs.Runs.{runs, end, opening, Played, ends, refused, replay}
use Rattle.model.specs.Exchange.{touch, apart, apart_step, exchanged}
use Rattle.model.specs.Across.{Answer, run, other, of_table, unless, stuck, most_steps, no_step, not_apart, exchanging, exchange}
use Rattle.model.specs.Paper.{holding}
use Rattle.model.proofs.Answers.{length_short}
use Rattle.model.proofs.Exchange.{apart_parts, parts_apart}
use Rattle.model.proofs.Replay.{replay_runs, runs_replay}
use Rattle.refusal.specs.Answer.{Judged, refused_at, number_of, place_of}
use Rattle.std.specs.Prelude.{Ok}
use Rattle.refusal.proofs.Chain.{never_both}
use Rattle.table.specs.Walk.{judge_of}
use Rattle.table.specs.Decoded.{net_of}
use Rattle.game.specs.Calls.{leaves}
use Rattle.exchange.specs.Calls.{swapping, exchange_of, exchanged_of}
use Rattle.exchange.proofs.exchange.Reads as exchange-call
use Rattle.promises.specs.Exchanged.{touching, Premises, PremisesAt, ExchangedExactly}

-- ---- the test is the premises

module _ (n : Net) (e b : ℕ) where
  -- what the test looks up in one list stands in one of two sets
  touch_out : T (mem b (touch n e)) → touching n e b
  unfolding touch
  touch_out t =
      or_cases (mem b (n.preconditions e)) (mem b (n.postconditions e)) (rw mem_append at t) (λ i. inl (mem_in b (n.preconditions e) i))
      (λ i. inr (mem_in b (n.postconditions e) i))

  touch_in : touching n e b → T (mem b (touch n e))
  unfolding touch
  touch_in (inl i) = rw mem_append (or_left (mem b (n.preconditions e)) (mem b (n.postconditions e)) (in_mem i))
  touch_in (inr i) = rw mem_append (or_right (mem b (n.preconditions e)) (mem b (n.postconditions e)) (in_mem i))

module _ (n : Net) (m : Marking) (e f : ℕ) where
  test_premises : T (apart n m e f) → Premises n (holding m) e f
  test_premises t =
      let a = apart_parts n m e f t in
      record {
        different = a.differ;
        disjoint = λ b. (λ h. h.1 (a.disjoint b (touch_in n e b h.0.0) (touch_in n f b h.0.1)), λ z. absurd z);
        held = λ b h. a.held b (in_mem h.0) h.1;
        once = λ b. (λ h. h.1 (a.once b (in_mem h.0.0.0) h.0.1 (in_mem h.0.0.1)), λ z. absurd z);
      }

  premises_test : Premises n (holding m) e f → T (apart n m e f)
  premises_test p =
      parts_apart n m e f (record {
        differ = p.different;
        disjoint = λ b x y. not_not (n.persistent b) (λ z. (p.disjoint b).0 ((touch_out n e b x, touch_out n f b y), z));
        held = λ b x y. p.held b (mem_in b (n.preconditions f) x, y);
        once = λ b x y z. not_not (m b) (λ w. (p.once b).0 (((mem_in b (n.postconditions e) x, mem_in b (n.postconditions f) z), y), w));
      })

  -- The test on two events passes exactly if the premises hold of them.
  pub premises_exactly : T (apart n m e f) ↔ Premises n (holding m) e f
  premises_exactly = (test_premises, premises_test)

-- So does the test on two steps of a run.
pub premises_at : (n : Net) (r : List ℕ) (k : ℕ) → T (apart_step n (begin n) r k) ↔ PremisesAt n r k
unfolding apart_step
premises_at n r k = premises_exactly n (end n (begin n) (take k r)) (get_or r k 0) (get_or r (suc k) 0)

-- ---- the call answers by them

-- what is told of a run that has a step k + 1 or not, and whose two steps pass the test or not
abbrev told : ℕ → Bool → Bool → Judged
told k true true = Ok 2
told k true false = refused_at 17 k
told k false free = refused_at 10 k

told_is : (k : ℕ) (q : List ℕ) (next free : Bool)
    → swapping (unless (cond next none (some (other 10 k))) (unless (cond free none (some (other 17 k))) (run q))) ≡ told k next free
told_is k q true true = refl
told_is k q true false = refl
told_is k q false free = refl

told_fine : (k : ℕ) (next free : Bool) → (told k next free ≡ Ok 2) ↔ (T next × T free)
told_fine k true true = (λ _. (tt, tt), λ _. refl)
told_fine k true false = (λ e. never_both (sym e), λ h. absurd h.1)
told_fine k false free = (λ e. never_both (sym e), λ h. absurd h.0)

told_seventeen : (k i : ℕ) (next free : Bool) → (told k next free ≡ refused_at 17 i) ↔ ((i ≡ k) × T next × (T free → ⊥))
told_seventeen k i true true = (λ e. never_both e, λ h. absurd (h.2 tt))
told_seventeen k i true false = (λ e. (ap place_of (sym e), tt, λ z. z), λ h. ap (refused_at 17) (sym h.0))
told_seventeen k i false free = (λ e. let z : ◌≡◌ {A = ℕ} 10 17 = ap number_of e in absurd (omega arith), λ h. absurd h.1)

told_ten : (k i : ℕ) (next free : Bool) → (told k next free ≡ refused_at 10 i) ↔ ((i ≡ k) × (T next → ⊥))
told_ten k i true true = (λ e. never_both e, λ h. absurd (h.1 tt))
told_ten k i true false = (λ e. let z : ◌≡◌ {A = ℕ} 17 10 = ap number_of e in absurd (omega arith), λ h. absurd (h.1 tt))
told_ten k i false free = (λ e. (ap place_of (sym e), λ z. z), λ h. ap (refused_at 10) (sym h.0))

module _ (s r : List ℕ) (k n : ℕ) (j : judge_of s ≡ Ok n) (short : length r ≤ most_steps) where
  by_model : exchange_of s r k ≡ swapping (exchanging (net_of s) r k)
  unfolding exchange_of exchange
  by_model = rw (j, length_short r short)

  -- a run gets one of three answers,
  on_run : T (runs (net_of s) (begin (net_of s)) r) → exchange_of s r k ≡ told k (ltb (suc k) (length r)) (apart_step (net_of s) (begin (net_of s)) r k)
  unfolding exchanging no_step not_apart opening
  on_run t =
      by_model ∙ rw (replay_runs (net_of s) 0 (opening (net_of s)) r t)
      (told_is k (exchanged k r) (ltb (suc k) (length r)) (apart_step (net_of s) (begin (net_of s)) r k))

  -- and what is no run is refused with 10, 11 or 12
  ran : (x : ℕ) → number_of (exchange_of s r k) ≡ x → (x ≡ 10 → ⊥) → (x ≡ 11 → ⊥) → (x ≡ 12 → ⊥) → T (runs (net_of s) (begin (net_of s)) r)
  unfolding exchanging opening
  ran x e a b c = go (replay (net_of s) 0 (opening (net_of s)) r) refl (ap number_of (sym by_model) ∙ e)
    where
      rest : Answer
      rest = unless (no_step r k) (unless (not_apart (net_of s) r k) (run (exchanged k r)))

      go : (p : Played) → replay (net_of s) 0 (opening (net_of s)) r ≡ p → number_of (swapping (unless (stuck of_table p) rest)) ≡ x
          → T (runs (net_of s) (begin (net_of s)) r)
      go (ends z) q h = (runs_replay (net_of s) 0 (opening (net_of s)) z r q).0
      go (refused unknown i) q h = absurd (a (sym h))
      go (refused (lacks d) i) q h = absurd (b (sym h))
      go (refused (meets d) i) q h = absurd (c (sym h))

  -- Exchange answers exactly by the premises.
  pub exchanged_exactly : ExchangedExactly (net_of s) r k (exchange_of s r k) (exchanged_of s r k)
  unfolding exchanged_of
  exchanged_exactly =
      let next = ltb (suc k) (length r) in
      let free = apart_step (net_of s) (begin (net_of s)) r k in
      let is = premises_at (net_of s) r k in
      let fine = told_fine k next free in
      record {
        made = (
          λ e.
              let t = ran 0 (ap number_of e) (λ z. omega (arith, z)) (λ z. omega (arith, z)) (λ z. omega (arith, z)) in
              let h = fine.0 (sym (on_run t) ∙ e) in
              (record { run = t; next = ltb→lt (suc k) (length r) h.0 }, is.0 h.1),
          λ h. on_run h.0.run ∙ fine.1 (lt→ltb (suc k) (length r) h.0.next, is.1 h.1),
        );
        swapped = λ e. ap (λ (x : Judged). leaves x (exchanged k r) r) e;
        seventeen = λ i. (
          λ e.
              let t = ran 17 (ap number_of e) (λ z. omega (arith, z)) (λ z. omega (arith, z)) (λ z. omega (arith, z)) in
              let h = (told_seventeen k i next free).0 (sym (on_run t) ∙ e) in
              (h.0, record { run = t; next = ltb→lt (suc k) (length r) h.1 }, λ p. h.2 (is.1 p)),
          λ h. on_run h.1.run ∙ (told_seventeen k i next free).1 (h.0, lt→ltb (suc k) (length r) h.1.next, λ t. h.2 (is.0 t)),
        );
        ten = λ t i. (
          λ e.
              let h = (told_ten k i next free).0 (sym (on_run t) ∙ e) in
              (h.0, past (λ l. h.1 (lt→ltb (suc k) (length r) l)) (dec_le (length r) (suc k))),
          λ h. on_run t ∙ (told_ten k i next free).1 (h.0, λ l. let q = ltb→lt (suc k) (length r) l in omega (arith, h.1)),
        );
      }
    where
      past : (suc k < length r → ⊥) → Dec (length r ≤ suc k) → length r ≤ suc k
      past f (yes h) = h
      past f (no h) = absurd (f (omega arith))

-- The same over its contract.
pub exchange_answers : (κs : _) (a : _) (r : _) (x : _) → exchange-call.Learnt κs a r x
    → (n : ℕ) → judge_of a.0.now ≡ Ok n → length a.1.0.now ≤ most_steps
    → ExchangedExactly (net_of a.0.now) a.1.0.now a.1.1.0 r x.1.0.now
exchange_answers κs a r x h n j short = rw (h.0, h.1) (exchanged_exactly a.0.now a.1.0.now a.1.1.0 n j short)
