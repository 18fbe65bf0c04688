-- The exchange is the model's: the marking before step k, the part that is swapped, and the chain of refusals.
use Prim.Native.Nat.{ℕ, zero, suc, ◌-◌, ◌≤◌, ◌<◌}
use native.Mathlib.Omega.{arith}
use mathlib.Core.Path.{◌≡◌, refl, sym, ap, ◌∙◌, subst}
use mathlib.Core.Bool.{true, false}
use mathlib.Core.Option.{Option, none, some}
use mathlib.Core.List.{List, [], ◌∷◌, ◌++◌, append-nil}
use lib.Dec.{T, ltb, ltb→lt, lt→ltb}
use lib.ListN.{length, get_or, take, drop, set, length-drop, drop_of_length-le}
use lib.Seq.{take_all, length-take-le}
use borrow.Author.Tests.{le-ltb}
use Rattle.lists.proofs.Bools.{iff}
use Rattle.model.specs.Net.{Net, Marking, begin, fire}
use Rattle.model.specs.Runs.{runs, opening, replay}
use Rattle.model.specs.Exchange.{apart, apart_step, exchanged}
use Rattle.model.specs.Across.{of_table, Refusal, Answer, run, unless, stuck, most_steps, too_long, no_step, not_apart, exchanging, exchange}
use Rattle.model.proofs.Firing.{runs_first, runs_rest, runs_cons, runs_event}
use Rattle.model.proofs.Answers.{not_stuck, stuck_none, short_length, length_short}
use Rattle.refusal.specs.declared.Refusal as table
use Rattle.refusal.specs.Answer.{Judged, refused_at}
use Rattle.std.specs.Prelude.{Result, Ok, Err, IsOk}
use Rattle.refusal.proofs.Chain.{never_both}
use Rattle.table.specs.Walk.{judge_of}
use Rattle.table.specs.Decoded.{net_of}
use Rattle.table.proofs.Decoded.{net_judged}
use Rattle.held.specs.Held.{held_in}
use Rattle.table.specs.Links.{refused_or}
use Rattle.table.proofs.Links.{links_open, links_refused, links_fine}
use Rattle.played.specs.Begun.{begun_at}
use Rattle.exchange.specs.Calls.{swapping, exchange_of, exchanged_of}
use Rattle.apart.specs.Found.{Found}
use Rattle.exchange.specs.Played.{Exchangeable}
use Rattle.played.specs.declared.Ended.{Ended}
use Rattle.played.specs.Played.{ended, Plays}
use Rattle.game.specs.Calls.{leaves}

-- ---- a run and the steps before k

module _ (n : Net) where
  runs_take : (m : Marking) (r : List ℕ) (k : ℕ) → T (runs n m r) → T (runs n m (take k r))
  unfolding runs
  runs_take m [] zero t = tt
  runs_take m [] (suc k) t = tt
  runs_take m (e ∷ r) zero t = tt
  runs_take m (e ∷ r) (suc k) t = runs_cons n m e (take k r) (runs_first n m e r t) (runs_take (fire n m e) r k (runs_rest n m e r t))

fine_ended : (c : ℕ) (answer : Result Ended table.Refusal) → ended answer ≡ Ok c → IsOk answer
fine_ended c (Ok whole) e = refl
fine_ended c (Err x) e = never_both (sym e)

module _ (s : List ℕ) (n : ℕ) (offsets r : List ℕ) (k : ℕ) (x : Exchangeable s n offsets r k) where
  pub step_below : (i : ℕ) → i < length r → get_or r i 0 < n
  step_below i h = rw (net_judged s (Ok n) x.judged) at (runs_event (net_of s) (begin (net_of s)) r i x.plays h)

  pub step_found : (i : ℕ) → i < length r → Found s (get_or r i 0) (get_or offsets (get_or r i 0) 0)
  step_found i h = record { events = n; judged = x.judged; below = step_below i h; place = x.indexed.each (get_or r i 0) (step_below i h) }

  -- the steps before k are accepted
  pub before_fine : (a : ℕ) → a ≡ k → (answer : Result Ended table.Refusal) → Plays (net_of s) (begin (net_of s)) (take a r) answer → IsOk answer
  unfolding begun_at
  before_fine a is_a answer p =
      let next = x.next in
      let short = length_short (take k r) (omega (arith, length-take-le k r (omega arith), x.short)) in
      let free = stuck_none of_table (net_of s) 0 (begun_at (net_of s) (begin (net_of s))) (take k r) (runs_take (net_of s) (begin (net_of s)) r k x.plays) in
      let q = subst (λ (y : ℕ). Plays (net_of s) (begin (net_of s)) (take y r) answer) is_a p in
      fine_ended (net_of s).conditions answer (q.told ∙ rw (short, free))

  pub apart_asked : (a i : ℕ) → a ≡ k → i ≡ suc k → (answer : Result Ended table.Refusal) (l : Ended) → Plays (net_of s) (begin (net_of s)) (take a r) answer
      → answer ≡ Ok l → apart (net_of s) (held_in l.held) (get_or r k 0) (get_or r i 0) ≡ apart_step (net_of s) (begin (net_of s)) r k
  unfolding apart_step
  apart_asked a i is_a is_i answer l p e =
      ap (λ (y : ℕ). apart (net_of s) (held_in l.held) (get_or r k 0) (get_or r y 0)) is_i
      ∙ ap (λ (m : Marking). apart (net_of s) m (get_or r k 0) (get_or r (suc k) 0)) ((subst (λ (y : ℕ). Plays (net_of s) (begin (net_of s)) (take y r) answer) is_a p).reached l e)

-- ---- whether there is a step k + 1

pub next_there : (steps k : ℕ) → k < steps → ltb 1 (steps - k) ≡ ltb (suc k) steps
next_there steps k h =
    iff (ltb 1 (steps - k)) (ltb (suc k) steps) (λ t. lt→ltb (suc k) steps (let q = ltb→lt 1 (steps - k) t in omega arith))
    (λ t. lt→ltb 1 (steps - k) (let q = ltb→lt (suc k) steps t in omega arith))

pub next_missing : (steps k : ℕ) → steps ≤ k → false ≡ ltb (suc k) steps
next_missing steps k h = sym (le-ltb (suc k) steps (omega arith))

-- ---- the part from k on, swapped and put back

pub swap_is : (l : List ℕ) → 2 ≤ length l → set (set l 0 (get_or l 1 0)) 1 (get_or l 0 0) ≡ exchanged 0 l
swap_is [] h = absurd (omega arith)
swap_is (e ∷ []) h = absurd (omega arith)
swap_is (e ∷ f ∷ q) h = refl

pub part_room : (k : ℕ) (r : List ℕ) → suc k < length r → 2 ≤ length (take (length r - k) (drop k r))
part_room k r h = omega (arith, length-drop k r, length-take-le (length r - k) (drop k r) (omega (arith, length-drop k r)))

part_exchanged : (k : ℕ) (r : List ℕ) → take k r ++ exchanged 0 (drop k r) ≡ exchanged k r
part_exchanged zero [] = refl
part_exchanged zero (e ∷ []) = refl
part_exchanged zero (e ∷ f ∷ q) = refl
part_exchanged (suc k) [] = refl
part_exchanged (suc k) (x ∷ r) = ap {B = List ℕ} (λ l. x ∷ l) (part_exchanged k r)

pub put_back : (k : ℕ) (r y : List ℕ) → y ≡ exchanged 0 (take (length r - k) (drop k r)) → take k r ++ (y ++ drop (length r - k) (drop k r)) ≡ exchanged k r
put_back k r y e =
    let none : drop (length r - k) (drop k r) ≡ [] = drop_of_length-le (drop k r) {i = length r - k} (rw length-drop (omega arith)) in
    let whole : take (length r - k) (drop k r) ≡ drop k r = take_all (length r - k) (drop k r) (rw length-drop (omega arith)) in
    rw (none, append-nil, e, whole) (part_exchanged k r)

-- ---- the chain of refusals

swapping_unless : (o : Option Refusal) (a : Answer) → swapping (unless o a) ≡ refused_or o (swapping a)
swapping_unless none a = refl
swapping_unless (some x) a = refl

module _ (s r : List ℕ) (k : ℕ) where
  -- a refusal leaves the run as it was
  pub kept_run : (a : Judged) (x : table.Refusal) → a ≡ Err x → a ≡ exchange_of s r k → (a ≡ exchange_of s r k) × (r ≡ exchanged_of s r k)
  unfolding exchanged_of
  kept_run a x e h = (h, sym (ap (λ (y : Judged). leaves y (exchanged k r) r) (sym h ∙ e)))

  module _ (n : ℕ) (j : judge_of s ≡ Ok n) where
    abbrev rest : Judged
    rest = swapping (unless (no_step r k) (unless (not_apart (net_of s) r k) (run (exchanged k r))))

    chain : exchange_of s r k ≡ refused_or (too_long r) (refused_or (stuck of_table (replay (net_of s) 0 (begun_at (net_of s) (begin (net_of s))) r)) rest)
    unfolding exchange_of exchange exchanging opening begun_at begin
    chain =
        simp j (swapping_unless (too_long r) (exchanging (net_of s) r k)
        ∙ ap (refused_or (too_long r)) (swapping_unless (stuck of_table (replay (net_of s) 0 (opening (net_of s)) r)) (unless (no_step r k) (unless (not_apart (net_of s) r k) (run (exchanged k r))))))

    module _ (answer : Result Ended table.Refusal) (p : Plays (net_of s) (begin (net_of s)) r answer) where
      told : (a : Result Ended table.Refusal) → answer ≡ a
          → refused_or (too_long r) (refused_or (stuck of_table (replay (net_of s) 0 (begun_at (net_of s) (begin (net_of s))) r)) (Ok (net_of s).conditions)) ≡ ended a
      told a e = sym p.told ∙ ap ended e

      pub stopped_run : (x : table.Refusal) → answer ≡ Err x → (Err x ≡ exchange_of s r k) × (r ≡ exchanged_of s r k)
      stopped_run x e =
          kept_run (Err x) x refl
          (sym (told (Err x) e) ∙ links_refused (too_long r) (stuck of_table (replay (net_of s) 0 (begun_at (net_of s) (begin (net_of s))) r)) (net_of s).conditions rest x (told (Err x) e) ∙ sym chain)

      module _ (l : Ended) (e : answer ≡ Ok l) where
        pub whole_run : T (runs (net_of s) (begin (net_of s)) r) × (length r ≤ most_steps)
        unfolding begun_at
        whole_run =
            let (a, b) = links_open (too_long r) (stuck of_table (replay (net_of s) 0 (begun_at (net_of s) (begin (net_of s))) r)) (net_of s).conditions l.conditions (told (Ok l) e) in
            (not_stuck of_table (net_of s) 0 (begun_at (net_of s) (begin (net_of s))) r b, short_length r a)

        goes : rest ≡ exchange_of s r k
        goes =
            (links_fine (too_long r) (stuck of_table (replay (net_of s) 0 (begun_at (net_of s) (begin (net_of s))) r)) (net_of s).conditions l.conditions rest (told (Ok l) e)).1
            ∙ sym chain

        pub no_step_lem : ltb (suc k) (length r) ≡ false → refused_at 10 k ≡ exchange_of s r k
        unfolding no_step
        no_step_lem h = sym (sym goes ∙ rw h)

        module _ (h : ltb (suc k) (length r) ≡ true) where
          pub not_apart_lem : apart_step (net_of s) (begin (net_of s)) r k ≡ false → refused_at 17 k ≡ exchange_of s r k
          unfolding no_step not_apart
          not_apart_lem a = sym (sym goes ∙ rw (h, a))

          pub exchanges : apart_step (net_of s) (begin (net_of s)) r k ≡ true → (Ok 2 ≡ exchange_of s r k) × (exchanged k r ≡ exchanged_of s r k)
          unfolding no_step not_apart exchanged_of
          exchanges a =
              let z : Ok 2 ≡ exchange_of s r k = sym (sym goes ∙ rw (h, a)) in
              (z, rw (← z))
