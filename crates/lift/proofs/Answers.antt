-- What the lift answers once its table is laid out, its run played, and the numbers of first and of later occurrences known.
use Prim.Native.Nat.{ℕ, suc, ◌≤◌, ◌<◌}
use native.Mathlib.Omega.{arith}
use mathlib.Core.Path.{◌≡◌, refl, sym, ap, ◌∙◌}
use mathlib.Core.Option.{Option, none}
use mathlib.Core.List.{List, [], ◌∷◌, ◌++◌}
use lib.Dec.{T}
use lib.ListN.{length, get_or, drop}
use Rattle.model.specs.Net.{Net, begin}
use Rattle.model.specs.Runs.{runs, State, opening, step, replay}
use Rattle.model.specs.Across.{of_table, Refusal, Answer, run, unless, stuck, too_long, unfolding_refused, Lifting, own_or_earliest, lifted, repeated, again, lifting, lift}
use Rattle.model.proofs.Answers.{not_stuck, stuck_none, run_lifting}
use Rattle.model.proofs.Firing.{runs_event}
use Rattle.refusal.specs.declared.Refusal as declared
use Rattle.std.specs.Prelude.{Result, Ok, Err, None, Some}
use Rattle.refusal.specs.Answer.{Judged, refused_at, fitting, written}
use Rattle.refusal.proofs.Chain.{then_fine, fitting_room, fitting_short, written_refused}
use Rattle.table.specs.Walk.{judge_of}
use Rattle.table.specs.Decoded.{net_of}
use Rattle.table.specs.Tabled.{Tabled}
use Rattle.table.specs.Links.{refused_or}
use Rattle.table.proofs.Sound.{tabled}
use Rattle.table.proofs.Links.{links_open, links_refused}
use Rattle.table.proofs.Decoded.{events_are_all}
use Rattle.layout.specs.Laid.{Laid}
use Rattle.played.specs.Begun.{begun_at}
use Rattle.played.specs.declared.Ended.{Ended}
use Rattle.played.specs.Played.{ended, Plays}
use Rattle.across.specs.Calls.{fitted, numbers_of, across_of}
use Rattle.across.specs.Prepared.{prepared_of}
use Rattle.across.proofs.Prefix.{across_passed, across_on, across_judged, fitted_link, fitted_across}
use Rattle.repeats.specs.Repeats.{Used}
use Rattle.firsts.specs.declared.Walked.{Walked}
use Rattle.firsts.specs.Firsts.{Slot, repeat_of}
use Rattle.firsts.specs.Walks.{Walks}
use Rattle.later.specs.Later.{Later}
use Rattle.places.specs.Numbers as numbers
use Rattle.lift.specs.Calls.{lift_of, lifted_of}
use Rattle.lift.specs.Played.{numbers_for, TwoBytes, Writing}
use Rattle.lift.proofs.Settled.{lifted_is}
use Rattle.lift.proofs.Written.{numbers_long}

abbrev pub lifting_of : Net → List ℕ → Answer
lifting_of n r = lifting n (own_or_earliest n) 0 (opening n) r

-- ---- the prefix, then the run

pub lift_across : (s r : List ℕ) (room : ℕ) → lift_of s r room ≡ across_of s r (fitted (lifting_of (net_of s) r) room)
unfolding lift_of lift
lift_across s r room = fitted_across s r (lifting_of (net_of s) r) room

across_open : (s r : List ℕ) → across_of s r (Ok 0) ≡ Ok 0 → (too_long r ≡ none) × (unfolding_refused (net_of s) ≡ none)
unfolding across_of
across_open s r e =
    let q = then_fine (judge_of s) (λ _. refused_or (too_long r) (refused_or (unfolding_refused (net_of s)) (Ok 0))) 0 e in
    links_open (too_long r) (unfolding_refused (net_of s)) 0 0 q.2

lift_is : (s r : List ℕ) → across_of s r (Ok 0) ≡ Ok 0 → lift (net_of s) r ≡ lifting_of (net_of s) r
unfolding lift
lift_is s r e = let o = across_open s r e in rw (o.0, o.1)

-- a refused call leaves the output
pub lift_refused : (s r out : List ℕ) {a : Judged} {x : declared.Refusal} → a ≡ Err x → a ≡ lift_of s r (length out) → (a ≡ lift_of s r (length out)) × (out ≡ lifted_of s r out)
unfolding lifted_of
lift_refused s r out {a} {x} t e = (e, written_refused (lift_of s r (length out)) x (numbers_of (lift (net_of s) r)) out (sym e ∙ t))

-- a call that comes to the run answers and writes as that does
pub lift_went : (s r out out' : List ℕ) {a : Judged} → across_of s r (Ok 0) ≡ Ok 0 → across_of s r (fitted (lifting_of (net_of s) r) (length out)) ≡ fitted (lifting_of (net_of s) r) (length out)
    → a ≡ fitted (lifting_of (net_of s) r) (length out) → out' ≡ written a (numbers_of (lifting_of (net_of s) r)) out → (a ≡ lift_of s r (length out)) × (out' ≡ lifted_of s r out)
unfolding lifted_of
lift_went s r out out' {a} z o e w =
    let same : a ≡ lift_of s r (length out) = e ∙ sym (lift_across s r (length out) ∙ o) in
    (same, w ∙ ap (λ (x : Judged). written x (numbers_of (lifting_of (net_of s) r)) out) same ∙ ap (λ (x : Answer). written (lift_of s r (length out)) (numbers_of x) out) (sym (lift_is s r z)))

-- ---- the run played

begun_opening : (n : Net) → begun_at n (begin n) ≡ opening n
unfolding opening begun_at begin
begun_opening n = refl

module _ (s r : List ℕ) (answer : Result Ended declared.Refusal) (p : Plays (net_of s) (begin (net_of s)) r answer) where
  told : ended answer
      ≡ refused_or (too_long r) (refused_or (stuck of_table (replay (net_of s) 0 (opening (net_of s)) r)) (Ok (net_of s).conditions))
  told = p.told ∙ ap (λ (t : State). refused_or (too_long r) (refused_or (stuck of_table (replay (net_of s) 0 t r)) (Ok (net_of s).conditions))) (begun_opening (net_of s))

  -- a step that is stopped is what the lift answers
  pub lift_stopped : (room : ℕ) {x : declared.Refusal} → across_of s r (Ok 0) ≡ Ok 0
      → across_of s r (fitted (lifting_of (net_of s) r) room) ≡ fitted (lifting_of (net_of s) r) room → answer ≡ Err x → Err x ≡ lift_of s r room
  unfolding lifting
  lift_stopped room {x} z o t =
      let st = stuck of_table (replay (net_of s) 0 (opening (net_of s)) r) in
      let a = unless (again (repeated (net_of s) (own_or_earliest (net_of s)) 0 (opening (net_of s)) r)) (run (lifted (net_of s) (own_or_earliest (net_of s)) (opening (net_of s)) r)) in
      let stops = sym told ∙ ap ended t in
      sym stops ∙ links_refused (too_long r) st (net_of s).conditions (fitted a room) x stops
      ∙ ap (λ (y : Option Refusal). refused_or y (refused_or st (fitted a room))) (across_open s r z).0
      ∙ sym (fitted_link st a room) ∙ sym (lift_across s r room ∙ o)

  -- else it is a run
  pub lift_runs : (whole : Ended) → answer ≡ Ok whole → T (runs (net_of s) (begin (net_of s)) r)
  unfolding opening
  lift_runs whole t =
      let count = (net_of s).conditions in
      let goes_on = sym told ∙ ap ended t in
      let st = stuck of_table (replay (net_of s) 0 (opening (net_of s)) r) in
      not_stuck of_table (net_of s) 0 (opening (net_of s)) r (links_open (too_long r) st count whole.conditions goes_on).1

-- ---- a run lifted

lifted_long : (n : Net) (l : Lifting) (s : State) (r : List ℕ) → length (lifted n l s r) ≡ length r
unfolding lifted
lifted_long n l s [] = refl
lifted_long n l s (e ∷ r) = ap suc (lifted_long n l (step n s e) r)

module _ (n : Net) (r : List ℕ) (t : T (runs n (begin n) r)) where
  two_bytes : (slots : List Slot) (ns : List ℕ) → numbers.Settled n slots ns → TwoBytes ns r
  two_bytes slots ns g = record { long = g.long; few = λ k l. g.few (get_or r k 0) (runs_event n (begin n) r k t l) }

  pub writing : (slots later : List Slot) (ns ms : List ℕ) → numbers.Settled n slots ns → numbers.Settled n later ms → Tabled n → (room : ℕ) → length r ≤ room
      → Writing ms ns r room
  writing slots later ns ms g d limits room h =
      record {
        room_for = h;
        known = λ k l. omega (arith, runs_event n (begin n) r k t l, limits.few_events);
        first = two_bytes slots ns g;
        again = two_bytes later ms d;
      }

  module _ (w : Walked) (seen : List ℕ) (told : Walks n r w seen) where
    -- 15
    pub lift_again : (room k : ℕ) → w.repeat ≡ Some k → refused_at 15 k ≡ fitted (lifting_of n r) room
    unfolding lifting fitted opening
    lift_again room k z = rw (stuck_none of_table n 0 (opening n) r t, ← told.repeat, z)

    module _ (z : w.repeat ≡ None) where
      never : repeated n (own_or_earliest n) 0 (opening n) r ≡ none
      never = sym told.repeat ∙ ap repeat_of z

      goes : lifting_of n r ≡ run (lifted n (own_or_earliest n) (opening n) r)
      unfolding opening
      goes = run_lifting n (own_or_earliest n) 0 (opening n) r t never

      fits : (room : ℕ) → fitted (lifting_of n r) room ≡ fitting (length r) room
      unfolding fitted
      fits room = ap (λ (a : Answer). fitted a room) goes ∙ ap (λ (k : ℕ). fitting k room) (lifted_long n (own_or_earliest n) (opening n) r)

      -- 16
      pub lift_short : (room : ℕ) → room < length r → refused_at 16 (length r) ≡ fitted (lifting_of n r) room
      lift_short room h = sym (fits room ∙ fitting_short (length r) room h)

      pub lift_fits : (room : ℕ) → length r ≤ room → Ok (length r) ≡ fitted (lifting_of n r) room
      lift_fits room h = sym (fits room ∙ fitting_room (length r) room h)

      pub lift_written : (later : List Slot) → Later n w.firsts.slots later → (ns ms : List ℕ) → numbers.Settled n w.firsts.slots ns → numbers.Settled n later ms → Tabled n
          → (out out' : List ℕ) → out' ≡ numbers_for ms ns r ++ drop (length r) out → out' ≡ written (Ok (length r)) (numbers_of (lifting_of n r)) out
      lift_written later l ns ms g d limits out out' e =
          let same : numbers_of (lifting_of n r) ≡ numbers_for ms ns r = ap numbers_of goes ∙ lifted_is n r t w.firsts.slots told.firsts never limits later l ns ms g d in
          e ∙ ap (λ (k : ℕ). numbers_for ms ns r ++ drop k out) (sym (numbers_long ms ns r)) ∙ ap (λ (x : List ℕ). x ++ drop (length x) out) (sym same)

-- ---- the table that was laid out

module _ (s r : List ℕ) {a : Judged} {m : ℕ} (e : a ≡ prepared_of s (length r) (Ok (net_of s).events)) (t : a ≡ Ok m) where
  pub laid_open : (own : Judged) → across_of s r own ≡ own
  laid_open own = (across_on s (length r) (net_of s).events e r refl own t).0

  pub laid_events : m ≡ (net_of s).events
  laid_events = (across_on s (length r) (net_of s).events e r refl (Ok 0) t).1

  pub laid_judged : judge_of s ≡ Ok m
  laid_judged = let q = across_judged s (length r) (net_of s).events e t in q.1 ∙ ap Ok (events_are_all s q.0 q.1 ∙ sym laid_events)

  pub laid_few : m ≤ 256
  laid_few = omega (arith, laid_events, (tabled s m laid_judged).few_events)

pub laid_refused : (s r out : List ℕ) {a : Judged} {x : declared.Refusal} → a ≡ prepared_of s (length r) (Ok (net_of s).events) → a ≡ Err x → (a ≡ lift_of s r (length out)) × (out ≡ lifted_of s r out)
laid_refused s r out e t =
    lift_refused s r out t
    (across_passed s (length r) (net_of s).events e r refl (fitted (lifting_of (net_of s) r) (length out)) t ∙ sym (lift_across s r (length out)))

pub laid_used : {s markers users bases : List ℕ} → Laid s markers users bases → Used s users
laid_used l = record { limits = l.counted.marked.limits; flags = l.counted.marked.flags; uses = l.counted.uses }
