-- The rule of lifting keeps the laws, and its first repeat is the first second occurrence of an event that marks for another.
use mathlib.Core.Path.{◌≡◌, refl, sym, ◌∙◌, ap, ap₂, subst}
use mathlib.Core.Bool.{Bool, true, false, not, ◌&&◌, cond}
use mathlib.Core.Logic.{◌↔◌}
use mathlib.Core.Option.{Option, none, some}
use mathlib.Core.List.{List}
use Prim.Native.Nat.{ℕ}
use lib.Dec.{T, eqb, eqb→eq, T_not, eqb_refl}
use native.Mathlib.Omega.{arith}
use Rattle.lists.specs.Lists.{mem, any, ◌∈◌}
use Rattle.lists.proofs.Bools.{is_true, T_of, not-true, and_left, and_right, and_both, or_none}
use Rattle.lists.proofs.Members.{in_mem, mem_in, keep_out}
use Rattle.lists.proofs.Tests.{any_in, any_out}
use Rattle.model.specs.Net.{Net, can}
use Rattle.model.specs.Runs.{Marker, by_event, State, opening, after}
use Rattle.model.specs.Unfolding.{users, reads}
use Rattle.model.specs.Across.{or_start, marks_for_others, own_or_earliest, repeated}
use Rattle.model.specs.Readings.{ForAnother, Again, FirstAgain}
use Rattle.model.proofs.Firing.{can_concession, pre_holds}
use Rattle.model.proofs.Laws.{marked, First, Reached, Lawful, Plain}
use Rattle.model.proofs.Copies.{seen_after}
use Rattle.model.proofs.Repeats.{Repeat, repeated_first, first_repeated, none_repeats}

-- ---- marking for another

module _ (n : Net) (e : ℕ) where
  -- a user of a condition is another event than this one
  abbrev others : ℕ → Bool
  others b = any (λ u. not (eqb u e)) (users n b)

  pub for_another : T (marks_for_others n e) → ForAnother n e
  unfolding marks_for_others
  for_another t =
      let x = any_out (λ b. n.persistent b && others b) (n.postconditions e) t in
      let b : ℕ = x.0 in
      let y = any_out (λ u. not (eqb u e)) (users n b) (and_right (n.persistent b) (others b) x.2) in
      record {
        condition = b;
        user = y.0;
        marks = x.1;
        persists = and_left (n.persistent b) (others b) x.2;
        uses = mem_in y.0 (users n b) y.1;
        other = λ q. T_not (eqb y.0 e) y.2 (subst (λ (z : ℕ). T (eqb y.0 z)) q (eqb_refl y.0));
      }

  pub another_for : ForAnother n e → T (marks_for_others n e)
  unfolding marks_for_others
  another_for f =
      let b = f.condition in
      any_in (λ b. n.persistent b && others b) (n.postconditions e) b f.marks
      (and_both (n.persistent b) (others b) f.persists (any_in (λ u. not (eqb u e)) (users n b) f.user (in_mem f.uses) (differs (eqb f.user e) refl)))
    where
      differs : (t : Bool) → eqb f.user e ≡ t → T (not (eqb f.user e))
      differs true q = absurd (f.other (eqb→eq f.user e (T_of (eqb f.user e) q)))
      differs false q = rw q tt

-- ---- the laws

-- the first marker of what is read is there
first_marked : (n : Net) (s : State) → Reached n s → (e : ℕ) → T (can n s.marking e) → (b : ℕ) → b ∈ reads n e → T (marked n s (or_start (s.first b)) b)
unfolding reads
first_marked n s i e c b h =
    let q = keep_out n.persistent (n.preconditions e) h in
    go (s.first b) (i.first b (is_true (n.persistent b) q.1)) (pre_holds n s.marking e (can_concession n s.marking e c) b (in_mem q.0))
  where
    go : (x : Option Marker) → First n s b x → T (s.marking b) → T (marked n s (or_start x) b)
    go none q t = absurd (not-true (s.marking b) q t)
    go (some k) q t = q.1

pub own_lawful : (n : Net) → Lawful n (own_or_earliest n)
unfolding own_or_earliest marked
own_lawful n = record { picks_marked = picks; own_user = alone }
  where
    picks : (s : State) → Reached n s → (e : ℕ) → T (can n s.marking e) → (b : ℕ) → b ∈ reads n e → T (marked n s ((own_or_earliest n).pick s e b) b)
    picks s i e c b h = go (s.seen e && mem b (n.postconditions e)) refl
      where
        go : (x : Bool) → s.seen e && mem b (n.postconditions e) ≡ x → T (marked n s (cond x (by_event e) (or_start (s.first b))) b)
        go true q = T_of (s.seen e && mem b (n.postconditions e)) q
        go false q = first_marked n s i e c b h

    same : (v e : ℕ) (t : Bool) → eqb v e ≡ t → ((v ≡ e → ⊥) → ⊥) → v ≡ e
    same v e true q f = eqb→eq v e (T_of (eqb v e) q)
    same v e false q f = absurd (f (λ z. not-true (eqb v e) q (subst (λ (x : ℕ). T (eqb v x)) z (eqb_refl v))))

    alone : (s : State) (e : ℕ) → (own_or_earliest n).repeats s e ≡ false → T (s.seen e) → (b : ℕ) → n.persistent b ≡ true → T (mem b (n.postconditions e))
        → (v : ℕ) → v ∈ users n b → (v ≡ e) × ((own_or_earliest n).pick s e b ≡ by_event e)
    alone s e o t b p h v u = (
      same v e (eqb v e) refl (λ d.
          not-true (marks_for_others n e && s.seen e) o
          (and_both (marks_for_others n e) (s.seen e)
          (another_for n e (record { condition = b; user = v; marks = h; persists = T_of (n.persistent b) p; uses = u; other = d })) t)),
      rw (is_true (s.seen e) t, is_true (mem b (n.postconditions e)) h),
    )

pub own_plain : (n : Net) → Plain n (own_or_earliest n)
unfolding own_or_earliest
own_plain n =
    record {
      pick_from = λ s t e b h q. ap₂ {C = Marker} (λ x y. cond (x && mem b (n.postconditions e)) (by_event e) (or_start y)) q h;
      repeats_from = λ s t e q. ap (λ (x : Bool). marks_for_others n e && x) q;
    }

-- ---- the first repeat is the first second occurrence

module _ (n : Net) where
  -- a repeat is an event that marks for others and came before
  own_repeat : (p : List ℕ) (e : ℕ) → (own_or_earliest n).repeats (after n (opening n) p) e ≡ (marks_for_others n e && mem e p)
  unfolding own_or_earliest opening
  own_repeat p e = ap (λ (x : Bool). marks_for_others n e && x) (seen_after n (opening n) p e ∙ or_none (mem e p))

  came_again : (p : List ℕ) (e : ℕ) → ForAnother n e → T (mem e p) → (own_or_earliest n).repeats (after n (opening n) p) e ≡ true
  came_again p e f t = own_repeat p e ∙ is_true (marks_for_others n e && mem e p) (and_both (marks_for_others n e) (mem e p) (another_for n e f) t)

  -- where none is told, nothing comes again
  pub none_again : (r : List ℕ) → repeated n (own_or_earliest n) 0 (opening n) r ≡ none → (i : ℕ) → Again n r i → ⊥
  none_again r o i a =
      not-true ((own_or_earliest n).repeats (after n (opening n) a.before) a.event)
      (none_repeats n (own_or_earliest n) 0 (opening n) a.before a.event a.rest (subst (λ (x : List ℕ). repeated n (own_or_earliest n) 0 (opening n) x ≡ none) a.splits o))
      (T_of ((own_or_earliest n).repeats (after n (opening n) a.before) a.event) (came_again a.before a.event a.marking a.earlier))

  repeat_again : (r : List ℕ) (i : ℕ) → Repeat n (own_or_earliest n) 0 (opening n) r i → Again n r i
  repeat_again r i p =
      let twice = T_of (marks_for_others n p.event && mem p.event p.before) (sym (own_repeat p.before p.event) ∙ p.repeat) in
      record {
        before = p.before;
        event = p.event;
        rest = p.rest;
        splits = p.splits;
        place = omega (arith, p.place);
        marking = for_another n p.event (and_left (marks_for_others n p.event) (mem p.event p.before) twice);
        earlier = and_right (marks_for_others n p.event) (mem p.event p.before) twice;
      }

  -- where nothing comes again, none is told
  pub again_none : (r : List ℕ) → ((i : ℕ) → Again n r i → ⊥) → repeated n (own_or_earliest n) 0 (opening n) r ≡ none
  again_none r h = go (repeated n (own_or_earliest n) 0 (opening n) r) refl
    where
      go : (o : Option ℕ) → repeated n (own_or_earliest n) 0 (opening n) r ≡ o → o ≡ none
      go none q = refl
      go (some i) q = absurd (h i (repeat_again r i (repeated_first n (own_or_earliest n) 0 (opening n) r i q)))

  pub repeated_exactly : (r : List ℕ) (i : ℕ) → (repeated n (own_or_earliest n) 0 (opening n) r ≡ some i) ↔ FirstAgain n r i
  unfolding repeat_again
  repeated_exactly r i = (
    λ h. let p = repeated_first n (own_or_earliest n) 0 (opening n) r i h in record { here = repeat_again r i p; first = none_again p.before p.first },
    λ f.
        let a = f.here in
        first_repeated n (own_or_earliest n) 0 (opening n) r i
        (record {
          before = a.before;
          event = a.event;
          rest = a.rest;
          splits = a.splits;
          place = omega (arith, a.place);
          repeat = came_again a.before a.event a.marking a.earlier;
          first = again_none a.before f.first;
        }),
  )
