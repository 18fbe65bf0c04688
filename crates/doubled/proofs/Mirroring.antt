-- The tokens at first mirror the start, and one step of the doubled net is one step of its net.
use mathlib.Core.Path.{◌≡◌, refl, sym, ◌∙◌, ap, subst}
use mathlib.Core.Bool.{Bool, true, false, not, ◌&&◌, ◌||◌}
use mathlib.Core.List.Memᴰ
use mathlib.Core.List.{List, map}
use Prim.Native.Nat.{ℕ, ◌+◌, ◌-◌, ◌<◌, zero-le}
use lib.Dec.{T, leb, ltb, ltb→lt}
use native.Mathlib.Omega.{arith}
use Rattle.lists.specs.Lists.{mem, all, ascending, ◌⇒◌, count, ◌∈◌}
use Rattle.lists.proofs.Bools.{is_true, not_out, not_in, not_not, iff, and_left, and_right, and_both, or_left, or_right, or_cases, imp_elim, imp_intro}
use Rattle.lists.proofs.Members.{mem_in, in_mem, mem_append, count_in_lem}
use Rattle.lists.proofs.Tests.{all_at, all_of}
use Rattle.model.specs.Net.{Net, Sound, Marking, begin, free, concession, can, fire}
use Rattle.model.proofs.Firing.{can_event, can_concession, pre_holds, unblocked, concession_intro}
use Rattle.doubled.specs.Plain.{Tokens, times, initially, enabled, moved}
use Rattle.doubled.specs.Doubling.{without, excusing, second, doubled, token, Mirrors, StepsAlike}
use Rattle.lists.proofs.Distinct.{count_ascends}
use Rattle.doubled.proofs.Counting.{without_ascends, mem_without, mem_unexcused, first_times, second_times}

-- ---- one token or none

-- a token suffices where one is asked for
token_enough : (a z : Bool) → leb (token a) (token z) ≡ (a ⇒ z)
token_enough true true = refl
token_enough true false = refl
token_enough false true = refl
token_enough false false = refl

-- what a step leaves on the two places of a condition: a tells whether it is a precondition, z whether a postcondition, h whether it holds
first_after : (a z h : Bool) → (T a → T h) → (T z → T h → T a) → (token h - token a) + token z ≡ token (z || h && not a)
first_after true true true f g = refl
first_after true true false f g = absurd (f tt)
first_after true false true f g = refl
first_after true false false f g = absurd (f tt)
first_after false true true f g = absurd (g tt tt)
first_after false true false f g = refl
first_after false false true f g = refl
first_after false false false f g = refl

-- and o whether it is under the old rule, by which a postcondition that holds has no excuse
second_after : (a z o h : Bool) → (T a → T h) → (T z → T h → T (a && not o))
    → (token (not h) - token (z && not (a && not o))) + token (a && not (z && not o)) ≡ token (not (z || h && not a))
second_after true true true true f g = absurd (g tt tt)
second_after true true false true f g = refl
second_after true true o false f g = absurd (f tt)
second_after true false o true f g = refl
second_after true false o false f g = absurd (f tt)
second_after false true o true f g = absurd (g tt tt)
second_after false true o false f g = refl
second_after false false o true f g = refl
second_after false false o false f g = refl

-- ---- the start

-- The tokens at first mirror the marking at the start.
pub begins_mirrored : (n : Net) → Sound n → Mirrors n (begin n) (initially (doubled n))
unfolding begin initially doubled
begins_mirrored n s =
    record {
      first_place = λ b h. first_times n n.start lacking s.start_ascends b h;
      second_place = λ b h. second_times n n.start lacking s.start_in ascends b ∙ ap token (lacked b h);
    }
  where
    conditions : List ℕ
    conditions = count 0 n.conditions

    lacking : List ℕ
    lacking = without conditions n.start

    ascends : T (ascending lacking)
    ascends = without_ascends conditions n.start (count_ascends 0 n.conditions)

    lacked : (b : ℕ) → b < n.conditions → mem b lacking ≡ not (mem b n.start)
    lacked b h =
        mem_without b conditions n.start
        ∙ ap (λ (x : Bool). x && not (mem b n.start)) (is_true (mem b conditions) (in_mem (count_in_lem b 0 n.conditions zero-le (omega arith))))

-- ---- one step

-- what is asked of a place: a token for each arc from it
abbrev asked : Net → Tokens → ℕ → ℕ → Bool
asked n k e x = leb (times x ((doubled n).inputs e)) (k x)

module _ (n : Net) (s : Sound n) (o : (b : ℕ) → n.persistent b ≡ false) (m : Marking) (k : Tokens) (q : Mirrors n m k) (e : ℕ) (h : e < n.events) where
  abbrev pre : List ℕ
  pre = n.preconditions e

  abbrev post : List ℕ
  post = n.postconditions e

  -- a condition is excused from contact: it is a precondition, and not under the old rule
  abbrev excused : ℕ → Bool
  excused b = mem b pre && not (n.old b)

  free_excused : (b : ℕ) → free n e b ≡ excused b
  unfolding free
  free_excused b = rw (o b)

  -- the conditions whose second place is taken, and those whose second place is put
  abbrev filled : List ℕ
  filled = without post (excusing n pre)

  abbrev emptied : List ℕ
  emptied = without pre (excusing n post)

  -- the arcs from and to the two places of a condition
  taken_first : (b : ℕ) → b < n.conditions → times b ((doubled n).inputs e) ≡ token (mem b pre)
  unfolding doubled
  taken_first b l = first_times n pre filled (s.pre_ascends_lem e h) b l

  taken_second : (b : ℕ) → times (second n b) ((doubled n).inputs e) ≡ token (mem b post && not (excused b))
  unfolding doubled
  taken_second b =
      second_times n pre filled (λ b. s.pre_in e b h) (without_ascends post (excusing n pre) (s.post_ascends_lem e h)) b ∙ ap token (mem_unexcused n b post pre)

  put_first : (b : ℕ) → b < n.conditions → times b ((doubled n).outputs e) ≡ token (mem b post)
  unfolding doubled
  put_first b l = first_times n post emptied (s.post_ascends_lem e h) b l

  put_second : (b : ℕ) → times (second n b) ((doubled n).outputs e) ≡ token (mem b pre && not (mem b post && not (n.old b)))
  unfolding doubled
  put_second b =
      second_times n post emptied (λ b. s.post_in e b h) (without_ascends pre (excusing n post) (s.pre_ascends_lem e h)) b ∙ ap token (mem_unexcused n b pre post)

  -- ---- enabled exactly if it can fire

  first_asked : (b : ℕ) → b < n.conditions → asked n k e b ≡ (mem b pre ⇒ m b)
  first_asked b l = rw (taken_first b l, q.first_place b l) (token_enough (mem b pre) (m b))

  second_asked : (b : ℕ) → b < n.conditions → asked n k e (second n b) ≡ ((mem b post && not (excused b)) ⇒ not (m b))
  second_asked b l = rw (taken_second b, q.second_place b l) (token_enough (mem b post && not (excused b)) (not (m b)))

  abbrev seconds : List ℕ
  seconds = map (second n) filled

  in_inputs : (x : ℕ) → mem x ((doubled n).inputs e) ≡ (mem x pre || mem x seconds)
  unfolding doubled
  in_inputs x = mem_append x pre seconds

  conceded : T (all (asked n k e) ((doubled n).inputs e)) → T (concession n m e)
  conceded t =
      concession_intro n m e
      (λ b i. imp_elim (mem b pre) (m b) (subst T (first_asked b (s.pre_in e b h i)) (at b (or_left (mem b pre) (mem b seconds) i))) i)
      (λ b i p held. subst T (sym (free_excused b)) (not_not (excused b) (λ f. not_out (m b) (clear b i f) held)))
    where
      at : (x : ℕ) → T (mem x pre || mem x seconds) → T (asked n k e x)
      at x i = all_at (asked n k e) ((doubled n).inputs e) t x (subst T (sym (in_inputs x)) i)

      -- a postcondition that is not excused does not hold
      clear : (b : ℕ) → T (mem b post) → (T (excused b) → ⊥) → T (not (m b))
      clear b i f =
          let j = and_both (mem b post) (not (excused b)) i (not_in (excused b) f) in
          let there = in_mem (Memᴰ.map (second n) (mem_in b filled (subst T (sym (mem_unexcused n b post pre)) j))) in
          imp_elim (mem b post && not (excused b)) (not (m b))
          (subst T (second_asked b (s.post_in e b h i)) (at (second n b) (or_right (mem (second n b) pre) (mem (second n b) seconds) there))) j

  -- a postcondition that holds is excused
  meets : T (concession n m e) → (b : ℕ) → T (mem b post) → T (m b) → T (excused b)
  meets t b i held = subst T (free_excused b) (unblocked n m e t b i held)

  supplied : T (concession n m e) → T (all (asked n k e) ((doubled n).inputs e))
  supplied t =
      all_of (asked n k e) ((doubled n).inputs e)
      (λ x i. or_cases (mem x pre) (mem x seconds) (subst T (in_inputs x) i) (first x) (λ j. second_of x (Memᴰ.of_map (second n) filled (mem_in x seconds j))))
    where
      first : (x : ℕ) → T (mem x pre) → T (asked n k e x)
      first x i = subst T (sym (first_asked x (s.pre_in e x h i))) (imp_intro (mem x pre) (m x) (λ j. pre_holds n m e t x j))

      empty : (b : ℕ) → T (mem b post && not (excused b)) → T (not (m b))
      empty b i =
          not_in (m b) (λ held. not_out (excused b) (and_right (mem b post) (not (excused b)) i)
          (meets t b (and_left (mem b post) (not (excused b)) i) held))

      second_of : (x : ℕ) → (b : ℕ) × (b ∈ filled) × (second n b ≡ x) → T (asked n k e x)
      second_of x r =
          let b = r.0 in
          let i = subst T (mem_unexcused n b post pre) (in_mem r.1) in
          subst (λ (x : ℕ). T (asked n k e x)) r.2
          (subst T (sym (second_asked b (s.post_in e b h (and_left (mem b post) (not (excused b)) i)))) (imp_intro (mem b post && not (excused b)) (not (m b)) (empty b)))

  -- ---- the mirror is kept

  kept : T (concession n m e) → Mirrors n (fire n m e) (moved (doubled n) k e)
  unfolding fire moved
  kept t =
      record {
        first_place = λ b l. rw (taken_first b l, put_first b l, q.first_place b l, o b) (first_after (mem b pre) (mem b post) (m b) (pre_holds n m e t b) (taken b));
        second_place = λ b l.
            rw (taken_second b, put_second b, q.second_place b l, o b)
            (second_after (mem b pre) (mem b post) (n.old b) (m b) (pre_holds n m e t b) (meets t b));
      }
    where
      taken : (b : ℕ) → T (mem b post) → T (m b) → T (mem b pre)
      taken b i held = and_left (mem b pre) (not (n.old b)) (meets t b i held)

-- A step of the doubled net is a step of its net, and after it the tokens still mirror the marking.
pub steps_alike : (n : Net) → Sound n → ((b : ℕ) → n.persistent b ≡ false) → (m : Marking) (k : Tokens) → Mirrors n m k → (e : ℕ) → StepsAlike n m k e
unfolding enabled can doubled
steps_alike n s o m k q e =
    record {
      both = iff (event && supply) (event && concession n m e)
          (λ t. and_both event (concession n m e) (and_left event supply t) (conceded n s o m k q e (below (and_left event supply t)) (and_right event supply t)))
          (λ t. and_both event supply (can_event n m e t) (supplied n s o m k q e (below (can_event n m e t)) (can_concession n m e t)));
      after = λ t. kept n s o m k q e (below (can_event n m e t)) (can_concession n m e t);
    }
  where
    event : Bool
    event = ltb e n.events

    supply : Bool
    supply = all (asked n k e) ((doubled n).inputs e)

    below : T event → e < n.events
    below t = ltb→lt e n.events t
