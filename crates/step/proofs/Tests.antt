-- A step on words is the model's: what its tests find, and what it leaves.
use Prim.Native.Nat.{ℕ, zero, suc, ◌+◌, ◌-◌, ◌≤◌, ◌<◌, zero-le}
use native.Mathlib.Decide.{dec_le}
use native.Mathlib.Nat.{lt_of_not-le, add-zero, zero-add}
use native.Mathlib.Numerals.{add-one}
use native.Mathlib.Omega.{arith}
use mathlib.Core.Path.{◌≡◌, refl, sym, ap, ap₂, ◌∙◌, fun_ext}
use mathlib.Core.Bool.{Bool, true, false, not, ◌&&◌, ◌||◌, cond, and-true, and-false}
use mathlib.Core.Option.{Option, none, some}
use mathlib.Core.List.{List}
use lib.Dec.{T, eqb}
use lib.ListN.{length, get_or}
use borrow.Author.Tests.{lt-ltb, le-ltb}
use Rattle.lists.specs.Lists.{mem, fits, failing, count}
use Rattle.lists.proofs.Bools.{is_true, is_false, T_of}
use Rattle.lists.proofs.Bools as bools
use Rattle.lists.proofs.Members.{mem_in, in_mem, count_in_lem, count_out}
use Rattle.lists.proofs.Distinct.{count_ascends}
use Rattle.lists.proofs.Tests.{fits_ascends, fits_in}
use Rattle.lists.proofs.Lowest.{led, failing_led}
use Rattle.model.specs.Net.{Net, Marking, free, lacking, contact, fire, Stop, first_stop, stopping}
use Rattle.model.specs.Lent.{marking}
use Rattle.model.proofs.Lent.{Tidy}
use Rattle.words.specs.Words.{words}
use Rattle.records.specs.Records.{old_rule, flags, pre_part, post_part}
use Rattle.held.specs.Held.{held_in, tabled}
use Rattle.held.proofs.Words.{held_past}
use Rattle.stopping.specs.Table.{Step, Cause, step_of}
use Rattle.std.specs.Prelude.{Ok, Err, None, Some, MatchOption, Option as Found}
use Rattle.std.specs.Option.{option_map}
use Rattle.stopping.specs.Causes.{goes}
use Rattle.step.specs.Steps.{Failing, failing_of, lists_net, record_net}
use Rattle.step.specs.Tests.{lowest, told_of, Listed, Recorded, Keeps, Moves}

-- ---- the lowest condition that holds, looked for from 0 on

module _ (m : Marking) where
  abbrev pub lowest_from : ℕ → ℕ → Option ℕ
  lowest_from n b = failing (λ b. not (m b)) (count b (n - b))

  pub lowest_from_lem : (n : ℕ) → lowest n m ≡ lowest_from n 0
  unfolding lowest
  lowest_from_lem n = let z : n ≡ n - 0 = omega arith in ap (λ (x : ℕ). failing (λ b. not (m b)) (count 0 x)) z

  next : (n b : ℕ) → b < n → lowest_from n b ≡ cond (not (m b)) (lowest_from n (b + 1)) (some b)
  next n b h =
      let z : n - b ≡ suc (n - (b + 1)) = omega arith in
      ap (λ (x : ℕ). failing (λ b. not (m b)) (count b x)) z
      ∙ ap (λ (x : ℕ). cond (not (m b)) (failing (λ b. not (m b)) (count x (n - (b + 1)))) (some b)) (sym (add-one b))

  pub lowest_here : (n b : ℕ) → b < n → m b ≡ true → lowest_from n b ≡ some b
  lowest_here n b h e = next n b h ∙ ap (λ (t : Bool). cond (not t) (lowest_from n (b + 1)) (some b)) e

  pub lowest_on : (n b : ℕ) → b < n → m b ≡ false → lowest_from n b ≡ lowest_from n (b + 1)
  lowest_on n b h e = next n b h ∙ ap (λ (t : Bool). cond (not t) (lowest_from n (b + 1)) (some b)) e

  pub lowest_end : (n b : ℕ) → n ≤ b → lowest_from n b ≡ none
  lowest_end n b h = ap (λ (x : ℕ). failing (λ b. not (m b)) (count b x)) z
    where
      z : n - b ≡ 0
      z = omega arith

  -- conditions that do not hold are passed over
  lowest_past : (n c b : ℕ) → b + c ≤ n → ((k : ℕ) → b ≤ k → k < b + c → m k ≡ false) → lowest_from n b ≡ lowest_from n (b + c)
  lowest_past n zero b h off = rw add-zero
  lowest_past n (suc c) b h off =
      let next : b + suc c ≡ b + 1 + c = omega arith in
      rw next
      (lowest_on n b (omega arith) (off b (omega arith) (omega arith))
      ∙ lowest_past n c (b + 1) (omega arith) (λ k low high. off k (omega arith) (omega arith)))

  -- the one that is found is the lowest, and there is none where none is found
  abbrev pub FoundBelow : ℕ → Found ℕ → Type 0
  FoundBelow n r = MatchOption r ((k : ℕ) → 0 ≤ k → k < n → m k ≡ false)
      (λ b. (0 ≤ b) × (b < n) × (m b ≡ true) × ((k : ℕ) → 0 ≤ k → k < b → m k ≡ false))

  pub lowest_found : (n : ℕ) (r : Found ℕ) → FoundBelow n r → option_map (λ b. record { 0 = b }) r ≡ failing_of (lowest n m)
  lowest_found n None off =
      let past = rw zero-add at (lowest_past n n 0 (omega arith) (λ k low high. off k low (omega arith))) in
      sym (ap failing_of (lowest_from_lem n ∙ past ∙ lowest_end n n (omega arith)))
  lowest_found n (Some b) (least, below, on, off) =
      let past = rw zero-add at (lowest_past n b 0 (omega arith) (λ k low high. off k low (omega arith))) in
      sym (ap failing_of (lowest_from_lem n ∙ past ∙ lowest_here n b below on))

  -- where nothing holds there is none
  pub lowest_none : (n : ℕ) → ((b : ℕ) → m b ≡ false) → lowest n m ≡ none
  unfolding lowest
  lowest_none n e = go 0 n
    where
      go : (k c : ℕ) → failing (λ b. not (m b)) (count k c) ≡ none
      go k zero = refl
      go k (suc c) = rw (e k) (go (suc k) c)

-- ---- the first of an ascending list is the lowest of its conditions

pub lowest_failing : (n : ℕ) (l : List ℕ) (f : ℕ → Bool) (m : Marking) → T (fits n l) → ((b : ℕ) → b < n → m b ≡ (mem b l && not (f b))) → lowest n m ≡ failing f l
unfolding lowest
lowest_failing n l f m t e =
    failing_led f l (λ b. not (m b)) (count 0 n) (λ b. b) (fits_ascends n l t) (count_ascends 0 n)
    (record {
      inside = λ b i z. in_mem (count_in_lem b 0 n zero-le (omega (arith, fits_in n l t b i)));
      fails = λ b i z. ap not (e b (fits_in n l t b i) ∙ ap₂ (λ (x y : Bool). x && not y) (is_true (mem b l) i) z);
      back = λ c i z.
          let low = count_out c 0 n (mem_in c (count 0 n) i) in
          let both = bools.and-true (mem c l) (not (f c)) (sym (e c (omega arith)) ∙ holds (m c) z) in
          (c, T_of (mem c l) both.0, fails (f c) both.1, λ d h j y. h);
    })
    ∙ same (failing f l)
  where
    holds : (t : Bool) → not t ≡ false → t ≡ true
    holds true z = refl
    holds false z = absurd (let q : ◌≡◌ {A = ℕ} 0 1 = cc in omega arith)

    fails : (t : Bool) → not t ≡ true → t ≡ false
    fails true z = absurd (let q : ◌≡◌ {A = ℕ} 0 1 = cc in omega arith)
    fails false z = refl

    same : (o : Option ℕ) → led (λ b. b) o ≡ o
    same none = refl
    same (some b) = refl

-- ---- the postconditions that are touched

module _ (pre both : Marking) (old : Bool) where
  pub touched_old : old ≡ true → both ≡ (λ b. both b && not (pre b && not old))
  touched_old e = fun_ext (λ b. sym (rw e (go (both b) (pre b))))
    where
      go : (s t : Bool) → (s && not (t && false)) ≡ s
      go s true = and-true s
      go s false = and-true s

  pub touched_new : (m : Marking) → m ≡ (λ b. both b && not (pre b)) → old ≡ false → m ≡ (λ b. both b && not (pre b && not old))
  touched_new m is e = is ∙ fun_ext (λ b. sym (rw e (ap (λ (t : Bool). both b && not t) (and-true (pre b)))))

-- ---- what stops an event with two lists

-- what is told of the two that are found is what stops the step
pub told_stop : (o p : Option ℕ) → told_of (failing_of o) (failing_of p) ≡ step_of (first_stop true o p)
told_stop (some b) p = refl
told_stop none (some b) = refl
told_stop none none = refl

module _ (s p q : List ℕ) (listed : Listed p q) where
  abbrev pre : List ℕ
  pre = words p

  abbrev post : List ℕ
  post = words q

  module _ (m : Marking) where
    abbrev pub lacked : Marking
    lacked = λ b. tabled (λ b. mem b pre) b && not (m b)

    abbrev pub touching : Marking
    touching = λ b. (tabled (λ b. mem b post) b && m b) && not (tabled (λ b. mem b pre) b && not (old_rule s))

    abbrev pub met : Marking
    met = λ b. touching b && not (tabled (marking (flags s)) b)

    pub told_lists : told_of (failing_of (lowest 256 lacked)) (failing_of (lowest 256 met)) ≡ step_of (stopping (lists_net s p q) m 0)
    unfolding stopping lacking contact free lists_net marking
    told_lists =
        told_stop (lowest 256 lacked) (lowest 256 met)
        ∙ ap₂ (λ (o p : Option ℕ). step_of (first_stop true o p))
        (lowest_failing 256 pre m lacked listed.pre_fits (λ b h. rw (lt-ltb b 256 h) refl))
        (lowest_failing 256 post clear met listed.post_fits (λ b h.
        rw (lt-ltb b 256 h) (same (mem b post) (m b) (eqb (get_or (flags s) b 0) 1) (mem b pre) (old_rule s))))
      where
        clear : ℕ → Bool
        clear = λ b. not (m b) || (eqb (get_or (flags s) b 0) 1 || mem b pre && not (old_rule s))

        same : (z t k a o : Bool) → (((z && t) && not (a && not o)) && not k) ≡ (z && not (not t || (k || a && not o)))
        same false t k a o = refl
        same true false k a o = refl
        same true true true a o = and-false (not (a && not o))
        same true true false a o = and-true (not (a && not o))

  -- what firing leaves
  pub fires_lists : (m : Marking) → Tidy 256 m
      → (λ b. tabled (λ b. mem b post) b || m b && not (tabled (λ b. mem b pre) b && not (tabled (marking (flags s)) b))) ≡ fire (lists_net s p q) m 0
  unfolding fire lists_net marking
  fires_lists m tidy = fun_ext (λ b. go b (dec_le 256 b))
    where
      fired : (z t a k : Bool) → (z || t && not (a && not k)) ≡ (z || t && (k || not a))
      fired true t a k = refl
      fired false false a k = refl
      fired false true true true = refl
      fired false true true false = refl
      fired false true false true = refl
      fired false true false false = refl

      go : (b : ℕ) → Dec (256 ≤ b)
          → (tabled (λ b. mem b post) b || m b && not (tabled (λ b. mem b pre) b && not (tabled (marking (flags s)) b)))
          ≡ (mem b post || m b && (eqb (get_or (flags s) b 0) 1 || not (mem b pre)))
      go b (yes h) =
          let out : mem b post ≡ false = is_false (mem b post) (λ i. omega (arith, fits_in 256 post listed.post_fits b i)) in
          rw (tidy b h, out, le-ltb b 256 h) refl
      go b (no h) = rw (lt-ltb b 256 (lt_of_not-le h)) (fired (mem b post) (m b) (mem b pre) (eqb (get_or (flags s) b 0) 1))

-- ---- an event tested and fired on words

module _ (s p q : List ℕ) (listed : Listed p q) (pre post held : List ℕ) (old : Bool) (is_pre : held_in pre ≡ tabled (λ b. mem b (words p)))
    (is_post : held_in post ≡ tabled (λ b. mem b (words q))) (is_old : old ≡ old_rule s) (touched : List ℕ)
    (is_touched : held_in touched ≡ (λ b. (held_in post b && held_in held b) && not (held_in pre b && not old))) where
  lacked_is : (missing : Marking) → missing ≡ (λ b. held_in pre b && not (held_in held b)) → missing ≡ lacked s p q listed (held_in held)
  lacked_is missing is = is ∙ rw is_pre

  touched_is : held_in touched ≡ touching s p q listed (held_in held)
  touched_is = is_touched ∙ rw (is_pre, is_post, is_old)

  -- the step's answer by the two that are found
  pub tested : (r : Step) (x y : Failing) → r ≡ told_of x y → (missing : Marking) → missing ≡ (λ b. held_in pre b && not (held_in held b)) → x ≡ failing_of (lowest 256 missing)
      → (meeting : Marking) → meeting ≡ (λ b. held_in touched b && not (tabled (marking (flags s)) b)) → y ≡ failing_of (lowest 256 meeting)
      → r ≡ step_of (stopping (lists_net s p q) (held_in held) 0)
  tested r x y told missing is_missing is_x meeting is_meeting is_y =
      told
      ∙ ap₂ told_of (is_x ∙ ap (λ (v : Marking). failing_of (lowest 256 v)) (lacked_is missing is_missing))
      (is_y ∙ ap (λ (v : Marking). failing_of (lowest 256 v)) (is_meeting ∙ ap {B = Marking} (λ (v : Marking) (b : ℕ). v b && not (tabled (marking (flags s)) b)) touched_is))
      ∙ told_lists s p q listed (held_in held)

  -- what firing leaves
  pub fired : length held ≡ 4 → (kept taken left new : List ℕ) → Keeps s kept → held_in taken ≡ (λ b. held_in pre b && not (held_in kept b))
      → held_in left ≡ (λ b. held_in held b && not (held_in taken b)) → held_in new ≡ (λ b. held_in post b || held_in left b)
      → held_in new ≡ fire (lists_net s p q) (held_in held) 0
  fired four kept taken left new keeps is_taken is_left is_new =
      is_new
      ∙ ap {B = Marking} (λ (v : Marking) (b : ℕ). held_in post b || v b) (is_left ∙ ap {B = Marking} (λ (v : Marking) (b : ℕ). held_in held b && not (v b)) is_taken)
      ∙ rw (is_pre, is_post, keeps) (fires_lists s p q listed (held_in held) (λ b h. held_past held b (omega (arith, four))))

-- ---- the record at an offset, by its two lists

module _ (s : List ℕ) (at : ℕ) (p q : List ℕ) (is_p : p ≡ pre_part s at) (is_q : q ≡ post_part s at) where
  pub record_listed : Recorded s at → Listed p q
  record_listed h = rw (is_p, is_q) h

  pub record_is : lists_net s p q ≡ record_net s at
  unfolding record_net
  record_is = rw (is_p, is_q)

  pub record_told : (m : Marking) (r : Step) → r ≡ step_of (stopping (lists_net s p q) m 0) → r ≡ step_of (stopping (record_net s at) m 0)
  record_told m r e = e ∙ ap (λ (n : Net). step_of (stopping n m 0)) record_is

-- what a step leaves, by its answer
module _ (n : Net) (m : Marking) (r : Step) (told : r ≡ step_of (stopping n m 0)) where
  pub move_stops : (x : Cause) → r ≡ Err x → Moves (stopping n m 0) (fire n m 0) (Err x)
  move_stops x e = go (stopping n m 0) (sym told ∙ e)
    where
      go : (o : Option Stop) → step_of o ≡ Err x → Moves o (fire n m 0) (Err x)
      go none e = absurd (let z : ◌≡◌ {A = ℕ} 0 1 = cc in omega arith)
      go (some v) e = cc

  pub move_goes : r ≡ goes → (held : List ℕ) → held_in held ≡ fire n m 0 → Moves (stopping n m 0) (fire n m 0) (Ok held)
  move_goes e held h = go (stopping n m 0) (sym told ∙ e)
    where
      go : (o : Option Stop) → step_of o ≡ goes → Moves o (fire n m 0) (Ok held)
      go none e = h
      go (some v) e = absurd (let z : ◌≡◌ {A = ℕ} 0 1 = cc in omega arith)
