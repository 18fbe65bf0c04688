-- What stands behind an unfolded condition's number, by the condition that the number falls to.
use Prim.Native.Nat.{ℕ, ◌+◌, ◌*◌, ◌-◌, ◌/◌, ◌%◌, ◌≤◌, ◌<◌}
use native.Mathlib.Omega.{arith}
use native.Mathlib.Numerals.{add-one}
use native.Mathlib.Nat.{div-lt_iff_lt-mul}
use mathlib.Core.Path.{◌≡◌, refl, sym, ap, ◌∙◌, subst}
use mathlib.Core.Bool.{Bool, true, false}
use mathlib.Core.Option.{some}
use mathlib.Core.List.{List}
use lib.Dec.{ltb}
use lib.ListN.{length, get_or, get_elem?}
use borrow.Author.Tests.{lt-ltb, le-ltb}
use Rattle.lists.specs.Lists.{mem, sum}
use Rattle.lists.proofs.Places.{at_lt, at_get_d}
use Rattle.lists.proofs.Products.{some_length}
use Rattle.model.specs.Runs.{at_start}
use Rattle.model.specs.Unfolding.{UnfoldedCondition, ordinary, copy, markers, users, unfolded_conditions, basic}
use Rattle.model.specs.Numbering.{width, condition_count}
use Rattle.model.proofs.Counts.{count_conditions, ordinary_from, copy_from}
use Rattle.refusal.specs.declared.Refusal.{Refusal}
use Rattle.refusal.specs.declared.Marker as declared
use Rattle.refusal.specs.Answer.{Judged, refused_at, need}
use Rattle.std.specs.Prelude.{Result, Ok, Err}
use Rattle.refusal.proofs.Chain.{need_passes, need_refuses}
use Rattle.table.specs.Decoded.{net_of}
use Rattle.table.proofs.Decoded.{conditions_are_all}
use Rattle.tally.specs.Having.{list_of, having}
use Rattle.layout.specs.Laid.{Sums, Laid}
use Rattle.layout.specs.Unfolds.{unfolding_of}
use Rattle.colours.specs.Colours.{flagged}
use Rattle.layout.proofs.Counts.{uses_at}
use Rattle.layout.proofs.Limits.{unfolds_passed, unfolds_on, unfolds_judged}
use Rattle.unfolding.proofs.Places.{kept_below}
use Rattle.records.specs.Records.{conditions}
use Rattle.unfolding.specs.Markers.{shown}
use Rattle.conditions.specs.declared.ConditionOrigin.{ConditionOrigin}
use Rattle.conditions.specs.declared.ConditionOrigin.TheVariants as show
use Rattle.conditions.specs.Origins.{condition_at, condition_judged, told, told_if, condition_origin_of}
use Rattle.conditions.specs.Owners.{Owns}

-- ---- the condition that a number falls to

module _ (f : ℕ → ℕ) (c : ℕ) (bases : List ℕ) (t : Sums f c bases) (b : ℕ) (h : b < c) where
  pub next_base : get_or bases (b + 1) 0 ≡ sum f b + f b
  next_base = t.at (b + 1) (omega arith) ∙ ap (λ (x : ℕ). sum f x) (add-one b)

pub next_sum : (f : ℕ → ℕ) (b i : ℕ) → sum f b + f b ≤ i → sum f (b + 1) ≤ i
next_sum f b i h = rw add-one h

-- ---- what is told

module _ (s : List ℕ) (i : ℕ) where
  pub told_refused : {r : Judged} {x : Refusal} → r ≡ condition_judged s i → r ≡ Err x → Err x ≡ condition_origin_of s i
  unfolding condition_origin_of
  told_refused e t = sym (ap (λ (a : Judged). told_if a (condition_at (net_of s) i)) (sym e ∙ t))

  module _ (u : (own : Judged) → unfolding_of s own ≡ own) where
    pub told_past : condition_count (net_of s) ≤ i → refused_at 10 0 ≡ condition_origin_of s i
    unfolding condition_judged basic
    told_past h =
        told_refused (sym (u _ ∙ need_refuses 10 0 (Ok i) (le-ltb i (length (unfolded_conditions (net_of s))) (omega (arith, count_conditions (net_of s)))))) refl

    -- what stands at the number
    told_at : (p : UnfoldedCondition) → get_elem? (unfolded_conditions (net_of s)) i ≡ some p → Ok (told p) ≡ condition_origin_of s i
    unfolding condition_origin_of condition_judged condition_at basic
    told_at p h =
        let low = lt-ltb i (length (unfolded_conditions (net_of s))) (at_lt (unfolded_conditions (net_of s)) i h) in
        let q : condition_judged s i ≡ Ok i = u _ ∙ need_passes 10 0 low in
        sym (ap (λ (a : Judged). told_if a (condition_at (net_of s) i)) q ∙ ap {B = Result ConditionOrigin Refusal} (λ (x : UnfoldedCondition). Ok (told x)) (at_get_d (unfolded_conditions (net_of s)) i (ordinary 0) h))

    module _ (b : ℕ) (h : b < (net_of s).conditions) (low : sum (width (net_of s)) b ≤ i) (high : i < sum (width (net_of s)) b + width (net_of s) b) where
      pub told_ordinary : (net_of s).persistent b ≡ false → Ok (show.Ordinary (record { 0 = b })) ≡ condition_origin_of s i
      unfolding width
      told_ordinary p =
          let one : width (net_of s) b ≡ 1 = rw p in
          let z : sum (width (net_of s)) b ≡ i = omega arith in
          told_at (ordinary b) (ap (λ (k : ℕ). get_elem? (unfolded_conditions (net_of s)) k) (sym z) ∙ ordinary_from (net_of s) b h p)

      module _ (p : (net_of s).persistent b ≡ true) where
        whole : width (net_of s) b ≡ length (markers (net_of s) b) * length (users (net_of s) b)
        unfolding width
        whole = rw p

        pub rest_low : i - sum (width (net_of s)) b < length (markers (net_of s) b) * length (users (net_of s) b)
        rest_low = omega (arith, whole)

        pub some_user : 0 < length (users (net_of s) b)
        some_user = some_length (length (markers (net_of s) b)) (length (users (net_of s) b)) (i - sum (width (net_of s)) b) rest_low

        pub place_low : (i - sum (width (net_of s)) b) / length (users (net_of s) b) < length (markers (net_of s) b)
        place_low = (div-lt_iff_lt-mul some_user).1 rest_low

        pub told_copy : (m : declared.Marker) → m ≡ shown (get_or (markers (net_of s) b) ((i - sum (width (net_of s)) b) / length (users (net_of s) b)) at_start)
            → (k v : ℕ) → k ≡ (net_of s).events → v ≡ get_or (having (net_of s) false b k) ((i - sum (width (net_of s)) b) % length (users (net_of s) b)) 0
            → Ok (show.Copy (record { 0 = b }) m (record { 0 = v })) ≡ condition_origin_of s i
        unfolding users
        told_copy m e k v q w =
            let r = i - sum (width (net_of s)) b in
            let z : sum (width (net_of s)) b + r ≡ i = omega arith in
            let l = length (users (net_of s) b) in
            let x = get_or (users (net_of s) b) (r % l) 0 in
            let y = get_or (markers (net_of s) b) (r / l) at_start in
            let v_is : v ≡ x = w ∙ ap (λ (k : ℕ). get_or (having (net_of s) false b k) (r % l) 0) q in
            rw (e, v_is) (told_at (copy b y x) (ap (λ (k : ℕ). get_elem? (unfolded_conditions (net_of s)) k) (sym z) ∙ copy_from (net_of s) b r h p rest_low))

-- ---- the same once the table is laid out

pub laid_refused : (s : List ℕ) (i : ℕ) {r : Judged} {x : Refusal} → r ≡ unfolding_of s (Ok (net_of s).events) → r ≡ Err x → Err x ≡ condition_origin_of s i
unfolding condition_judged
laid_refused s i e t = told_refused s i (unfolds_passed s (need (ltb i (basic (net_of s)).conditions) 10 0 (Ok i)) (net_of s).events e t) t

module _ (s ms us bases : List ℕ) (l : Laid s ms us bases) {r : Judged} (e : r ≡ unfolding_of s (Ok (net_of s).events)) {k : ℕ} (t : r ≡ Ok k) (w : ℕ) (q : w ≡ conditions s) where
  on : (own : Judged) → unfolding_of s own ≡ own
  on own = (unfolds_on s own (net_of s).events e t).0

  pub events_is : k ≡ (net_of s).events
  events_is = (unfolds_on s (Ok 0) (net_of s).events e t).1

  pub few_events : k ≤ 256
  few_events = omega (arith, events_is, l.counted.marked.limits.few_events)

  conditions_is_lem : w ≡ (net_of s).conditions
  conditions_is_lem = let j = unfolds_judged s (Ok 0) (net_of s).events e t in q ∙ conditions_are_all s j.0 j.1

  pub few_conditions : w ≤ 256
  few_conditions = omega (arith, conditions_is_lem, l.counted.marked.limits.few_conditions)

  pub owner_sums : Sums (width (net_of s)) w bases × (w ≤ 256)
  owner_sums = (subst (λ (c : ℕ). Sums (width (net_of s)) c bases) (sym conditions_is_lem) l.sums, few_conditions)

  module _ (i b : ℕ) (o : Owns (width (net_of s)) w i b) where
    pub number_past : w ≤ b → refused_at 10 0 ≡ condition_origin_of s i
    unfolding condition_count
    number_past h =
        let top : b ≡ (net_of s).conditions = omega (arith, o.most, conditions_is_lem) in
        told_past s i on (subst (λ (c : ℕ). sum (width (net_of s)) c ≤ i) top o.from)

    module _ (h : b < w) where
      below : b < (net_of s).conditions
      below = omega (arith, conditions_is_lem)

      pub base_low : (x : ℕ) → x ≡ get_or bases b 0 → x ≤ i
      base_low x z = omega (arith, o.from, l.sums.at b (omega (arith, below)))

      pub number_ordinary : (f : Bool) → f ≡ flagged s b → f ≡ false → Ok (show.Ordinary (record { 0 = b })) ≡ condition_origin_of s i
      number_ordinary f g z = told_ordinary s i on b below o.from (o.below h) (sym (l.counted.marked.flags b) ∙ sym g ∙ z)

      module _ (f : Bool) (g : f ≡ flagged s b) (z : f ≡ true) (x : ℕ) (c : x ≡ get_or bases b 0) (y : ℕ) (d : y ≡ get_or us b 0) where
        base_is : x ≡ sum (width (net_of s)) b
        base_is = c ∙ l.sums.at b (omega (arith, below))

        users_is : y ≡ length (users (net_of s) b)
        users_is = d ∙ uses_at s ms us l.counted b (omega (arith, few_conditions))

        kept : (net_of s).persistent b ≡ true
        kept = sym (l.counted.marked.flags b) ∙ sym g ∙ z

        pub user_some : 0 < y
        user_some = omega (arith, users_is, some_user s i on b below o.from (o.below h) kept)

        pub marker_low : (i - x) / y < length (markers (net_of s) b)
        marker_low = rw (base_is, users_is) (place_low s i on b below o.from (o.below h) kept)

        pub number_copy : (m : declared.Marker) → m ≡ shown (get_or (markers (net_of s) b) ((i - x) / y) at_start) → (v : ℕ) → v ≡ get_or (having (net_of s) false b k) ((i - x) % y) 0
            → Ok (show.Copy (record { 0 = b }) m (record { 0 = v })) ≡ condition_origin_of s i
        number_copy m a v n =
            told_copy s i on b below o.from (o.below h) kept m (a ∙ rw (base_is, users_is)) k v events_is (n ∙ rw (base_is, users_is))

      pub user_small : (v j : ℕ) → v ≡ get_or (having (net_of s) false b k) j 0 → v ≤ 256
      user_small v j n = omega (arith, n, kept_below (λ e. mem b (list_of (net_of s) false e)) 0 k j, few_events)
