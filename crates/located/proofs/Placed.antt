-- What the places of markers and users come to: the numbers of the unfolded conditions that stop an event, and which conditions these are.
use Prim.Native.Nat.{ℕ, ◌+◌, ◌*◌, ◌≤◌, ◌<◌}
use native.Mathlib.Omega.{arith}
use mathlib.Core.Path.{◌≡◌, refl, sym, ap, ◌∙◌, subst}
use mathlib.Core.Bool.{Bool, true, false, not, ◌&&◌, cond}
use mathlib.Core.Option.{Option, none, some}
use mathlib.Core.List.{List}
use lib.Dec.{T, eqb}
use lib.ListN.{get_or}
use Rattle.lists.specs.Lists.{mem, failing, index, sum, ◌∈◌}
use Rattle.lists.proofs.Lowest.{failing_lowest}
use Rattle.model.specs.Net.{Net, Sound, first_stop}
use Rattle.model.specs.Runs.{Marker, by_event}
use Rattle.model.specs.Unfolding.{same_marker, ordinary, copy, markers, users, unfolded_conditions}
use Rattle.model.specs.Numbering.{condition_number, width}
use Rattle.model.proofs.Counts.{distinct_users}
use Rattle.table.specs.Decoded.{net_of}
use Rattle.tally.specs.Having.{having}
use Rattle.colours.specs.Colours.{flagged}
use Rattle.layout.proofs.Counts.{user_place, uses_at}
use Rattle.stopping.specs.Table.{Cause, step_of}
use Rattle.stopping.specs.declared.Cause.TheVariants.{Lacks, Meets}
use Rattle.std.specs.Prelude.{Err}
use Rattle.decided.specs.Decided.{Picks, ready, clear, stopped_by, lacked_condition, met_condition}
use Rattle.decided.specs.Kept.{marker_at}
use Rattle.decided.proofs.Named.{not_clear, left, lacked_in, met_in}
use Rattle.decided.proofs.Tests.{own_kept}
use Rattle.located.specs.Located.{passed_at, Locating, Left, Named, Told}
use Rattle.located.proofs.Numbers.{number_low, ordinary_number_lem, copy_number_lem, kept_in, kept_place, left_place}

module _ (s ms us : List ℕ) (events e : ℕ) (places kept : List ℕ) (q : Locating s ms us events e places kept) where
  abbrev n : Net
  n = net_of s

  abbrev pick : Picks
  pick = marker_at n places

  sound : Sound n
  sound = q.counted.marked.limits.sound

  low : (b : ℕ) → b < n.conditions → b < 256
  low b h = omega (arith, q.counted.marked.limits.few_conditions)

  told_by_lem : (b : ℕ) {t : Bool} → flagged s b ≡ t → n.persistent b ≡ t
  told_by_lem b f = sym (q.counted.marked.flags b) ∙ f

  -- a copy by the places of its marker and its user
  copied : (b : ℕ) → b < n.conditions → (m : Marker) (u : ℕ) → copy b m u ∈ unfolded_conditions n → {first marker w user : ℕ} → first ≡ sum (width n) b
      → marker ≡ index (same_marker m) (markers n b) → w ≡ get_or us b 0 → user ≡ index (eqb u) (users n b) → first + (marker * w + user) ≡ condition_number n (copy b m u)
  copied b h m u i x y z w = rw (x, y, z, w, uses_at s ms us q.counted b (low b h)) (copy_number_lem n b m u i)

  -- ---- a precondition

  module _ (b : ℕ) (t : T (mem b (n.preconditions e))) where
    pub pre_below : b < n.conditions
    pre_below = sound.pre_in e b q.event t

    there : lacked_condition n pick e b ∈ unfolded_conditions n
    there = lacked_in n pick e b sound q.event t (λ _. kept_in n places kept q.held b (low b pre_below))

    pub lacked_fits : condition_number n (lacked_condition n pick e b) ≤ 65535
    lacked_fits = number_low n q.few (lacked_condition n pick e b) there

    pub lacked_ordinary : flagged s b ≡ false → {first : ℕ} → first ≡ sum (width n) b → first ≡ condition_number n (lacked_condition n pick e b)
    lacked_ordinary f x =
        let p : n.persistent b ≡ false = told_by_lem b f in
        let i : ordinary b ∈ unfolded_conditions n = rw p at there in
        rw p (x ∙ ordinary_number_lem n b i)

    pub lacked_copy : flagged s b ≡ true → {first marker w reader : ℕ} → first ≡ sum (width n) b → marker ≡ get_or places b 0 → w ≡ get_or us b 0
        → reader ≡ index (eqb e) (having n false b events) → first + (marker * w + reader) ≡ condition_number n (lacked_condition n pick e b)
    lacked_copy f x y z w =
        let p : n.persistent b ≡ true = told_by_lem b f in
        let i : copy b (pick b) e ∈ unfolded_conditions n = rw p at there in
        rw p (copied b pre_below (pick b) e i x (y ∙ sym (kept_place n places kept q.held b (low b pre_below))) z (w ∙ user_place n b e events q.all))

  -- ---- a postcondition

  module _ (b : ℕ) (t : T (mem b (n.postconditions e)) × Left n pick e b) where
    pub post_below : b < n.conditions
    post_below = sound.post_in e b q.event t.0

    put_there : met_condition n pick e b ∈ unfolded_conditions n
    put_there = met_in n pick e b sound q.event t.0 t.1

    pub met_fits : condition_number n (met_condition n pick e b) ≤ 65535
    met_fits = number_low n q.few (met_condition n pick e b) put_there

    pub met_ordinary : flagged s b ≡ false → {first : ℕ} → first ≡ sum (width n) b → first ≡ condition_number n (met_condition n pick e b)
    met_ordinary f x =
        let p : n.persistent b ≡ false = told_by_lem b f in
        let i : ordinary b ∈ unfolded_conditions n = rw p at put_there in
        rw p (x ∙ ordinary_number_lem n b i)

    -- the users that are passed over
    user_left : n.persistent b ≡ true → passed_at e places kept b (index (eqb e) (users n b)) ≡ index (eqb (left n pick e b)) (users n b)
    user_left p =
        let own : same_marker (by_event e) (pick b) ≡ (not (eqb (get_or places b 0) 0) && eqb e (get_or kept b 0))
        = ap (same_marker (by_event e)) (q.held.each b (low b post_below)) ∙ own_kept e (get_or places b 0) (get_or kept b 0) in
        ap (λ (x : Bool). cond (x && eqb (index (eqb e) (users n b)) 0) 1 0) (sym own)
        ∙ sym (left_place e (same_marker (by_event e) (pick b)) (users n b) (distinct_users n b) (t.1 p))

    pub met_copy : flagged s b ≡ true → {first marker w before : ℕ} → first ≡ sum (width n) b → marker ≡ index (same_marker (by_event e)) (markers n b) → w ≡ get_or us b 0
        → before ≡ passed_at e places kept b (index (eqb e) (having n false b events)) → first + (marker * w + before) ≡ condition_number n (met_condition n pick e b)
    met_copy f x y z w =
        let p : n.persistent b ≡ true = told_by_lem b f in
        let i : copy b (by_event e) (left n pick e b) ∈ unfolded_conditions n = rw p at put_there in
        rw p (copied b post_below (by_event e) (left n pick e b) i x y z (w ∙ ap (passed_at e places kept b) (user_place n b e events q.all) ∙ user_left p))

  -- ---- what stops an event names one of its conditions

  pub told_named : (x : Cause) → Told n pick e (Err x) → Named n pick e x
  unfolding stopped_by
  told_named x d = go (failing (ready n d.marking d.seen pick) (n.preconditions e)) (failing (clear n d.marking d.seen pick e) (n.postconditions e)) refl refl d.told
    where
      go : (a c : Option ℕ) → failing (ready n d.marking d.seen pick) (n.preconditions e) ≡ a → failing (clear n d.marking d.seen pick e) (n.postconditions e) ≡ c
          → Err x ≡ step_of (first_stop true a c) → Named n pick e x
      go none none z y w = absurd (let v : ◌≡◌ {A = ℕ} 0 1 = cc in omega arith)
      go none (some b) z y w =
          let v : Meets (record { 0 = b }) ≡ x = cc in
          let r = failing_lowest (clear n d.marking d.seen pick e) (n.postconditions e) (sound.post_ascends_lem e q.event) b y in
          subst (Named n pick e) v (r.inside, not_clear n pick e b d.marking d.seen r.fails)
      go (some b) c z y w =
          let v : Lacks (record { 0 = b }) ≡ x = cc in
          let r = failing_lowest (ready n d.marking d.seen pick) (n.preconditions e) (sound.pre_ascends_lem e q.event) b z in
          subst (Named n pick e) v r.inside
